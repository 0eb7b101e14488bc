-- What a step adds to the record of a reached run: a decision stays as it is, and a proposal comes only from an accepted start. Assumes nothing.
use mathlib.Core.Path.{◌≡◌, refl, sym, ap, ◌∙◌}
use Prim.Native.Nat.{ℕ, suc, ◌≤◌}
use mathlib.Core.List.{[], ◌∷◌, ◌++◌}
use native.Mathlib.Omega.{arith}
use Rattle.published.specs.Rounds.{Run, Bench, Round, found, chosen, find, in_state, in_round, sending, taking, noticing, choosing, entering, parting, deciding, advancing, next_value, next_world, Step, Answer, refuse, done, step}
use Rattle.common.proofs.Updates.{put_ind}
use Rattle.published.proofs.Messages.{find_append, find_one, find_out}
use Rattle.published.proofs.Moves.{Move, starts, abstains, leaves, leaves_silent, fails, takes, notices, concludes, advances, Outcome, refused, moved, step_outcome}
use Rattle.published.specs.Proposals.{M, Proposal, earlier, now}
use Rattle.published.proofs.Reached.{Reached, reached_base, decided_value}

module _ (n : ℕ) (s : Run) (h : Reached n s) where
  -- ---- decisions

  kept : (a : Step) (b : ℕ) (x : Bench) (d : ℕ) → Move n s a b x → (s b).decision ≡ chosen d → x.decision ≡ chosen d
  unfolding entering parting deciding advancing in_state in_round sending taking noticing choosing
  kept a c x d (starts b v w hb k hv hw mb c₆ c₇) q = q
  kept a c x d (abstains b hb k) q = q
  kept a c x d (leaves b hb u o) q = q
  kept a c x d (leaves_silent b hb u o) q = q
  kept a c x d (fails b hb u) q = q
  kept a c x d (takes b f m l hb hf ne z g e) q = q
  kept a c x d (notices b f hb hf ne l e z) q = q
  kept a c x d (concludes b hb k t) q = let z = decided_value n s h b d q b k in cc
  kept a c x d (advances b hb k t u) q = q

  kept_outcome : (i d : ℕ) → (s i).decision ≡ chosen d → (a : Step) (r : Answer) → Outcome n s a r → (r.run i).decision ≡ chosen d
  unfolding refuse done
  kept_outcome i d e a r (refused k f) = e
  kept_outcome i d e a r (moved b x m) = put_ind (λ y. y.decision ≡ chosen d) s b x i (λ q. kept a b x d m (rw q at e)) (λ q. e)

  pub decision_stays : (i d : ℕ) → (s i).decision ≡ chosen d → (a : Step) → ((step n s a).run i).decision ≡ chosen d
  decision_stays i d e a = kept_outcome i d e a (step n s a) (step_outcome n s a)

  -- ---- proposals

  -- a message of a later round leaves the first as it was
  first_kept : (b r v₀ w₀ v w : ℕ) → 2 ≤ r → find 1 ((s b).sent ++ (Round r v₀ w₀ ∷ [])) ≡ found v w → M s b 1 v w
  first_kept b r v₀ w₀ v w p e = find_append 1 (s b).sent (Round r v₀ w₀ ∷ []) v w e
      (λ z. z) (λ z. absurd (omega (arith, (find_one 1 r v₀ w₀ v w z).0)))

  proposal : (a : Step) (b : ℕ) (x : Bench) (v w : ℕ) → Move n s a b x → find 1 x.sent ≡ found v w → (step n s a).number ≡ 0 → Proposal n s a b v w
  unfolding entering parting deciding advancing in_state in_round sending taking noticing choosing
  proposal a c x v w (starts b v₀ w₀ hb k hv hw mb c₆ c₇) e z =
      let o = find_one 1 1 v₀ w₀ v w (rw (((reached_base n s h).wf b).empty k) at e) in now (rw (o.1, o.2) refl) z
  proposal a c x v w (abstains b hb k) e z = earlier (sym (find_out 1 (s b).sent) ∙ e)
  proposal a c x v w (leaves b hb u o) e z = earlier (sym (find_out 1 (s b).sent) ∙ e)
  proposal a c x v w (leaves_silent b hb u o) e z = earlier e
  proposal a c x v w (fails b hb u) e z = earlier e
  proposal a c x v w (takes b f m q hb hf ne l g i) e z = earlier e
  proposal a c x v w (notices b f hb hf ne l i g) e z = earlier e
  proposal a c x v w (concludes b hb k t) e z = earlier (sym (find_out 1 (s b).sent) ∙ e)
  proposal a c x v w (advances b hb k t u) e z = let g = (reached_base n s h).wf b in
      earlier (first_kept b (suc (s b).round) (next_value n b (s b)) (next_world n b (s b)) v w (omega (arith, g.upto (s b).round (s b).value (s b).world (g.now k))) e)

  proposal_outcome : (a : Step) (i v w : ℕ) (r : Answer) → Outcome n s a r → step n s a ≡ r → M r.run i 1 v w → Proposal n s a i v w
  unfolding refuse done
  proposal_outcome a i v w r (refused k f) e m = earlier m
  proposal_outcome a i v w r (moved b x mv) e m = put_ind (λ y. find 1 y.sent ≡ found v w → Proposal n s a i v w) s b x i
      (λ q z. rw q (proposal a b x v w mv z (ap (λ (t : Answer). t.number) e)))
      (λ q z. earlier z) m

  pub proposal_from : (a : Step) (i v w : ℕ) → M (step n s a).run i 1 v w → Proposal n s a i v w
  proposal_from a i v w m = proposal_outcome a i v w (step n s a) (step_outcome n s a) refl m
