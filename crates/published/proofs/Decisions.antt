-- Decisions: whoever may still start or runs has made none. Each has a certificate, that all members of the world in which it was made say the same in
-- that round or never will; later rounds then say the same (A.11), and a running bench stands in every world, so it cannot decide otherwise.
-- Every move keeps this. Assumes nothing.
use mathlib.Core.Path.{◌≡◌, refl, sym, ◌∙◌}
use Prim.Native.Nat.{ℕ, zero, suc, ◌≤◌}
use mathlib.Core.Bool.{true}
use native.Mathlib.Omega.{arith}
use lib.Dec.{eqb}
use borrow.Author.Tests.{eqb-true, eqb-false}
use Rattle.published.specs.Rounds.{Run, Bench, running, none, chosen, is_fresh, is_running, find, has_out, got, see, agrees, decides, decides_on, new_run, new_bench, in_state, in_round, sending, taking, noticing, choosing, entering, parting, deciding, advancing, Step}
use Rattle.common.specs.Worlds.{member, within}
use Rattle.common.specs.Updates.{put}
use Rattle.common.proofs.Tests.{both, split, clash}
use Rattle.common.proofs.Updates.{put_ind}
use Rattle.common.specs.Benches.{In}
use Rattle.common.proofs.Worlds.{every_in_get, Sub, within_get}
use Rattle.published.proofs.Messages.{never}
use Rattle.published.proofs.Views.{view_of_ind}
use Rattle.published.proofs.Moves.{live, fresh_live, running_live, Move, starts, abstains, leaves, leaves_silent, fails, takes, notices, concludes, advances}
use Rattle.published.proofs.Invariant.{Mute, Base, running_bench, running_in}
use Rattle.published.specs.Proposals.{M}
use Rattle.published.proofs.Changes.{mono, mute_mono}
use Rattle.published.proofs.NextRound.{got_found, got_mute}
use Rattle.published.proofs.Effects.{Effect, effect, base_move, base_new}

-- a member j of the world w in which d was decided in round r has said the same there, or never says anything in round r
pub data Agreed (n : ℕ) (s : Run) (r d w j : ℕ) : Type 0 where
  said : (y : ℕ) → M s j r d y → Sub n y w → Agreed n s r d w j
  never_will : Mute s r j → Agreed n s r d w j

-- bench i decided d in round r with world w
pub record Cert (n : ℕ) (s : Run) (i d : ℕ) : Type 0 where
  pub r : ℕ
  pub w : ℕ
  pub said_it : M s i r d w
  pub all_agreed : (j : ℕ) → In n j → member j w ≡ true → Agreed n s r d w j

pub record Inv (n : ℕ) (s : Run) : Type 0 where
  pub base : Base n s
  pub cert : (i d : ℕ) → (s i).decision ≡ chosen d → Cert n s i d
  pub agree : (i j d e : ℕ) → (s i).decision ≡ chosen d → (s j).decision ≡ chosen e → d ≡ e
  pub undecided : (b : ℕ) → live (s b).state ≡ true → (s b).decision ≡ none

-- ---- after a decision, later rounds say the same

module _ (n : ℕ) (s : Run) (h : Base n s) where
  -- all members of w that have sent round r have sent value d and a world within w
  abbrev Same : ℕ → ℕ → ℕ → Type 0
  Same r d w = (j u y : ℕ) → In n j → member j w ≡ true → M s j r u y → (u ≡ d) × Sub n y w

  same_next : (r d w : ℕ) → Same (suc r) d w → Same (suc (suc r)) d w
  same_next r d w hs j u y hj mj m =
      let c = h.came j r u y m in let o = c.origin in
      let up : Sub n y w = λ k hk mk. (hs j c.value₀ c.world₀ hj mj c.before).1 k hk (c.sub k hk mk) in
      ((hs o.from u o.from_world o.from_in (up o.from o.from_in o.from_member) o.from_msg).0, up)

  same_later : (r d w q : ℕ) → Same r d w → 1 ≤ r → r ≤ q → Same q d w
  same_later r d w zero hs p le = absurd (omega arith)
  same_later r d w (suc zero) hs p le = let e : r ≡ 1 = omega arith in rw e at hs
  same_later r d w (suc (suc q)) hs p le = split (eqb r (suc (suc q)))
      (λ e. rw (eqb-true r (suc (suc q)) e) at hs)
      (λ e. let ne = eqb-false r (suc (suc q)) e in same_next q d w (same_later r d w (suc q) hs p (omega arith)))

  cert_same : (i d : ℕ) (c : Cert n s i d) → Same c.r d c.w
  cert_same i d c j u y hj mj m = elim (c.all_agreed j hj mj) [
    | said z m' sub ↦ let e : u ≡ d = cc in let e' : y ≡ z = cc in (e, rw e' sub)
    | never_will o ↦ never (find c.r (s j).sent) u y o.not_sent m
  ]

  -- the value of a running bench is what was decided
  pub cert_now : (i d : ℕ) → Cert n s i d → (b : ℕ) → (s b).state ≡ running → (s b).value ≡ d
  cert_now i d c b k =
      let hb = running_bench n s h b k in
      let m = running_in n s h i b c.r d c.w k c.said_it in
      elim (c.all_agreed b hb m) [
        | said y m' sub ↦ let p = (h.wf b).upto c.r d y m' in
            (same_later c.r d c.w (s b).round (cert_same i d c) p.0 p.1 b (s b).value (s b).world hb m ((h.wf b).now k)).0
        | never_will o ↦ let z = (h.wf b).quiet (running_live k) in let z₂ = o.has_out_lem in cc
      ]

  -- what the test of a decision says
  agreed_now : (b : ℕ) → decides n b (s b) ≡ true → (j : ℕ) → In n j → member j (s b).world ≡ true → Agreed n s (s b).round (s b).value (s b).world j
  unfolding decides decides_on see agrees
  agreed_now b t j hj m = view_of_ind (λ z. agrees n (s b).value (s b).world z ≡ true → Agreed n s (s b).round (s b).value (s b).world j)
      (find (s b).round (got b (s b) j)) (has_out (got b (s b) j)) ((s b).noticed j)
      (λ u y e q. let p = both (eqb u (s b).value) (within n y (s b).world) q in
      said y (rw (eqb-true u (s b).value p.0) at (got_found n s h b j (s b).round u y e)) (within_get n y (s b).world p.1))
      (λ e o q. never_will (got_mute n s h b j (s b).round e o))
      (λ e o g q. clash (cc)) (λ e o g q. clash (cc))
      (every_in_get n (s b).world (λ i. agrees n (s b).value (s b).world (see b (s b) i)) j t hj m)

-- ---- every move

module _ (n : ℕ) (s : Run) (h : Inv n s) where
  cert_mono : (b : ℕ) (x : Bench) → Effect n s b x → (i d : ℕ) → Cert n s i d → Cert n (put s b x) i d
  cert_mono b x f i d c = record {
    r = c.r;
    w = c.w;
    said_it = mono s b x f.extra f.change i c.r d c.w c.said_it;
    all_agreed = λ j hj m. elim (c.all_agreed j hj m) [
      | said y m' sub ↦ said y (mono s b x f.extra f.change j c.r d y m') sub
      | never_will o ↦ never_will (mute_mono s b x f.extra f.change c.r j o)
    ];
  }

  -- nothing is decided
  keeps : (b : ℕ) (x : Bench) → Effect n s b x → Base n (put s b x) → x.decision ≡ (s b).decision → (live x.state ≡ true → live (s b).state ≡ true) → Inv n (put s b x)
  keeps b x f base' e k = record {
    base = base';
    cert = λ i d q. cert_mono b x f i d (h.cert i d (same i ∙ q));
    agree = λ i j d f p q. h.agree i j d f (same i ∙ p) (same j ∙ q);
    undecided = λ i. put_ind (λ y. live y.state ≡ true → y.decision ≡ none) s b x i (λ q l. e ∙ h.undecided b (k l)) (λ q. h.undecided i);
  }
    where
      same : (i : ℕ) → (s i).decision ≡ (put s b x i).decision
      same i = put_ind (λ y. (s i).decision ≡ y.decision) s b x i (λ q. rw q (sym e)) (λ q. refl)

  decided_now : (b : ℕ) → Effect n s b (deciding (s b)) → Base n (put s b (deciding (s b))) → (s b).state ≡ running → decides n b (s b) ≡ true → Inv n (put s b (deciding (s b)))
  unfolding deciding parting sending in_state choosing live is_fresh is_running
  decided_now b f base' k t = record {
    base = base';
    cert = λ i d. put_ind (λ y. y.decision ≡ chosen d → Cert n (put s b (deciding (s b))) i d) s b (deciding (s b)) i
        (λ e q. let q' : (s b).value ≡ d = cc in rw (e, ← q') (cert_mono b (deciding (s b)) f b (s b).value now_cert))
        (λ e q. cert_mono b (deciding (s b)) f i d (h.cert i d q));
    agree = λ i j d e p q. this i d p ∙ sym (this j e q);
    undecided = λ i. put_ind (λ y. live y.state ≡ true → y.decision ≡ none) s b (deciding (s b)) i (λ q l. clash (cc)) (λ q. h.undecided i);
  }
    where
      now_cert : Cert n s b (s b).value
      now_cert = record { r = (s b).round; w = (s b).world; said_it = (h.base.wf b).now k; all_agreed = agreed_now n s h.base b t }

      this : (i d : ℕ) → (put s b (deciding (s b)) i).decision ≡ chosen d → d ≡ (s b).value
      this i d = put_ind (λ y. y.decision ≡ chosen d → d ≡ (s b).value) s b (deciding (s b)) i
          (λ e q. cc) (λ e q. sym (cert_now n s h.base i d (h.cert i d q) b k))

  by_move : (a : Step) (b : ℕ) (x : Bench) → Move n s a b x → Effect n s b x → Base n (put s b x) → Inv n (put s b x)
  unfolding entering parting advancing in_state in_round sending taking noticing live is_fresh is_running
  by_move a d x (starts b v w hb k hv hw mb c₆ c₇) f g = keeps b _ f g refl (λ l. fresh_live k)
  by_move a d x (abstains b hb k) f g = keeps b _ f g refl (λ l. cc)
  by_move a d x (leaves b hb u o) f g = keeps b _ f g refl (λ l. cc)
  by_move a d x (leaves_silent b hb u o) f g = keeps b _ f g refl (λ l. cc)
  by_move a d x (fails b hb u) f g = keeps b _ f g refl (λ l. cc)
  by_move a d x (takes b c m q hb hf ne l z e) f g = keeps b _ f g refl (λ q. q)
  by_move a d x (notices b c hb hf ne l e z) f g = keeps b _ f g refl (λ q. q)
  by_move a d x (concludes b hb k e) f g = decided_now b f g k e
  by_move a d x (advances b hb k e t) f g = keeps b _ f g refl (λ l. running_live k)

  pub inv_move : (a : Step) (b : ℕ) (x : Bench) → Move n s a b x → Inv n (put s b x)
  inv_move a b x m = by_move a b x m (effect n s h.base a b x m) (base_move n s h.base a b x m)

pub inv_new : (n : ℕ) → Inv n new_run
unfolding new_run new_bench
inv_new n = record { base = base_new n; cert = λ i d z. clash (cc); agree = λ i j d e p q. cc; undecided = λ b l. refl }
