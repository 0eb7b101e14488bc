-- `Reached n s`: what holds of every run that steps lead to, as a statement about the run itself. It is shut: other crates know it by its laws alone.
-- The new run has it, every step keeps it, and from it follow demand 3 and what else is known of reached runs. Assumes nothing.
use mathlib.Core.Path.{◌≡◌, refl}
use Prim.Native.Nat.{ℕ, zero, suc, ◌+◌, ◌*◌, ◌≤◌}
use mathlib.Core.Bool.{true, false}
use mathlib.Core.List.{List, [], ◌∷◌}
use native.Mathlib.Omega.{arith}
use Rattle.published.specs.Rounds.{Run, running, none, chosen, absent, find, decides, settled, Step, Answer, refuse, done, step, run_from, new_run, new_bench}
use Rattle.common.specs.Worlds.{member}
use Rattle.common.specs.Benches.{In}
use Rattle.published.proofs.Moves.{live, Outcome, refused, moved, step_outcome}
use Rattle.published.proofs.Invariant.{Base, positive}
use Rattle.published.specs.Proposals.{M, Proposed, NotAboveOwn}
use Rattle.published.specs.Pause.{NoRoundAbove, NoFailDone}
use Rattle.published.proofs.Messages.{never}
use Rattle.published.proofs.Decisions.{Inv, cert_now, inv_move, inv_new}
use Rattle.published.proofs.Highest.{Few, goes_to}
use Rattle.published.proofs.HighestKept.{few_move, few_new}
use Rattle.published.proofs.Window as window
use Rattle.published.proofs.TwoMore as pause

-- what every step keeps: of decisions, and of how far rounds have come
record Whole (n : ℕ) (s : Run) : Type 0 where
  pub inv : Inv n s
  pub few : Few n s

pub Reached : ℕ → Run → Type 0
Reached n s = Whole n s

-- ---- new runs have it, steps keep it

pub reached_new : (n : ℕ) → Reached n new_run
unfolding Reached
reached_new n = record { inv = inv_new n; few = few_new n }

reached_outcome : (n : ℕ) (s : Run) → Reached n s → (a : Step) (r : Answer) → Outcome n s a r → Reached n r.run
unfolding Reached refuse done
reached_outcome n s h a r (refused k f) = h
reached_outcome n s h a r (moved b x m) = record { inv = inv_move n s h.inv a b x m; few = few_move n s h.inv.base h.few a b x m }

pub reached_step : (n : ℕ) (s : Run) → Reached n s → (a : Step) → Reached n (step n s a).run
reached_step n s h a = reached_outcome n s h a (step n s a) (step_outcome n s a)

pub reached_from : (n : ℕ) (s : Run) → Reached n s → (l : List Step) → Reached n (run_from n s l)
unfolding run_from
reached_from n s h [] = h
reached_from n s h (a ∷ l) = reached_from n (step n s a).run (reached_step n s h a) l

pub reached_run : (n : ℕ) (l : List Step) → Reached n (run_from n new_run l)
reached_run n l = reached_from n new_run (reached_new n) l

-- ---- what follows

proposed_message : (n : ℕ) (s : Run) → Base n s → (i r v w : ℕ) → M s i r v w → Proposed s v
proposed_message n s h i zero v w m = positive n s h i v w m
proposed_message n s h i (suc zero) v w m = record { by = i; by_world = w; by_message = m }
proposed_message n s h i (suc (suc r)) v w m = let o = (h.came i r v w m).origin in proposed_message n s h o.from (suc r) v o.from_world o.from_msg

not_above_message : (n : ℕ) (s : Run) → Base n s → (i r v w : ℕ) → M s i r v w → NotAboveOwn s i v
not_above_message n s h i zero v w m = positive n s h i v w m
not_above_message n s h i (suc zero) v w m = record { own_value = v; own_world = w; own_message = m; not_above = omega arith }
not_above_message n s h i (suc (suc r)) v w m =
    let c = h.came i r v w m in let o = not_above_message n s h i (suc r) c.value₀ c.world₀ c.before in
    record { own_value = o.own_value; own_world = o.own_world; own_message = o.own_message; not_above = omega (arith, o.not_above, c.le) }

module _ (n : ℕ) (s : Run) (h : Reached n s) where
  -- the whole invariant, for theorems that need more of it
  pub reached_base : Base n s
  unfolding Reached
  reached_base = h.inv.base

  pub decisions_agree : (i j d e : ℕ) → (s i).decision ≡ chosen d → (s j).decision ≡ chosen e → d ≡ e
  unfolding Reached
  decisions_agree i j d e p q = h.inv.agree i j d e p q

  -- a bench that may still start, or runs, has decided nothing
  pub live_undecided : (b : ℕ) → live (s b).state ≡ true → (s b).decision ≡ none
  unfolding Reached
  live_undecided b l = h.inv.undecided b l

  pub decision_proposed : (i d : ℕ) → (s i).decision ≡ chosen d → Proposed s d
  unfolding Reached
  decision_proposed i d e = let c = h.inv.cert i d e in proposed_message n s h.inv.base i c.r d c.w c.said_it

  pub decision_not_above : (i d : ℕ) → (s i).decision ≡ chosen d → NotAboveOwn s i d
  unfolding Reached
  decision_not_above i d e = let c = h.inv.cert i d e in not_above_message n s h.inv.base i c.r d c.w c.said_it

  -- A.12: nobody who can still turn is more than one round behind anybody who started
  pub one_ahead : (i b r v w : ℕ) → (s b).state ≡ running → M s i r v w → r ≤ suc (s b).round
  one_ahead = window.one_ahead n s reached_base

  -- a member of a later world has sent the round before
  pub members_heard : (i r v w : ℕ) → M s i (suc (suc r)) v w → (j : ℕ) → In n j → member j w ≡ true → (u : ℕ) × (y : ℕ) × (M s j (suc r) u y)
  members_heard i r v w m j hj mj = let o = (reached_base.came i r v w m).all_heard j hj mj in (o.value_of, o.the_world, o.msg)

  -- a running bench has the value that was decided
  pub decided_value : (i d : ℕ) → (s i).decision ≡ chosen d → (b : ℕ) → (s b).state ≡ running → (s b).value ≡ d
  unfolding Reached
  decided_value i d e = cert_now n s h.inv.base i d (h.inv.cert i d e)

  -- no round above 2 n + 1 was sent, and nobody goes on to one
  pub none_higher : NoRoundAbove (2 * n + 1) s
  unfolding Reached
  none_higher = h.few.all

  pub next_round_lem : (b : ℕ) → (s b).state ≡ running → decides n b (s b) ≡ false → settled n b (s b) ≡ true → suc (s b).round ≤ 2 * n + 1
  unfolding Reached
  next_round_lem = goes_to n s h.inv.base h.few

-- ---- how long after the last failure

-- 5.4: from a reached run in which nobody has sent a round above r, r being at least 1, and without further failures, no round above r + 2 is ever sent
pub two_more : (n : ℕ) (s : Run) → Reached n s → (r : ℕ) → 1 ≤ r → NoRoundAbove r s
    → (l : List Step) → NoFailDone n s l → NoRoundAbove (r + 2) (run_from n s l)
two_more n s h r pos = pause.two_more n r pos s (reached_base n s h)

-- 5.5: from one in which nobody has sent anything, no round above 3
pub three_at_most : (n : ℕ) (s : Run) → Reached n s → NoRoundAbove 0 s → (l : List Step) → NoFailDone n s l → NoRoundAbove 3 (run_from n s l)
three_at_most n s h z = two_more n s h 1 (omega arith) (λ b q v w m. omega (arith, z b q v w m))

pub none_sent : NoRoundAbove 0 new_run
unfolding new_run new_bench find
none_sent b q v w m = never absent v w refl m
