-- What is proved of the published rounds, for every number of benches n and every list of steps from the empty run, refused ones among them. Each
-- statement stands below its words; the proofs are in the other files. Assumes nothing.
use mathlib.Core.Path.{◌≡◌, sym, ◌∙◌}
use Prim.Native.Nat.{ℕ, suc, ◌+◌, ◌*◌, ◌≤◌}
use mathlib.Core.Bool.{true}
use mathlib.Core.List.{List, ◌∷◌, ◌++◌, map}
use native.Mathlib.Omega.{arith}
use Rattle.published.specs.Rounds.{Run, running, chosen, Step, turn, step, run_from, answers, new_run}
use Rattle.common.specs.Worlds.{member}
use Rattle.common.specs.Benches.{In}
use Rattle.common.specs.Lists.{OneOf}
use Rattle.published.specs.Refusals.{refusals}
use Rattle.published.specs.Accepted.{accepted}
use Rattle.published.specs.History.{history}
use Rattle.published.specs.Proposals.{M, Proposed, NotAboveOwn}
use Rattle.published.specs.Pause.{NoRoundAbove, NoFailDone}
use Rattle.published.specs.Limited.{limited_from, limited_answers}
use Rattle.published.proofs.Reached.{reached_new, reached_run, none_sent, none_higher, decisions_agree, decision_proposed, decision_not_above}
use Rattle.published.proofs.Reached as reached
use Rattle.published.proofs.SameRuns.{same_run, same_answers}
use Rattle.published.proofs.Lists.{run_append}
use Rattle.published.proofs.Refusals as refusing
use Rattle.published.proofs.Locality as local

module _ (n : ℕ) where
  -- Agreement: all recorded decisions are equal, those of benches that left or failed later included.
  pub agreement : (l : List Step) (i j d e : ℕ) → (run_from n new_run l i).decision ≡ chosen d → (run_from n new_run l j).decision ≡ chosen e → d ≡ e
  agreement l = decisions_agree n (run_from n new_run l) (reached_run n l)

  -- Validity: a decision is the value that some bench started with.
  pub validity : (l : List Step) (i d : ℕ) → (run_from n new_run l i).decision ≡ chosen d → Proposed (run_from n new_run l) d
  validity l = decision_proposed n (run_from n new_run l) (reached_run n l)

  -- No bench decides above its own proposal.
  pub not_above_own : (l : List Step) (i d : ℕ) → (run_from n new_run l i).decision ≡ chosen d → NotAboveOwn (run_from n new_run l) i d
  not_above_own l = decision_not_above n (run_from n new_run l) (reached_run n l)

  -- A refused step returns the run itself.
  pub refused_same : (s : Run) (a : Step) → ((step n s a).number ≡ 0 → ⊥) → (step n s a).run ≡ s
  refused_same = refusing.refused_same n

  -- A list with its refused steps left out gives the same run, and every step that is left is answered 0.
  pub without_refused : (l : List Step) → run_from n new_run (accepted n new_run l) ≡ run_from n new_run l
  without_refused = refusing.without_refused n new_run

  pub accepted_done : (l : List Step) → answers n new_run (accepted n new_run l) ≡ map (λ a. 0) (accepted n new_run l)
  accepted_done = refusing.accepted_done n new_run

  -- A step answers 0 or one of the numbers that document 01 lists for it.
  pub number_among : (s : Run) (a : Step) → OneOf (step n s a).number (0 ∷ refusals a)
  number_among = refusing.number_among n

  -- Locality: two lists of steps that bring the same history to bench b leave it the same, and turn then answers it the same number and makes the same of it.
  pub history_decides : (l l' : List Step) (b : ℕ) → history n new_run b l ≡ history n new_run b l' → run_from n new_run l b ≡ run_from n new_run l' b
  history_decides l l' b e = local.bench_history n new_run b l ∙ rw e (sym (local.bench_history n new_run b l'))

  pub turn_number_local : (l l' : List Step) (b : ℕ) → history n new_run b l ≡ history n new_run b l'
      → (step n (run_from n new_run l) (turn b)).number ≡ (step n (run_from n new_run l') (turn b)).number
  turn_number_local l l' b e = local.turn_number n (run_from n new_run l) (run_from n new_run l') b (history_decides l l' b e)

  pub turn_becomes_local : (l l' : List Step) (b : ℕ) → history n new_run b l ≡ history n new_run b l'
      → (step n (run_from n new_run l) (turn b)).run b ≡ (step n (run_from n new_run l') (turn b)).run b
  turn_becomes_local l l' b e = local.turn_becomes n (run_from n new_run l) (run_from n new_run l') b (history_decides l l' b e)

  -- A.12: nobody who can still turn is more than one round behind anybody who started.
  pub one_ahead : (l : List Step) (i b r v w : ℕ) → (run_from n new_run l b).state ≡ running → M (run_from n new_run l) i r v w → r ≤ suc (run_from n new_run l b).round
  one_ahead l = reached.one_ahead n (run_from n new_run l) (reached_run n l)

  -- Whoever stands in the world of a later round has sent the round before: no missed bench is kept.
  pub members_heard : (l : List Step) (i r v w : ℕ) → M (run_from n new_run l) i (suc (suc r)) v w → (j : ℕ) → In n j → member j w ≡ true → (u : ℕ) × (y : ℕ) × (M (run_from n new_run l) j (suc r) u y)
  members_heard l = reached.members_heard n (run_from n new_run l) (reached_run n l)

  -- W8, theorem 5.4: where every bench has last sent round r or an earlier one, r being at least 1, and no fail step is done from there on, no bench ever sends a
  -- message of a round above r + 2.
  pub two_more : (l : List Step) (r : ℕ) → 1 ≤ r → NoRoundAbove r (run_from n new_run l)
      → (m : List Step) → NoFailDone n (run_from n new_run l) m → NoRoundAbove (r + 2) (run_from n new_run (l ++ m))
  two_more l r pos none m nf = rw (run_append n new_run l m) (reached.two_more n (run_from n new_run l) (reached_run n l) r pos none m nf)

  -- Corollary 5.5: where nobody has sent anything yet and no fail step is done from there on, nobody goes past round 3.
  pub three_at_most : (l : List Step) → NoRoundAbove 0 (run_from n new_run l)
      → (m : List Step) → NoFailDone n (run_from n new_run l) m → NoRoundAbove 3 (run_from n new_run (l ++ m))
  three_at_most l none m nf = rw (run_append n new_run l m) (reached.three_at_most n (run_from n new_run l) (reached_run n l) none m nf)

  -- So nobody does in a run without failures.
  pub three_without_failures : (l : List Step) → NoFailDone n new_run l → NoRoundAbove 3 (run_from n new_run l)
  three_without_failures = reached.three_at_most n new_run (reached_new n) none_sent

  -- W9: nobody ever sends a message of a round above 2 n + 1; so, n being at least 1, of none above 6 n.
  pub rounds_end : (l : List Step) → NoRoundAbove (2 * n + 1) (run_from n new_run l)
  rounds_end l = none_higher n (run_from n new_run l) (reached_run n l)

  pub six_times : 1 ≤ n → (l : List Step) → NoRoundAbove (6 * n) (run_from n new_run l)
  six_times pos l b q v w m = omega (arith, rounds_end l b q v w m)

  -- So document 01's refusal 12 was never met: with its limit at 6 n every run and every answer is the same.
  pub no_limit : 1 ≤ n → (l : List Step) → (limited_from n (6 * n) new_run l ≡ run_from n new_run l) × (limited_answers n (6 * n) new_run l ≡ answers n new_run l)
  no_limit pos l = (same_run n (6 * n) (omega arith) new_run (reached_new n) l, same_answers n (6 * n) (omega arith) new_run (reached_new n) l)
