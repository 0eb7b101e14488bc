-- Locality: what a bench is, and so its answer to turn, depends on the steps done at that bench and the messages it took, and on nothing else.
-- Replaying the history of a bench from a new one gives the bench that the run has. Assumes nothing.
use mathlib.Core.Path.{◌≡◌, refl, sym, ap, ◌∙◌}
use Prim.Native.Nat.{ℕ}
use mathlib.Core.Bool.{cond, ◌&&◌}
use mathlib.Core.List.{List, [], ◌∷◌, ◌++◌}
use native.Mathlib.Omega.{arith}
use lib.Dec.{eqb}
use borrow.Author.Tests.{eqb-true, eqb-false, ne_eqb}
use Rattle.published.specs.Rounds.{Run, Bench, Message, turned, taking_first, waiting, Step, start, abstain, leave, fail, turn, arrive, notice, checks, after, refuse, done, step, run_from}
use Rattle.published.specs.History.{Event, befalls, replay, bench_of, took_first, events_of, brings, history}
use Rattle.common.proofs.Tests.{split}
use Rattle.common.proofs.Updates.{put_same, put_other}
use Rattle.common.proofs.Checks.{judge_ind, judge_both}
use Rattle.published.proofs.Numbers.{refusal_range}

-- ---- the bench is what its history makes of it

replay_append : (n b : ℕ) (x : Bench) (l m : List Event) → replay n b x (l ++ m) ≡ replay n b (replay n b x l) m
unfolding replay
replay_append n b x [] m = refl
replay_append n b x (e ∷ l) m = replay_append n b (befalls n b x e) l m

took_first_lem : (n b f : ℕ) (x : Bench) (l : List Message) → taking_first f l x ≡ replay n b x (took_first f l)
unfolding taking_first took_first replay befalls
took_first_lem n b f x [] = refl
took_first_lem n b f x (m ∷ l) = refl

after_here : (n : ℕ) (s : Run) (a : Step) → after n s a (bench_of a) ≡ replay n (bench_of a) (s (bench_of a)) (events_of s a)
unfolding after bench_of events_of replay befalls
after_here n s (start b v w) = put_same s b _
after_here n s (abstain b) = put_same s b _
after_here n s (leave b) = put_same s b _
after_here n s (fail b) = put_same s b _
after_here n s (turn b) = put_same s b _
after_here n s (arrive b f) = put_same s b _ ∙ took_first_lem n b f (s b) (waiting s b f)
after_here n s (notice b f) = put_same s b _

after_there : (n : ℕ) (s : Run) (a : Step) (b : ℕ) → (b ≡ bench_of a → ⊥) → after n s a b ≡ s b
unfolding after bench_of
after_there n s (start c v w) b ne = put_other s c _ b ne
after_there n s (abstain c) b ne = put_other s c _ b ne
after_there n s (leave c) b ne = put_other s c _ b ne
after_there n s (fail c) b ne = put_other s c _ b ne
after_there n s (turn c) b ne = put_other s c _ b ne
after_there n s (arrive c f) b ne = put_other s c _ b ne
after_there n s (notice c f) b ne = put_other s c _ b ne

step_history : (n : ℕ) (s : Run) (b : ℕ) (a : Step) → (step n s a).run b ≡ replay n b (s b) (brings n s b a)
unfolding brings step
step_history n s b a = judge_ind (λ r. r.run b ≡ replay n b (s b) (cond (eqb r.number 0 && eqb (bench_of a) b) (events_of s a) []))
    (λ k. refuse k s) (checks n s a) (done (after n s a))
    (λ k f. unfold refuse replay in rw (ne_eqb k 0 (omega (arith, refusal_range n s a k f))) refl)
    (λ h. unfold done replay in split (eqb (bench_of a) b)
    (λ e. rw e (let z = eqb-true (bench_of a) b e in rw (← z) (after_here n s a)))
    (λ e. rw e (after_there n s a b (λ z. eqb-false (bench_of a) b e (sym z)))))

pub bench_history : (n : ℕ) (s : Run) (b : ℕ) (l : List Step) → run_from n s l b ≡ replay n b (s b) (history n s b l)
unfolding history run_from replay
bench_history n s b [] = refl
bench_history n s b (a ∷ l) =
    bench_history n (step n s a).run b l
    ∙ ap (λ x. replay n b x (history n (step n s a).run b l)) (step_history n s b a)
    ∙ sym (replay_append n b (s b) (brings n s b a) (history n (step n s a).run b l))

-- ---- turn looks at the bench alone

-- the number that turn answers, by the bench alone
turn_checks : (n : ℕ) (s s' : Run) (b : ℕ) → s b ≡ s' b → checks n s (turn b) ≡ checks n s' (turn b)
unfolding checks
turn_checks n s s' b e = rw e refl

pub turn_number : (n : ℕ) (s s' : Run) (b : ℕ) → s b ≡ s' b → (step n s (turn b)).number ≡ (step n s' (turn b)).number
unfolding step refuse done
turn_number n s s' b e = rw (turn_checks n s s' b e)
    (judge_both (λ x y. x.number ≡ y.number) (λ k. refuse k s) (λ k. refuse k s') (done (after n s (turn b))) (done (after n s' (turn b))) (checks n s' (turn b))
    (λ k. refl) refl)

-- and what it becomes
pub turn_becomes : (n : ℕ) (s s' : Run) (b : ℕ) → s b ≡ s' b → (step n s (turn b)).run b ≡ (step n s' (turn b)).run b
unfolding step after refuse done
turn_becomes n s s' b e = rw (turn_checks n s s' b e)
    (judge_both (λ x y. x.run b ≡ y.run b) (λ k. refuse k s) (λ k. refuse k s') (done (after n s (turn b))) (done (after n s' (turn b))) (checks n s' (turn b)) (λ k. e)
    (put_same s b (turned n b (s b)) ∙ ap (λ x. turned n b x) e ∙ sym (put_same s' b (turned n b (s' b)))))
