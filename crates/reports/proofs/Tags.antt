-- What a step of a ledger does to tags and to sweeps held: each tag that goes out was held, and a step brings one sweep at most. Assumes nothing.
use Prim.Native.Nat.{ℕ, suc, ◌+◌, ◌≤◌}
use native.Mathlib.Omega.{arith}
use mathlib.Core.Bool.{true, cond}
use mathlib.Core.List.{List, [], ◌∷◌, ◌++◌}
use mathlib.Core.Path.{◌≡◌, refl, ap}
use lib.Dec.{eqb}
use lib.ListN.{length, length-append, length-map}
use Rattle.common.proofs.Tests.{split}
use Rattle.book.specs.Book as book
use Rattle.book.specs.Book.{Sweep, only, Book, answer, after, step}
use Rattle.book.specs.Traffic.{book_from, accepted, handed_out, in_order, along, tally}
use Rattle.book.proofs.Outcomes.{step_ind}
use Rattle.book.proofs.Kept.{Kept}
use Rattle.book.proofs.Tags.{tags_in_order}
use Rattle.book.proofs.Accounts.{balance_from}

tally_all : (l : List Sweep) → tally (λ w. true) l ≡ length l
unfolding tally only
tally_all [] = refl
tally_all (w ∷ l) = ap suc (tally_all l)

module _ (n : ℕ) where
  after_handed : (b : Book) (s : book.Step) → length (after n b s).tags ≤ length (cond (eqb (after n b s).number 0) (handed_out n b s) [] ++ [])
  unfolding after answer handed_out
  after_handed b (book.join i f) = omega arith
  after_handed b (book.sweep i t) = omega arith
  after_handed b (book.close i) = omega arith
  after_handed b (book.end i e) = omega arith
  after_handed b (book.hand_out room) =
      let l = in_order n b.next b.held in
      omega (arith, ap length (tags_in_order n b.next b.held), length-map l (λ (w : Sweep). w.tag), length-append l [])

  tags_handed : (b : Book) (s : book.Step) → length (step n b s).tags ≤ length (along handed_out n b (s ∷ []))
  unfolding along answer
  tags_handed b s = step_ind n b s (λ a. length a.tags ≤ length (cond (eqb a.number 0) (handed_out n b s) [] ++ [])) (λ k f. omega arith) (λ h. after_handed b s)

  one_accepted : (b : Book) (s : book.Step) → length (accepted n b s ++ []) ≤ 1
  unfolding accepted
  one_accepted b (book.join i f) = omega arith
  one_accepted b (book.sweep i t) = omega arith
  one_accepted b (book.close i) = omega arith
  one_accepted b (book.end i e) = omega arith
  one_accepted b (book.hand_out room) = omega arith

  accepted_one : (b : Book) (s : book.Step) → length (along accepted n b (s ∷ [])) ≤ 1
  unfolding along
  accepted_one b s = split (eqb (step n b s).number 0) (λ e. rw e (one_accepted b s)) (λ e. rw e (omega arith))

  pub step_pays : (b : Book) → Kept n b → (s : book.Step) → length (step n b s).tags + length (step n b s).book.held ≤ length b.held + 1
  unfolding book_from
  step_pays b h s =
      omega (
        arith,
        balance_from (λ w. true) n b h (s ∷ []),
        tags_handed b s,
        accepted_one b s,
        tally_all b.held,
        tally_all (along accepted n b (s ∷ [])),
        tally_all (along handed_out n b (s ∷ [])),
        tally_all (step n b s).book.held,
      )
