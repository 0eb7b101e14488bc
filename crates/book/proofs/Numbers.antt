-- The numbers that a step can answer: 0, or one of those that document 01 lists for it. Assumes nothing.
use mathlib.Core.Path.{◌≡◌, refl}
use Prim.Native.Nat.{ℕ}
use mathlib.Core.List.{◌∷◌}
use Rattle.common.proofs.Checks.{numbers, fails_among}
use Rattle.common.specs.Lists.{OneOf, first, further}
use Rattle.book.specs.Refusals.{refusals}
use Rattle.book.specs.Book.{Book, Step, join, sweep, close, end, hand_out, answer, checks, step}
use Rattle.book.proofs.Outcomes.{step_ind, after_done}

numbers_are : (n : ℕ) (b : Book) (s : Step) → numbers (checks n b s) ≡ refusals s
unfolding numbers checks refusals
numbers_are n b (join s f) = refl
numbers_are n b (sweep s t) = refl
numbers_are n b (close s) = refl
numbers_are n b (end s e) = refl
numbers_are n b (hand_out room) = refl

pub number_among : (n : ℕ) (b : Book) (s : Step) → OneOf (step n b s).number (0 ∷ refusals s)
unfolding answer
number_among n b s = step_ind n b s (λ a. OneOf a.number (0 ∷ refusals s))
    (λ k f. let o = fails_among (checks n b s) k f in further 0 (refusals s) (rw (numbers_are n b s) at o))
    (λ h. rw (after_done n b s) (first (refusals s)))
