-- Refusals are told apart by their numbers, none of which is 0, and answers that say nothing else by theirs. Assumes nothing.
use mathlib.Core.Path.{◌≡◌, refl, ap, sym, ◌∙◌}
use Prim.Native.Nat.{ℕ}
use native.Mathlib.Omega.{arith}
use lib.ListN.{get_or}
use mathlib.Core.List.{[], ◌∷◌}
use Rattle.std.specs.Prelude.{Result, Ok, Err}
use Rattle.kinds.specs.declared.Refusal.{Refusal}
use Rattle.kinds.specs.declared.Refusal.TheVariants.{NoSuchBench, SameBench, WrongState, LargeValue, WrongWorld, WorldLacksOne, LackedByOne, NothingWaits, LineClosed, HasNotFailed, MemberAwaited, JoinedAlready, WrongFirstSlot, NotJoined, EndedAlready, PastLastSlot, EndAboveOpen, EndBelowNext, Malformed, NotWritable, ShortRoom, LongText, NotClosed, StoreFull}
use Rattle.kinds.specs.Refusals.{number_of, answer_of}

pub never_done : (r : Refusal) → number_of r ≡ 0 → ⊥
never_done r e = grind arith

-- the refusal of a number; no refusal has the numbers 0 and 12
abbrev refusal_of : ℕ → Refusal
refusal_of k = get_or (StoreFull ∷ NoSuchBench ∷ SameBench ∷ WrongState ∷ LargeValue ∷ WrongWorld ∷ WorldLacksOne ∷ LackedByOne ∷ NothingWaits ∷ LineClosed ∷ HasNotFailed ∷ MemberAwaited ∷ NotWritable ∷ JoinedAlready ∷ WrongFirstSlot ∷ NotJoined ∷ EndedAlready ∷ PastLastSlot ∷ EndAboveOpen ∷ EndBelowNext ∷ Malformed ∷ NotWritable ∷ ShortRoom ∷ LongText ∷ NotClosed ∷ StoreFull ∷ []) k StoreFull

number_back : (r : Refusal) → refusal_of (number_of r) ≡ r
number_back r = grind arith

pub same_refusal : (r q : Refusal) → number_of r ≡ number_of q → r ≡ q
same_refusal r q e = sym (number_back r) ∙ ap refusal_of e ∙ number_back q

pub same_result : (r q : Result (Unit {0}) Refusal) → answer_of r ≡ answer_of q → r ≡ q
same_result (Ok a) (Ok b) e = refl
same_result (Ok a) (Err q) e = absurd (never_done q (sym e))
same_result (Err r) (Ok b) e = absurd (never_done r e)
same_result (Err r) (Err q) e = ap Err (same_refusal r q e)
