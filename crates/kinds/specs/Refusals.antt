-- The number of each refusal, and of an answer. This file is to be believed: docs/REFUSALS.md says what each means.
use Rattle.std.specs.Prelude.{ℕ, Result, Ok, Err}
use Rattle.kinds.specs.declared.Refusal.{Refusal}
use Rattle.kinds.specs.declared.Refusal.TheVariants.{NoSuchBench, SameBench, WrongState, LargeValue, WrongWorld, WorldLacksOne, LackedByOne, NothingWaits, LineClosed, HasNotFailed, MemberAwaited, JoinedAlready, WrongFirstSlot, NotJoined, EndedAlready, PastLastSlot, EndAboveOpen, EndBelowNext, Malformed, NotWritable, ShortRoom, LongText, NotClosed, StoreFull}

abbrev pub number_of : Refusal → ℕ
number_of NoSuchBench = 1
number_of SameBench = 2
number_of WrongState = 3
number_of LargeValue = 4
number_of WrongWorld = 5
number_of WorldLacksOne = 6
number_of LackedByOne = 7
number_of NothingWaits = 8
number_of LineClosed = 9
number_of HasNotFailed = 10
number_of MemberAwaited = 11
number_of JoinedAlready = 13
number_of WrongFirstSlot = 14
number_of NotJoined = 15
number_of EndedAlready = 16
number_of PastLastSlot = 17
number_of EndAboveOpen = 18
number_of EndBelowNext = 19
number_of Malformed = 20
number_of NotWritable = 21
number_of ShortRoom = 22
number_of LongText = 23
number_of NotClosed = 24
number_of StoreFull = 25

-- 0 is what was done
abbrev pub answer_of : {A : Type 0} → Result A Refusal → ℕ
answer_of (Ok a) = 0
answer_of (Err r) = number_of r
