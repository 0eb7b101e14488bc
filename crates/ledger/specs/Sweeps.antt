-- What the passes over the sweeps of the room return: the one that looks for a slot, and the one that takes a part of the sweeps out.
use Rattle.std.specs.Prelude.{◌≡◌, ℕ, Bool, not, List, [], length, drop, eqb}
use Rattle.book.specs.Book.{Sweep, only}
use Rattle.ledger.specs.declared.Sweep as code
use Rattle.ledger.specs.Seen.{sweep_is, held_in}

-- which sweeps go, and that a function of the code tells them
abbrev pub Gone : Type 0
Gone = Sweep → Bool

abbrev pub Tests : (code.Sweep → Bool → Type 0) → Gone → Type 0
Tests post p = (w : code.Sweep) (t : Bool) → post w t → t ≡ p (sweep_is w)

-- it is of slot k
abbrev pub of_slot : ℕ → code.Sweep → Bool
of_slot k w = eqb w.slot k

-- none of the sweeps is of slot k
abbrev pub NoneOf : ℕ → List Sweep → Type 0
NoneOf k l = only (λ w. eqb w.slot k) l ≡ []

-- what is left of the first k stands at the front, in order, r of them; what is past them stays
pub record TakesOut (p : Sweep → Bool) (k : ℕ) (room : List code.Sweep) (r : ℕ) (room' : List code.Sweep) : Type 0 where
  pub count_is : r ≡ length (only (λ w. not (p w)) (held_in k room))
  pub held_is : held_in r room' ≡ only (λ w. not (p w)) (held_in k room)
  pub past_is : drop r room' ≡ drop r room
