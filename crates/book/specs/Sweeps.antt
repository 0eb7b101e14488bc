-- Which sweeps the ledger's theorems speak of: a sender's, a slot's, those from a slot on; sweeps in rising number of senders; sweeps that lie where their
-- sender's row lets them. This file is to be believed.
use Rattle.std.specs.Prelude.{ℕ, ◌≤◌, ◌<◌, Bool, ◌&&◌, List, [], ◌∷◌, eqb, leb}
use Rattle.common.specs.Benches.{In}
use Rattle.book.specs.Book.{Sweep, Row, unknown, joined, ended}

-- the sweeps of sender s; of sender s in slot k; of slot k; of sender s from slot e on
abbrev pub sent_by : ℕ → Sweep → Bool
sent_by s w = eqb w.sender s

abbrev pub sent_in : ℕ → ℕ → Sweep → Bool
sent_in s k w = eqb w.sender s && eqb w.slot k

abbrev pub of_slot : ℕ → Sweep → Bool
of_slot k w = eqb w.slot k

abbrev pub sent_from : ℕ → ℕ → Sweep → Bool
sent_from s e w = eqb w.sender s && leb e w.slot

-- no sender is below `low`, nor below the one before
unfoldable pub Rises : ℕ → List Sweep → Type 0
Rises low [] = Unit {0}
Rises low (w ∷ l) = (low ≤ w.sender) × Rises w.sender l

-- a sender with such a row may have a sweep held in slot k
abbrev pub Lies : ℕ → Row → Type 0
Lies k unknown = ⊥
Lies k (joined f o) = (f ≤ k) × (k ≤ o)
Lies k (ended f o e) = (f ≤ k) × (k ≤ o) × (k < e)

-- a sweep that may be held where k is the next slot: of a sender 1 to n, not below k, and where its sender's row lets it lie
pub record Holding (n k : ℕ) (rows : ℕ → Row) (w : Sweep) : Type 0 where
  pub from : In n w.sender
  pub due : k ≤ w.slot
  pub lies : Lies w.slot (rows w.sender)
