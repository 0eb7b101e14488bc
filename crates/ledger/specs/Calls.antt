-- Calls of the ledger's functions one after another, for senders 1 to n, each with what its contract promises and nothing else: their steps, the numbers that
-- they return, and the tags that they write. This file is to be believed.
use Rattle.std.specs.Prelude.{ℕ, Result, Ok, Err, List, [], ◌∷◌, ◌++◌, length, take}
use Rattle.kinds.specs.declared.Refusal.{Refusal}
use Rattle.kinds.specs.Refusals.{answer_of}
use Rattle.book.specs.Book.{Step, join, sweep, close, end, hand_out}
use Rattle.ledger.specs.declared.Ledger.{Ledger}
use Rattle.ledger.specs.Promises.{Tells, Hands}

-- the tags that a hand-out has written: the first places of the receiving buffer, as many as it says
unfoldable pub written_in : Result ℕ Refusal → List ℕ → List ℕ
written_in (Ok k) out = take k out
written_in (Err r) out = []

-- one call on the ledger x: its step, its number, the tags that it writes, and the ledger after it
pub data Call (n : ℕ) (x : Ledger) : Step → ℕ → List ℕ → Ledger → Type 0 where
  joins : (s f r : ℕ) (y : Ledger) → Tells n x (join s f) r y → Call n x (join s f) r [] y
  sweeps : (s t r : ℕ) (y : Ledger) → Tells n x (sweep s t) r y → Call n x (sweep s t) r [] y
  closes : (s r : ℕ) (y : Ledger) → Tells n x (close s) r y → Call n x (close s) r [] y
  ends : (s e r : ℕ) (y : Ledger) → Tells n x (end s e) r y → Call n x (end s e) r [] y
  hands : (out : List ℕ) (r : Result ℕ Refusal) (y : Ledger) (out' : List ℕ) → Hands n x out r y out' → Call n x (hand_out (length out)) (answer_of r) (written_in r out') y

-- calls one after another: the ledger before, the steps, their numbers, all tags that they write, and the ledger after
pub data Calls (n : ℕ) : Ledger → List Step → List ℕ → List ℕ → Ledger → Type 0 where
  none : (x : Ledger) → Calls n x [] [] [] x
  more : (x : Ledger) (s : Step) (r : ℕ) (t : List ℕ) (y : Ledger) → Call n x s r t y → (l : List Step) (rs ts : List ℕ) (z : Ledger) → Calls n y l rs ts z → Calls n x (s ∷ l) (r ∷ rs) (t ++ ts) z
