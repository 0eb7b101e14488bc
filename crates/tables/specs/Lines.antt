-- A line is the sender's log and the receiver's count: what waits on it, and what a bench has heard of its round.
-- A log has the value and the world of round r at place r - 1.
use Rattle.std.specs.Prelude.{Bool, cond, not, ◌&&◌, ℕ, zero, suc, ◌+◌, ◌-◌, ◌^◌, List, eqb, leb, ltb, get_or, set, replicate, Option, Some, None}
use Rattle.std.specs.Int.Bits.{bit_or}
use Rattle.kinds.specs.Sizes.{places, depth}
use Rattle.kinds.specs.declared.Message.{Message}
use Rattle.kinds.specs.declared.Message.TheVariants.{Round, Out}
use Rattle.bench.specs.declared.Heard.{Heard}
use Rattle.bench.specs.declared.Bench.{Bench}
use Rattle.bench.specs.declared.Entry.{Entry}
use Rattle.bench.specs.Entries.{no_entry, entry}
use Rattle.tables.specs.Rows.{logs}

abbrev pub message : ℕ → ℕ → ℕ → Message
message r v w = Round (record { round = record { 0 = r }; value = record { 0 = v }; world = w })

-- what waits behind n round messages taken (and OUT, if o), of a log whose bench has sent round messages up to `sent` (and OUT, if out is 1)
unfoldable pub waiting_of : List Entry → ℕ → Bool → ℕ → ℕ → Option Message
waiting_of log n o sent out =
    cond (ltb n sent)
    (cond (ltb n depth) (Some (message (n + 1) (entry log n).value.0 (entry log n).world)) None)
    (cond (eqb out 1 && not o) (Some Out) None)

abbrev pub silence : Heard
silence = record { set = 0; entries = replicate places no_entry }

-- sender j's message of the bench's round is taken
abbrev pub hears : Bench → ℕ → Bool
hears b j = leb b.round.0 (get_or b.taken j 0)

unfoldable pub with_message : List (List Entry) → ℕ → ℕ → Heard → Heard
with_message l at j h =
    record {
      set = bit_or h.set (2 ^ j);
      entries = set h.entries j (entry (logs l j) at);
    }

-- what is heard of the senders at the places below n
unfoldable pub heard_to : List (List Entry) → Bench → ℕ → Heard
heard_to l b zero = silence
heard_to l b (suc j) = cond (hears b j) (with_message l (b.round.0 - 1) j (heard_to l b j)) (heard_to l b j)

unfoldable pub heard_of : ℕ → List (List Entry) → Bench → Heard
heard_of N l b = cond (ltb b.round.0 1) silence (cond (ltb depth b.round.0) silence (heard_to l b N))
