-- A turn of a bench by value: what it makes of what it has heard of its round. N benches.
use Rattle.std.specs.Prelude.{Bool, cond, not, ◌&&◌, ◌||◌, ℕ, zero, suc, ◌+◌, ◌%◌, min, List, eqb, Ok, Err}
use Rattle.std.specs.Int.Bits.{bit_and}
use Rattle.kinds.specs.declared.Message.{Message}
use Rattle.kinds.specs.declared.Message.TheVariants.{Round, Out}
use Rattle.kinds.specs.declared.Refusal.{Refusal}
use Rattle.kinds.specs.declared.Refusal.TheVariants.{WrongState, MemberAwaited}
use Rattle.kinds.specs.Sizes.{depth}
use Rattle.common.specs.Places.{has, some}
use Rattle.bench.specs.Changes.{in_round, choosing}
use Rattle.bench.specs.declared.Bench.{Bench}
use Rattle.bench.specs.declared.Heard.{Heard}
use Rattle.bench.specs.declared.Entry.{Entry}
use Rattle.bench.specs.Entries.{entry}
use Rattle.bench.specs.declared.Turned.{Turned}
use Rattle.bench.specs.declared.Turn.{Turn}
use Rattle.bench.specs.declared.Turn.TheVariants.{Decided, Went}

-- place k is a member and is awaited
unfoldable pub awaited_at : Bench → Heard → ℕ → Bool
awaited_at b h k = has b.world k && (not (has h.set k) && (not (has b.outs k) && not (has b.noticed k)))

unfoldable pub awaits_of : ℕ → Bench → Heard → Bool
awaits_of N b h = some (awaited_at b h) N

-- the value v is not the bench's own, or the world w is not within the bench's own
unfoldable pub differs : Bench → ℕ → ℕ → Bool
differs b v w = not (eqb v b.value.0) || not (eqb (bit_and w b.world) w)

-- k is a member that forbids a decision: neither heard nor excused, or heard with a value and a world that differ
unfoldable pub forbids_by : Bench → ℕ → Bool → ℕ → ℕ → Bool
forbids_by b k heard v w = has b.world k && cond heard (differs b v w) (not (has b.outs k))

unfoldable pub forbids_at : Bench → Heard → ℕ → Bool
forbids_at b h k = forbids_by b k (has h.set k) (entry h.entries k).value.0 (entry h.entries k).world

unfoldable pub forbids_of : ℕ → Bench → Heard → Bool
forbids_of N b h = some (forbids_at b h) N

-- the least of v and of the values at the places below n that the set has
unfoldable pub least : ℕ → ℕ → List Entry → ℕ → ℕ
least v set entries zero = v
least v set entries (suc n) = cond (has set n) (min (entry entries n).value.0 (least v set entries n)) (least v set entries n)

unfoldable pub gather_of : ℕ → Bench → Heard → Entry
gather_of N b h = record { value = record { 0 = least b.value.0 (bit_and b.world h.set) h.entries N }; world = bit_and b.world h.set }

-- what a turn sends
abbrev pub message_of : Turn → Message
message_of (Decided v m) = m
message_of (Went m) = m

abbrev pub refuses : Bench → Refusal → Turned
refuses b r = record { bench = b; answer = Err r }

abbrev pub goes : Bench → Turned
goes b = record { bench = b; answer = Ok (Went (Round (record { round = b.round; value = b.value; world = b.world }))) }

abbrev pub concludes : Bench → Turned
concludes b = record { bench = choosing b; answer = Ok (Decided b.value Out) }

-- the round after r. A log ends at round `depth`, behind which the first comes again: no run from the empty one gets there, but a bench that no steps
-- made may stand in any round
unfoldable pub next_round : ℕ → ℕ
next_round r = r % depth + 1

unfoldable pub go_on_of : ℕ → Bench → Heard → Turned
go_on_of N b h = goes (in_round (next_round b.round.0) (gather_of N b h).value (gather_of N b h).world b)

unfoldable pub turn_of : ℕ → Bench → Heard → Turned
turn_of N b h = cond (eqb b.state 1) (cond (awaits_of N b h) (refuses b MemberAwaited) (cond (forbids_of N b h) (go_on_of N b h) (concludes b))) (refuses b WrongState)
