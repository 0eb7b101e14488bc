-- What a message, a notice and a step make of a bench by value. A bench or a line is named by its place, counted from 0.
use Rattle.std.specs.Prelude.{cond, ℕ, ◌-◌, ◌^◌, set}
use Rattle.std.specs.Int.Bits.{bit_or}
use Rattle.common.specs.Benches.{is_bench}
use Rattle.kinds.specs.declared.SlotNo.{SlotNo}
use Rattle.kinds.specs.declared.Message.{Message}
use Rattle.kinds.specs.declared.Message.TheVariants.{Round, Out}
use Rattle.bench.specs.declared.Bench.{Bench}

-- n round messages are taken of the line k
unfoldable pub taken_of : Bench → ℕ → ℕ → Bench
taken_of b k n = record b { taken = set b.taken k n }

-- OUT is taken of the line k
unfoldable pub out_of : Bench → ℕ → Bench
out_of b k = record b { outs = bit_or b.outs (2 ^ k) }

-- a message is taken: lines are in order and without gaps, so the round of a round message is their count
unfoldable pub take_of : Bench → ℕ → Message → Bench
take_of b k (Round m) = taken_of b k m.round.0
take_of b k Out = out_of b k

unfoldable pub notice_of : Bench → ℕ → Bench
notice_of b k = record b { noticed = bit_or b.noticed (2 ^ k) }

-- the same by bench numbers: no bench outside 1 to N is taken from or noticed
unfoldable pub take_from : ℕ → Bench → ℕ → Message → Bench
take_from N b f m = cond (is_bench N f) (take_of b (f - 1) m) b

unfoldable pub notice_from : ℕ → Bench → ℕ → Bench
notice_from N b f = cond (is_bench N f) (notice_of b (f - 1)) b

unfoldable pub in_state : ℕ → Bench → Bench
in_state s b = record b { state = s }

-- the bench, running in round r
unfoldable pub in_round : ℕ → SlotNo → ℕ → Bench → Bench
in_round r v w b = record b { state = 1; round = record { 0 = r }; value = v; world = w }

unfoldable pub choosing : Bench → Bench
choosing b = record b { state = 2; chose = 1 }

-- the last round sent is r
unfoldable pub sent_to : ℕ → Bench → Bench
sent_to r b = record b { sent = r }

-- OUT is sent
unfoldable pub sent_out : Bench → Bench
sent_out b = record b { silent = 1 }
