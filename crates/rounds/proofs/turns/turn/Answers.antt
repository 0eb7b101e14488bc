-- `turn`: what a turn sends has room, and a law for each end of it. The bench that was looked at stands in its table as before.
use Rattle.std.proofs.Common.{rules, arith}
use Rattle.std.proofs.lemmas.List.{set-get_or}
use Rattle.std.proofs.lemmas.Grind.{common_steps}
use Rattle.kinds.specs.Sizes.{benches_of}
use Rattle.rounds.proofs.Turning.{has_room, turn_refused, turn_done}
use Rattle.rounds.proofs.turns.turn.Goals as goal

pub returns-in_err-turned : goal.returns-in_err-turned
returns-in_err-turned c = rw set-get_or (turn_refused (benches_of c.args.size) c.args.tables.now.benches c.args.tables.now.logs c.in_ok-k.k.index c.heard_by.result (grind (arith, common_steps)) c.turn-turned.result (grind (arith, common_steps)) _ (search rules) _ _ c.in_err-turned.was (search rules))

pub send-requires : goal.send-requires
send-requires c = rw c.message-m.ensures (has_room (benches_of c.args.size) c.args.tables.now.benches c.args.tables.now.logs c.in_ok-k.k.index c.heard_by.result (grind (arith, common_steps)) c.turn-turned.result (grind (arith, common_steps)) _ c.in_ok-turned.was)

pub returns : goal.returns
returns c = turn_done (benches_of c.args.size) c.args.tables.now.benches c.args.tables.now.logs c.in_ok-k.k.index c.heard_by.result (grind (arith, common_steps)) c.turn-turned.result (grind (arith, common_steps)) _ (search rules) _ _ c.in_ok-turned.was (rw (c.message-m.ensures, set-get_or) at c.send.ensures)
