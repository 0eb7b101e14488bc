-- `write_world`: the benches from here on are left to be written.
use Rattle.run_text.proofs.Storing.{WritingWorld}
use Rattle.run_text.proofs.worlds.write_world.Given as goal

abbrev pub invariant-loop-place : goal.invariant-loop-place
invariant-loop-place l = WritingWorld l.initial.out l.from l.world l.out l.rest l.place
