-- `write_world`: the benches from here on are left to be written.
use Rattle.std.proofs.Common.{refl}
use Rattle.run_text.proofs.Storing.{world_none, world_in, world_out, world_all}
use Rattle.run_text.proofs.worlds.write_world.Goals as goal
use Rattle.run_text.proofs.worlds.write_world.Goals.{then-rest-eq1, else-rest-eq1}

pub loop-place-init : goal.loop-place-init
loop-place-init c = world_none _ _ _ refl

pub loop-place-preserved : goal.loop-place-preserved
loop-place-preserved c =
    let i = c.loop-place.invariant in
    let within = c.loop-place-test.true in
    elim c.if-rest-eq1.branch [
      | then-rest-eq1 w ↦ rw w.out-is (world_in _ _ _ _ _ _ i within w.if-rest-eq1.true c.requires (rw w.separator.ensures at w.put_field.ensures))
      | else-rest-eq1 w ↦ rw w.out-is (world_out _ _ _ _ _ _ i within w.if-rest-eq1.false)
    ]

pub returns : goal.returns
returns c = search world_all
