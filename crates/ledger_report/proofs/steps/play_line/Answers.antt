-- `play_line`: a malformed line is refused, and each step is the ledger's own.
use Rattle.std.proofs.Common.{◌≡◌, rules, arith, length, min, None, Err}
use Rattle.kinds.specs.declared.Refusal.TheVariants as refusal
use Rattle.ledger_report.proofs.OnLedgers.{malformed_plays, join_plays, sweep_plays, close_plays, end_plays, hand_out_plays, mapped}
use Rattle.ledger.specs.Seen.{room_words}
use Rattle.ledger_report.proofs.steps.play_line.Goals as goal

pub returns-in_err-sender : goal.returns-in_err-sender
returns-in_err-sender c =
    let none : c.args.line ≡ None = c.in_err-sender.ensures.ok_part in
    let err : c.from_residual.result ≡ Err refusal.Malformed = search rules in
    rw (none, err) (malformed_plays c.args.size c.args.ledger.now c.args.tags.now)

pub returns-in-Join : goal.returns-in-Join
returns-in-Join c = rw (c.in_ok-sender.ensures.ok_part, c.in-Join.is, c.and.ensures) (join_plays _ _ _ _ _ _ _ c.join.ensures)

pub returns-in-Sweep : goal.returns-in-Sweep
returns-in-Sweep c = rw (c.in_ok-sender.ensures.ok_part, c.in-Sweep.is, c.and-in-Sweep.ensures) (sweep_plays _ _ _ _ _ _ _ c.sweep.ensures)

pub returns-in-Close : goal.returns-in-Close
returns-in-Close c = rw (c.in_ok-sender.ensures.ok_part, c.in-Close.is, c.and-in-Close.ensures) (close_plays _ _ _ _ _ _ c.close.ensures)

pub returns-in-End : goal.returns-in-End
returns-in-End c = rw (c.in_ok-sender.ensures.ok_part, c.in-End.is, c.and-in-End.ensures) (end_plays _ _ _ _ _ _ _ c.end.ensures)

pub returns-in-HandOut : goal.returns-in-HandOut
returns-in-HandOut c =
    let places = c.in-HandOut.places in
    let long : length c.args.tags.now ≡ room_words = c.told-tags in
    let few : c.min-places.result ≡ min places room_words = omega (arith, c.min-places.ensures) in
    rw (c.in_ok-sender.ensures.ok_part, c.in-HandOut.is) (hand_out_plays c.args.size c.args.ledger.now c.args.tags.now places long c.min-places.result few c.hand_out.new.self c.hand_out.new.out c.hand_out.result c.map.result c.hand_out.ensures (mapped _ _ _ (λ k y p. search rules) c.map.ensures.cases))
