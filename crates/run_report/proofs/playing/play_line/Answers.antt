-- `play_line`: a malformed line changes nothing; a step by the link of tables and published rounds.
use Rattle.std.proofs.Common.{◌≡◌, rules, Err}
use Rattle.kinds.specs.declared.Refusal.TheVariants as refusal
use Rattle.run_report.proofs.Played.{does_links, malformed_links}
use Rattle.run_report.proofs.playing.play_line.Goals as goal

pub returns-in_err-s : goal.returns-in_err-s
returns-in_err-s c =
    let malformed : c.from_residual.result ≡ Err refusal.Malformed = search rules in
    rw malformed (malformed_links _ _ _ c.requires _ c.in_err-s.ensures.ok_part)

pub returns : goal.returns
returns c = does_links _ _ _ c.requires _ _ c.in_ok-s.ensures.ok_part _ _ _ c.step.ensures
