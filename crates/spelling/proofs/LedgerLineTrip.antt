-- Lines of a ledger script there and back. Assumes nothing.
use mathlib.Core.Bool.{true}
use mathlib.Core.Path.{◌≡◌}
use Rattle.spelling.specs.declared.LedgerStep.{LedgerStep}
use Rattle.spelling.specs.declared.LedgerStep.TheVariants as script
use Rattle.spelling.specs.Numbers.{digits}
use Rattle.spelling.specs.LedgerSpelling.{ledger_step_text, is_scriptable}
use Rattle.spelling.specs.LedgerReading.{ledger_step_at}
use Rattle.spelling.proofs.LineEnds.{no_ten, ten_append, ten_digits}
use Rattle.spelling.proofs.LineTrip.{Spelt}
use Rattle.spelling.proofs.LedgerTrip.{step_reads, step_sound}

ten_step : (s : LedgerStep) → no_ten (ledger_step_text s) ≡ true
unfolding ledger_step_text no_ten
ten_step (script.Join s f) = ten_append (digits s.0) _ (ten_digits s.0) (ten_digits f.0)
ten_step (script.Sweep s t) = ten_append (digits s.0) _ (ten_digits s.0) (ten_digits t)
ten_step (script.Close s) = ten_digits s.0
ten_step (script.End s f) = ten_append (digits s.0) _ (ten_digits s.0) (ten_digits f.0)
ten_step (script.HandOut r) = ten_digits r

pub ledger_script : Spelt ledger_step_at ledger_step_text is_scriptable
ledger_script = record {
  reads = step_reads;
  stands = λ text at s end e. let p = step_sound text at s end e in (p.spans, p.scriptable);
  no_ten_in = ten_step;
}
