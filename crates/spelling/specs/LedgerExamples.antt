-- Lines of ledger scripts and damaged ones, as one table: what each says. That they read so is `examples` of proofs/LedgerExamples.antt.
use Rattle.std.specs.Prelude.{ℕ, List, [], ◌∷◌, Option, Some, None}
use Prim.Native.String.{String}
use Rattle.spelling.specs.declared.LedgerStep.{LedgerStep}
use Rattle.spelling.specs.declared.LedgerStep.TheVariants.{Join, Sweep, Close, End, HandOut}
use Rattle.spelling.specs.Numbers.{ascii}

-- a line and what it says
pub data Row : Type 0 where
  reads : String → Option LedgerStep → Row

unfoldable pub table : List Row
table =
    reads "step=join sender=1 slot=65534" (Some (Join (record { 0 = 1 }) (record { 0 = 65534 })))
    ∷ reads "step=sweep sender=16 tag=0" (Some (Sweep (record { 0 = 16 }) 0))
    ∷ reads "step=close sender=17" (Some (Close (record { 0 = 17 })))
    ∷ reads "step=end sender=2 slot=0" (Some (End (record { 0 = 2 }) (record { 0 = 0 })))
    ∷ reads "step=handout room=99999" (Some (HandOut 99999))
    -- tags: 1 to 10 digits, no leading zero, at most 4,294,967,295
    ∷ reads "step=sweep sender=1 tag=4294967295" (Some (Sweep (record { 0 = 1 }) 4294967295))
    ∷ reads "step=sweep sender=1 tag=4294967296" None
    ∷ reads "step=sweep sender=1 tag=9999999999" None
    ∷ reads "step=sweep sender=1 tag=10000000000" None
    ∷ reads "step=sweep sender=1 tag=00" None
    ∷ reads "step=sweep sender=1 tag=" None
    -- other numbers are those of run text
    ∷ reads "step=close sender=100000" None
    ∷ reads "step=close sender=01" None
    ∷ reads "step=handout room=100000" None
    -- names in full, and no more
    ∷ reads "step=hand room=3" None
    ∷ reads "step=joi sender=1 slot=0" None
    ∷ reads "step=closed sender=1" None
    ∷ reads "step=turn sender=1" None
    -- keys in this order, one space between, and nothing else
    ∷ reads "step=join slot=0 sender=1" None
    ∷ reads "step=join sender=1" None
    ∷ reads "step=close sender=1 slot=0" None
    ∷ reads "step=sweep sender=1  tag=5" None
    ∷ reads "step=close sender=1 " None
    ∷ reads " step=close sender=1" None
    ∷ reads "" None
    ∷ []

unfoldable pub line_in : Row → List ℕ
line_in (reads line says) = ascii line

unfoldable pub said_in : Row → Option LedgerStep
said_in (reads line says) = says
