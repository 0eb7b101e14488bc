-- Texts and damaged ones as one table: what the lines of each say where there are 16 benches.
-- That they read so is `examples` of proofs/Examples.antt.
use Rattle.std.specs.Prelude.{ℕ, List, [], ◌∷◌, ◌++◌, Option, Some, None}
use Rattle.kinds.specs.declared.Step.{Step}
use Rattle.kinds.specs.declared.Step.TheVariants.{Start, Abstain, Leave, Fail, Turn, Arrive, Notice}
use Rattle.spelling.specs.Numbers.{ascii}

-- a text and what its lines say
pub data Row : Type 0 where
  reads : List ℕ → List (Option Step) → Row

abbrev pub starts : (b v w : ℕ) → Option Step
starts b v w = Some (Start (record { 0 = b }) (record { 0 = v }) w)

abbrev pub turns : ℕ → Option Step
turns b = Some (Turn (record { 0 = b }))

unfoldable pub table : List Row
table =
    reads (ascii "step=start bench=1 value=9 world=1,2,3") (starts 1 9 0b111 ∷ [])
    ∷ reads (ascii "step=abstain bench=3") (Some (Abstain (record { 0 = 3 })) ∷ [])
    ∷ reads (ascii "step=leave bench=16") (Some (Leave (record { 0 = 16 })) ∷ [])
    ∷ reads (ascii "step=fail bench=2") (Some (Fail (record { 0 = 2 })) ∷ [])
    ∷ reads (ascii "step=turn bench=0") (turns 0 ∷ [])
    ∷ reads (ascii "step=arrive bench=1 from=99999") (Some (Arrive (record { 0 = 1 }) (record { 0 = 99999 })) ∷ [])
    ∷ reads (ascii "step=notice bench=2 from=3") (Some (Notice (record { 0 = 2 }) (record { 0 = 3 })) ∷ [])
    -- large values, and no leading zero
    ∷ reads (ascii "step=start bench=1 value=65536 world=1") (starts 1 65536 1 ∷ [])
    ∷ reads (ascii "step=start bench=1 value=65535 world=1") (starts 1 65535 1 ∷ [])
    ∷ reads (ascii "step=turn bench=017") (None ∷ [])
    ∷ reads (ascii "step=turn bench=17") (turns 17 ∷ [])
    -- numbers: 1 to 5 digits
    ∷ reads (ascii "step=turn bench=100000") (None ∷ [])
    ∷ reads (ascii "step=turn bench=123456789012345678901234567890") (None ∷ [])
    ∷ reads (ascii "step=turn bench=") (None ∷ [])
    ∷ reads (ascii "step=turn bench=-1") (None ∷ [])
    ∷ reads (ascii "step=turn bench=00") (None ∷ [])
    -- worlds: numbers of benches that there are, strictly rising, joined by commas, at least one
    ∷ reads (ascii "step=start bench=1 value=9 world=16") (starts 1 9 32768 ∷ [])
    ∷ reads (ascii "step=start bench=10 value=0 world=1,2,3,4,5,6,7,8,9,10,11,12,13,14,15,16") (starts 10 0 65535 ∷ [])
    ∷ reads (ascii "step=start bench=1 value=9 world=17") (None ∷ [])
    ∷ reads (ascii "step=start bench=1 value=9 world=0") (None ∷ [])
    ∷ reads (ascii "step=start bench=1 value=9 world=3,2") (None ∷ [])
    ∷ reads (ascii "step=start bench=1 value=9 world=1,1") (None ∷ [])
    ∷ reads (ascii "step=start bench=1 value=9 world=1,02") (None ∷ [])
    ∷ reads (ascii "step=start bench=1 value=9 world=1,") (None ∷ [])
    ∷ reads (ascii "step=start bench=1 value=9 world=,1") (None ∷ [])
    ∷ reads (ascii "step=start bench=1 value=9 world=1, 2") (None ∷ [])
    ∷ reads (ascii "step=start bench=1 value=9 world=") (None ∷ [])
    -- keys in this order, one space between, and nothing else
    ∷ reads (ascii " step=turn bench=1") (None ∷ [])
    ∷ reads (ascii "step=turn bench=1 ") (None ∷ [])
    ∷ reads (ascii "step=turn  bench=1") (None ∷ [])
    ∷ reads (ascii "step=turn bench=1" ++ (13 ∷ [])) (None ∷ [])
    ∷ reads (ascii "step=turn bench=1" ++ (0 ∷ [])) (None ∷ [])
    ∷ reads (ascii "step=turn bench=1" ++ (200 ∷ [])) (None ∷ [])
    ∷ reads (ascii "Step=turn bench=1") (None ∷ [])
    ∷ reads (ascii "step=arrive from=2 bench=1") (None ∷ [])
    ∷ reads (ascii "step=arrive bench=1") (None ∷ [])
    ∷ reads (ascii "step=turn bench=1 from=2") (None ∷ [])
    ∷ reads (ascii "step=start bench=1 world=1 value=9") (None ∷ [])
    -- lines: no text, one empty line, two, a last line without byte 10
    ∷ reads [] []
    ∷ reads (ascii "\n") (None ∷ [])
    ∷ reads (ascii "step=turn bench=1\n\n") (turns 1 ∷ None ∷ [])
    ∷ reads (ascii "step=turn bench=1\nstep=turn\nstep=turn bench=2") (turns 1 ∷ None ∷ turns 2 ∷ [])
    ∷ reads (ascii "step=turn bench=1\nstep=turn bench=2\n") (turns 1 ∷ turns 2 ∷ [])
    ∷ []

unfoldable pub text_in : Row → List ℕ
text_in (reads text says) = text

unfoldable pub said_in : Row → List (Option Step)
said_in (reads text says) = says
