-- The case that docs/SCOPE.md gives whole, and two examples more: texts and their reports, byte for byte. This file is to be believed: `whole_case`,
-- `ended_case` and `example` of proofs/Theorems.antt say that the reports are those of the texts.
use Rattle.std.specs.Prelude.{ℕ, List, [], ◌∷◌, ◌++◌}
use Rattle.spelling.specs.Numbers.{ascii}
use Rattle.spelling.specs.Lines.{text_of}

-- ---- the whole case

abbrev pub whole_input : List ℕ
whole_input = text_of (
    "step=start bench=1 value=9 world=1,2,3" ∷
    "step=start bench=2 value=8 world=1,2,3" ∷
    "step=abstain bench=3" ∷
    "step=turn bench=1" ∷
    "step=arrive bench=1 from=2" ∷
    "step=arrive bench=1 from=3" ∷
    "step=turn bench=1" ∷ [])

abbrev pub whole_output : List ℕ
whole_output = text_of (
    "line=1 answer=0" ∷
    "line=2 answer=0" ∷
    "line=3 answer=0" ∷
    "line=4 answer=11" ∷
    "line=5 answer=0" ∷
    "line=6 answer=0" ∷
    "line=7 answer=0" ∷
    "bench=1 state=running round=2 value=none" ∷
    "bench=2 state=running round=1 value=none" ∷
    "bench=3 state=abstained round=0 value=none" ∷
    "lines=7 refused=1" ∷ [])

-- ---- a run text with what that case has not: benches that decided, left and failed, malformed lines, a last line without byte 10

abbrev pub ended_input : List ℕ
ended_input =
    text_of (
    "step=start bench=1 value=7 world=1,2" ∷
    "step=start bench=2 value=7 world=1,2" ∷
    "step=arrive bench=1 from=2" ∷
    "step=arrive bench=2 from=1" ∷
    "step=turn bench=1" ∷
    "step=turn bench=2" ∷
    "step=leave bench=2" ∷
    "" ∷
    "step=fail bench=16" ∷
    "step=turn bench=017" ∷ [])
    ++ ascii "step=turn bench=17"

abbrev pub ended_output : List ℕ
ended_output = text_of (
    "line=1 answer=0" ∷
    "line=2 answer=0" ∷
    "line=3 answer=0" ∷
    "line=4 answer=0" ∷
    "line=5 answer=0" ∷
    "line=6 answer=0" ∷
    "line=7 answer=0" ∷
    "line=8 answer=20" ∷
    "line=9 answer=0" ∷
    "line=10 answer=20" ∷
    "line=11 answer=1" ∷
    "bench=1 state=decided round=1 value=7" ∷
    "bench=2 state=left round=1 value=7" ∷
    "bench=16 state=failed round=0 value=none" ∷
    "lines=11 refused=3" ∷ [])

-- ---- a ledger script with both ledger examples of docs/SCOPE.md in it

abbrev pub script_input : List ℕ
script_input = text_of (
    "step=join sender=1 slot=0" ∷
    "step=join sender=2 slot=0" ∷
    "step=sweep sender=2 tag=97" ∷
    "step=sweep sender=1 tag=98" ∷
    "step=sweep sender=1 tag=99" ∷
    "step=close sender=1" ∷
    "step=close sender=2" ∷
    "step=handout room=2" ∷
    "step=close sender=1" ∷
    "step=close sender=2" ∷
    "step=handout room=2" ∷
    "step=handout room=3" ∷
    "step=sweep sender=1" ∷
    "step=end sender=1 slot=3" ∷
    "step=end sender=1 slot=1" ∷
    "step=end sender=1 slot=1" ∷
    "step=close sender=2" ∷
    "step=handout room=0" ∷ [])

abbrev pub script_output : List ℕ
script_output = text_of (
    "line=1 answer=0" ∷
    "line=2 answer=0" ∷
    "line=3 answer=0" ∷
    "line=4 answer=0" ∷
    "line=5 answer=0" ∷
    "line=6 answer=0" ∷
    "line=7 answer=0" ∷
    "line=8 answer=24" ∷
    "line=9 answer=0" ∷
    "line=10 answer=0" ∷
    "line=11 answer=22" ∷
    "line=12 answer=0 count=3 tags=98,99,97" ∷
    "line=13 answer=20" ∷
    "line=14 answer=18" ∷
    "line=15 answer=0" ∷
    "line=16 answer=16" ∷
    "line=17 answer=0" ∷
    "line=18 answer=0 count=0" ∷
    "sender=1 first=0 open=2 end=1" ∷
    "sender=2 first=0 open=3 end=none" ∷
    "next=2 held=0" ∷
    "lines=18 refused=5" ∷ [])
