-- How a ledger script is read, place by place, in the way of the code. This file need not be believed: by `reads_iff_spelled` and
-- `reads_in_turn` of proofs/LedgerTheorems.antt a line reads to a step exactly when it is the step's spelling, and reading gives the lines of `lines_of`.
use Rattle.std.specs.Prelude.{ℕ, cond, List, [], ◌∷◌, map, Option, Some, None}
use Rattle.kinds.specs.declared.BenchNo.{BenchNo}
use Rattle.kinds.specs.declared.SlotNo.{SlotNo}
use Rattle.spelling.specs.declared.LedgerStep.{LedgerStep}
use Rattle.spelling.specs.declared.LedgerStep.TheVariants.{Join, Sweep, Close, End, HandOut}
use Rattle.spelling.specs.declared.LedgerVerb.{LedgerVerb}
use Rattle.spelling.specs.declared.LedgerVerb.TheVariants as verb
use Rattle.spelling.specs.Numbers.{ascii}
use Rattle.spelling.specs.Lines.{lines_of}
use Rattle.spelling.specs.LedgerSpelling.{is_tag}
use Rattle.spelling.specs.Fields.{Found, ◌>>=◌, behind, number_upto, number_at, field_at, first_named, whole, line_from}

-- ---- tags

-- a number, if it is no larger than a tag can be
abbrev pub as_tag : Found ℕ → Found ℕ
as_tag found = do
  (t, next) ← found
  cond (is_tag t) (Some (t, next)) None

-- one of up to 10 digits
unfoldable pub tag_at : List ℕ → ℕ → Found ℕ
tag_at text at = as_tag (number_upto 9 text at)

unfoldable pub tag_field_at : List ℕ → ℕ → Found ℕ
tag_field_at text at = do
  next ← behind (ascii " tag=") text at
  tag_at text next

-- ---- steps

unfoldable pub ledger_key_of : LedgerVerb → List ℕ
ledger_key_of verb.Join = ascii "join sender="
ledger_key_of verb.Sweep = ascii "sweep sender="
ledger_key_of verb.Close = ascii "close sender="
ledger_key_of verb.End = ascii "end sender="
ledger_key_of verb.HandOut = ascii "handout room="

-- first those that a script has most of
abbrev pub ledger_verbs : List LedgerVerb
ledger_verbs = verb.Sweep ∷ verb.Close ∷ verb.HandOut ∷ verb.Join ∷ verb.End ∷ []

unfoldable pub ledger_verb_at : List ℕ → ℕ → Found LedgerVerb
ledger_verb_at text at = first_named ledger_key_of text at ledger_verbs

-- what follows the sender of a step
unfoldable pub slot_at : (BenchNo → SlotNo → LedgerStep) → List ℕ → ℕ → ℕ → Found LedgerStep
slot_at step text at s = do
  (n, end) ← field_at (ascii " slot=") text at
  Some (step (record { 0 = s }) (record { 0 = n }), end)

unfoldable pub sweep_at : List ℕ → ℕ → ℕ → Found LedgerStep
sweep_at text at s = do
  (t, end) ← tag_field_at text at
  Some (Sweep (record { 0 = s }) t, end)

-- what follows the first number of a step
unfoldable pub ledger_rest_at : List ℕ → ℕ → LedgerVerb → ℕ → Found LedgerStep
ledger_rest_at text at verb.Join n = slot_at Join text at n
ledger_rest_at text at verb.Sweep n = sweep_at text at n
ledger_rest_at text at verb.Close n = Some (Close (record { 0 = n }), at)
ledger_rest_at text at verb.End n = slot_at End text at n
ledger_rest_at text at verb.HandOut n = Some (HandOut n, at)

-- the step that is spelled from a place on
unfoldable pub ledger_step_at : List ℕ → ℕ → Found LedgerStep
ledger_step_at text at = do
  name ← behind (ascii "step=") text at
  (v, first) ← ledger_verb_at text name
  (n, next) ← number_at text first
  ledger_rest_at text next v n

-- ---- lines

-- what a line says, its byte 10 left out
unfoldable pub ledger_said_of : List ℕ → Option LedgerStep
ledger_said_of line = whole line (ledger_step_at line 0)

unfoldable pub read_script : List ℕ → List (Option LedgerStep)
read_script text = map ledger_said_of (lines_of text)

-- ---- a script read line by line

unfoldable pub read_script_line_of : List ℕ → ℕ → Found (Option LedgerStep)
read_script_line_of = line_from ledger_said_of
