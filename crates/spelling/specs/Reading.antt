-- How a text is read, place by place, in the way of the code. This file need not be believed: by `reads_iff_spelled` and `reads_in_turn`
-- of proofs/Theorems.antt a line reads to a step exactly when it is the step's spelling, and reading gives the lines of `lines_of`.
use Rattle.std.specs.Prelude.{ℕ, zero, suc, ◌+◌, ◌-◌, ◌^◌, cond, List, [], ◌∷◌, leb, ltb, eqb, get_or, Option, Some, None}
use Rattle.kinds.specs.declared.BenchNo.{BenchNo}
use Rattle.kinds.specs.declared.Step.{Step}
use Rattle.kinds.specs.declared.Step.TheVariants.{Start, Abstain, Leave, Fail, Turn, Arrive, Notice}
use Rattle.spelling.specs.declared.Verb.{Verb}
use Rattle.spelling.specs.declared.Verb.TheVariants as verb
use Rattle.spelling.specs.Numbers.{ascii}
use Rattle.spelling.specs.Fields.{Found, ◌>>=◌, behind, number_at, field_at, first_named, whole, line_from}

-- ---- worlds

abbrev pub bit_of : ℕ → ℕ
bit_of b = 2 ^ (b - 1)

-- a member above the bench `last`
unfoldable pub member_at : ℕ → List ℕ → ℕ → ℕ → Found ℕ
member_at limit text at last = do
  (b, next) ← number_at text at
  cond (ltb last b) (cond (leb b limit) (Some (b, next)) None) None

-- at most `room` members above the bench `last`, to be added to `world`
unfoldable pub members_at : ℕ → ℕ → List ℕ → ℕ → ℕ → ℕ → Found ℕ
members_at zero limit text at last world = None
members_at (suc room) limit text at last world = do
  (b, next) ← member_at limit text at last
  cond (eqb (get_or text next 0) 44) (members_at room limit text (next + 1) b (world + bit_of b)) (Some (world + bit_of b, next))

unfoldable pub world_at : ℕ → List ℕ → ℕ → Found ℕ
world_at limit text at = members_at limit limit text at 0 0

-- ---- steps

unfoldable pub key_of : Verb → List ℕ
key_of verb.Start = ascii "start bench="
key_of verb.Abstain = ascii "abstain bench="
key_of verb.Leave = ascii "leave bench="
key_of verb.Fail = ascii "fail bench="
key_of verb.Turn = ascii "turn bench="
key_of verb.Arrive = ascii "arrive bench="
key_of verb.Notice = ascii "notice bench="

-- first those that a run has most of
abbrev pub verbs : List Verb
verbs = verb.Arrive ∷ verb.Turn ∷ verb.Notice ∷ verb.Start ∷ verb.Abstain ∷ verb.Leave ∷ verb.Fail ∷ []

unfoldable pub verb_at : List ℕ → ℕ → Found Verb
verb_at text at = first_named key_of text at verbs

-- what follows the bench of a step
unfoldable pub start_at : ℕ → List ℕ → ℕ → ℕ → Found Step
start_at limit text at b = do
  (v, next) ← field_at (ascii " value=") text at
  first ← behind (ascii " world=") text next
  (w, end) ← world_at limit text first
  Some (Start (record { 0 = b }) (record { 0 = v }) w, end)

unfoldable pub from_at : (BenchNo → BenchNo → Step) → List ℕ → ℕ → ℕ → Found Step
from_at step text at b = do
  (f, end) ← field_at (ascii " from=") text at
  Some (step (record { 0 = b }) (record { 0 = f }), end)

-- a step with a sender is a notice or an arrive
abbrev pub sending : Verb → BenchNo → BenchNo → Step
sending verb.Notice = Notice
sending verb.Start = Arrive
sending verb.Abstain = Arrive
sending verb.Leave = Arrive
sending verb.Fail = Arrive
sending verb.Turn = Arrive
sending verb.Arrive = Arrive

unfoldable pub sender_at : List ℕ → ℕ → Verb → ℕ → Found Step
sender_at text at v b = from_at (sending v) text at b

unfoldable pub rest_at : ℕ → List ℕ → ℕ → Verb → ℕ → Found Step
rest_at limit text at verb.Start b = start_at limit text at b
rest_at limit text at verb.Abstain b = Some (Abstain (record { 0 = b }), at)
rest_at limit text at verb.Leave b = Some (Leave (record { 0 = b }), at)
rest_at limit text at verb.Fail b = Some (Fail (record { 0 = b }), at)
rest_at limit text at verb.Turn b = Some (Turn (record { 0 = b }), at)
rest_at limit text at verb.Arrive b = from_at Arrive text at b
rest_at limit text at verb.Notice b = from_at Notice text at b

-- the step that is spelled from a place on
unfoldable pub step_at : ℕ → List ℕ → ℕ → Found Step
step_at limit text at = do
  name ← behind (ascii "step=") text at
  (v, first) ← verb_at text name
  (b, next) ← number_at text first
  rest_at limit text next v b

-- ---- lines

-- what a line says, its byte 10 left out
unfoldable pub said_of : ℕ → List ℕ → Option Step
said_of limit line = whole line (step_at limit line 0)

-- ---- a text read line by line

unfoldable pub read_line_of : ℕ → List ℕ → ℕ → Found (Option Step)
read_line_of limit = line_from (said_of limit)
