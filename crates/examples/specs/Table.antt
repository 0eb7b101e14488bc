-- The worked examples P1 to P10 of docs/SCOPE.md as one table, with cases of who counts in a slot and an early leaver, over the definitions of steps, text and ledger.
-- This file is to be believed: `examples` of proofs/Table.antt says that the table holds. A world is written in binary: 0b011 is benches 1 and 2.
-- Where an example is silent, values are 5 and all benches are in the world.
use Rattle.std.specs.Prelude.{ℕ, Bool, true, false, ◌&&◌, List, [], ◌∷◌, ◌++◌, map, eqb}
use Prim.Native.String.{String}
use Rattle.published.specs.Rounds.{Run, new_run, State, fresh, running, decided, abstained, left, failed, Decision, none, chosen, Step, start, abstain, leave, fail, turn, arrive, notice, step}
use Rattle.kinds.specs.declared.Size.TheVariants.{Sixteen}
use Rattle.kinds.specs.Sizes.{benches_of}
use Rattle.spelling.specs.Numbers.{ascii}
use Rattle.spelling.specs.Reading.{said_of}
use Rattle.reports.specs.RunReport.{answer_to}
use Rattle.book.specs.Book as ledger
use Rattle.book.specs.Book.{Book, new_book}
use Rattle.examples.specs.Leaver.{starts, rounds}

-- a line of an example: a step, a line of text or a ledger step with its answer; or what a bench then stands at; or the tags of a hand-out; or a
-- new ledger that begins at a slot
pub data Line : Type 0 where
  does : Step → ℕ → Line
  reads : String → ℕ → Line
  stands : ℕ → ℕ → ℕ → ℕ → Line
  decides' : ℕ → ℕ → ℕ → Line
  keeps : ledger.Step → ℕ → Line
  hands : List ℕ → Line
  begins : ℕ → Line

unfoldable pub is_round : State → ℕ → ℕ → Bool
is_round running r q = eqb r q
is_round fresh r q = false
is_round decided r q = false
is_round abstained r q = false
is_round left r q = false
is_round failed r q = false

unfoldable pub is_value : Decision → ℕ → Bool
is_value none v = false
is_value (chosen u) v = eqb u v

unfoldable pub is_decided : State → Bool
is_decided decided = true
is_decided fresh = false
is_decided running = false
is_decided abstained = false
is_decided left = false
is_decided failed = false

unfoldable pub same : List ℕ → List ℕ → Bool
same [] [] = true
same [] (y ∷ m) = false
same (x ∷ l) [] = false
same (x ∷ l) (y ∷ m) = eqb x y && same l m

-- the examples are of the size of which docs/SCOPE.md speaks
abbrev pub benches : ℕ
benches = benches_of Sixteen

-- from a run and a book: the lines hold, one after another
unfoldable pub holds : Run → Book → List Line → Bool
holds s b [] = true
holds s b (does a k ∷ l) = eqb (step benches s a).number k && holds (step benches s a).run b l
holds s b (reads t k ∷ l) = eqb (answer_to Sixteen s (said_of benches (ascii t))).number k && holds (answer_to Sixteen s (said_of benches (ascii t))).run b l
holds s b (stands i r v w ∷ l) = (is_round (s i).state (s i).round r && eqb (s i).value v && eqb (s i).world w) && holds s b l
holds s b (decides' i r v ∷ l) = (is_decided (s i).state && eqb (s i).round r && is_value (s i).decision v) && holds s b l
holds s b (keeps a k ∷ l) = eqb (ledger.step benches b a).number k && holds s (ledger.step benches b a).book l
holds s b (hands t ∷ l) = (eqb (ledger.step benches b (ledger.hand_out ledger.most_held)).number 0 && same (ledger.step benches b (ledger.hand_out ledger.most_held)).tags t) && holds s (ledger.step benches b (ledger.hand_out ledger.most_held)).book l
holds s b (begins k ∷ l) = holds s (new_book k) l

-- each example from a new run and a new ledger
unfoldable pub all_hold : List (List Line) → Bool
all_hold [] = true
all_hold (e ∷ l) = holds new_run (new_book 0) e && all_hold l

abbrev pub ok : Step → Line
ok a = does a 0

abbrev pub kept : ledger.Step → Line
kept a = keeps a 0

unfoldable pub table : List (List Line)
table =
    -- P1: a bench alone decides in round 1
    (ok (start 1 5 0b1) ∷ ok (turn 1) ∷ decides' 1 1 5 ∷ [])
    -- P2: two that agree decide in round 1
    ∷ (ok (start 1 4 0b11) ∷ ok (start 2 4 0b11) ∷ ok (arrive 1 2) ∷ ok (arrive 2 1) ∷ ok (turn 1) ∷ ok (turn 2) ∷ decides' 1 1 4 ∷ decides' 2 1 4 ∷ [])
    -- P3: a world that is wider than the bench's own takes it to round 2
    ∷ (ok (start 1 4 0b11) ∷ ok (start 2 4 0b111) ∷ ok (abstain 3) ∷ ok (arrive 1 2) ∷ ok (arrive 2 1) ∷ ok (arrive 2 3) ∷ ok (arrive 1 3)
    ∷ ok (turn 2) ∷ decides' 2 1 4 ∷ ok (turn 1) ∷ stands 1 2 4 0b11 ∷ ok (arrive 1 2) ∷ ok (turn 1) ∷ decides' 1 2 4 ∷ [])
    -- P4: whoever leaves is heard out: the lesser value is taken
    ∷ (ok (start 1 9 0b11) ∷ ok (start 2 4 0b11) ∷ ok (leave 2) ∷ ok (arrive 1 2) ∷ ok (arrive 1 2) ∷ ok (turn 1) ∷ stands 1 2 4 0b11 ∷ ok (turn 1) ∷ decides' 1 2 4 ∷ [])
    -- P5: one fails, whom one bench has heard and the other misses
    ∷ (ok (start 1 7 0b111) ∷ ok (start 2 7 0b111) ∷ ok (start 3 3 0b111) ∷ ok (fail 3) ∷ ok (arrive 1 3) ∷ ok (notice 2 3) ∷ ok (arrive 1 2) ∷ ok (arrive 2 1)
    ∷ ok (turn 1) ∷ ok (turn 2) ∷ stands 1 2 3 0b111 ∷ stands 2 2 7 0b11 ∷ ok (notice 1 3) ∷ ok (arrive 1 2) ∷ ok (arrive 2 1)
    ∷ ok (turn 1) ∷ ok (turn 2) ∷ stands 1 3 3 0b11 ∷ stands 2 3 3 0b11 ∷ ok (arrive 1 2) ∷ ok (arrive 2 1) ∷ ok (turn 1) ∷ ok (turn 2) ∷ decides' 1 3 3 ∷ decides' 2 3 3 ∷ [])
    -- P6: worlds that lack a bench, or that a bench's own lacks
    ∷ (ok (start 1 5 0b1) ∷ does (start 2 5 0b11) 7 ∷ does (start 2 5 0b10) 6 ∷ [])
    -- P7: notices and arrivals that are refused
    ∷ (ok (start 1 5 0b11) ∷ ok (start 2 5 0b11) ∷ does (notice 1 2) 10 ∷ ok (arrive 1 2) ∷ does (arrive 1 2) 8 ∷ ok (fail 2) ∷ ok (notice 1 2) ∷ does (arrive 1 2) 9 ∷ [])
    -- P8: values and spellings at their limits
    ∷ (reads "step=start bench=1 value=65536 world=1" 4 ∷ reads "step=start bench=1 value=65535 world=1" 0 ∷ reads "step=turn bench=017" 20 ∷ reads "step=turn bench=17" 1 ∷ [])
    -- P9: a hand-out: senders in rising number, each in order of arrival; tags a, b, c are 97, 98, 99
    ∷ (kept (ledger.join 1 0) ∷ kept (ledger.join 2 0) ∷ kept (ledger.sweep 2 97) ∷ kept (ledger.sweep 1 98) ∷ kept (ledger.sweep 1 99) ∷ kept (ledger.close 1) ∷ kept (ledger.close 1) ∷ kept (ledger.close 2) ∷ kept (ledger.close 2)
    ∷ hands (98 ∷ 99 ∷ 97 ∷ []) ∷ [])
    -- P10: ends: above the open slot, at it, and once more
    ∷ (kept (ledger.join 1 0) ∷ kept (ledger.close 1) ∷ keeps (ledger.end 1 2) 18 ∷ kept (ledger.end 1 1) ∷ keeps (ledger.end 1 1) 16 ∷ [])
    -- laptop 2 has closed 30 and 30 does not go out before 31 is closed, so that its end at 30 is done
    ∷ (begins 30 ∷ kept (ledger.join 2 30) ∷ kept (ledger.join 4 30) ∷ kept (ledger.sweep 2 7) ∷ kept (ledger.sweep 4 8) ∷ kept (ledger.close 2) ∷ kept (ledger.close 4)
    ∷ keeps (ledger.hand_out 9) 24 ∷ kept (ledger.end 2 30) ∷ kept (ledger.close 4) ∷ hands (8 ∷ []) ∷ [])
    -- who is a member of the slot after alone holds a slot up, even one without members
    ∷ (kept (ledger.join 1 1) ∷ keeps (ledger.hand_out 0) 24 ∷ kept (ledger.close 1) ∷ hands [] ∷ keeps (ledger.hand_out 0) 24 ∷ [])
    -- who ends at the slot after is no member of it; the sweeps of the slot after stay
    ∷ (kept (ledger.join 1 0) ∷ kept (ledger.join 2 0) ∷ kept (ledger.sweep 1 7) ∷ kept (ledger.close 1) ∷ kept (ledger.close 2) ∷ kept (ledger.sweep 2 8) ∷ kept (ledger.close 2)
    ∷ keeps (ledger.hand_out 0) 24 ∷ kept (ledger.end 1 1) ∷ keeps (ledger.hand_out 0) 22 ∷ hands (7 ∷ []) ∷ keeps (ledger.hand_out 9) 24 ∷ kept (ledger.close 2) ∷ hands (8 ∷ []) ∷ [])
    -- the last slot that is handed out
    ∷ (begins 65533 ∷ kept (ledger.join 1 65533) ∷ keeps (ledger.hand_out 0) 24 ∷ kept (ledger.close 1) ∷ kept (ledger.close 1) ∷ hands [] ∷ keeps (ledger.hand_out 0) 17 ∷ [])
    -- an early leaver: nobody fails, and the rounds go on to the third
    ∷ (map ok (starts ++ rounds) ++ (decides' 1 3 1 ∷ decides' 2 3 1 ∷ []))
    ∷ []
