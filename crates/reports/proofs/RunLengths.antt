-- How long a report can be, whatever the size: never 0 bytes, and at most 1,365,176. The longest has 65,536 empty lines: a line that is a step takes at least
-- 17 bytes of the text, so a bench's line costs more lines of answers than it is worth. Assumes nothing.
use Prim.Native.Nat.{ℕ, zero, suc, ◌+◌, ◌-◌, ◌*◌, ◌≤◌, ◌<◌}
use native.Mathlib.Omega.{arith}
use mathlib.Core.Bool.{Bool, true, false, cond}
use mathlib.Core.List.{List, [], ◌∷◌, map}
use mathlib.Core.Logic.{⊎_elim}
use mathlib.Core.Path.{◌≡◌, refl, ap, ◌∙◌}
use lib.ListN.{length, length-append, length-map}
use Rattle.std.specs.Prelude.{Option, Some, None}
use Rattle.published.specs.Rounds.{Run, Bench, new_run, new_bench, is_fresh, Step, Answer, refuse, done, step, run_from}
use Rattle.common.specs.Updates.{put}
use Rattle.common.proofs.Tests.{split}
use Rattle.common.proofs.Updates.{put_ind}
use Rattle.published.proofs.Refusals.{number_upto_11}
use Rattle.published.proofs.Moves.{Outcome, refused, moved, step_outcome}
use Rattle.kinds.specs.declared.Size.{Size}
use Rattle.kinds.specs.Sizes.{benches_of}
use Rattle.kinds.proofs.Sizes.{benches_fit, places_fit}
use Rattle.kinds.specs.declared.Step.{Step as Line}
use Rattle.kinds.specs.declared.Step.TheVariants.{Start, Abstain, Leave, Fail, Turn, Arrive, Notice}
use Rattle.kinds.specs.Stand.{step_of}
use Rattle.spelling.specs.Numbers.{digits}
use Rattle.spelling.specs.Spelling.{step_text}
use Rattle.spelling.specs.Storing.{lead, four, low}
use Rattle.spelling.specs.Lines.{lines_of}
use Rattle.spelling.specs.Reading.{said_of}
use Rattle.spelling.specs.Text.{read_text}
use Rattle.spelling.proofs.Places.{le_or_lt}
use Rattle.spelling.proofs.LineBytes.{bytes_in, lines_few, lines_bytes}
use Rattle.spelling.proofs.Decimals.{lead_none, lead_some, digits_low, digits_length, small_length}
use Rattle.spelling.proofs.Theorems.{line_writes_back}
use Rattle.reports.specs.RunReport.{answer_to, answers_from, steps_of, run_after, answer_line, answer_lines, last_round, bench_line, bench_lines, refused_in, totals_of, run_report_for, run_report_of}
use Rattle.reports.specs.Reported.{longest, number_for}
use Rattle.reports.proofs.Settled.{room_enough}
use Rattle.reports.proofs.RunLines.{line_length_lem, spelled_short, totals_of_length, refused_few}

-- ---- the lines of the answers

-- the digits of the numbers 1 to n, for n below 100,000
digits_upto : ℕ → ℕ
digits_upto n = n + (n - 9) + (n - 99) + (n - 999) + (n - 9999)

lead_grows : (q k : ℕ) → length (lead (suc q) (suc k)) + (k - q) ≤ suc k - q
lead_grows q k =
    ⊎_elim (λ (h : suc q ≤ suc k). rw (lead_some (suc q) (suc k) h) (omega arith)) (λ (h : suc k < suc q). rw (lead_none (suc q) (suc k) h) (omega arith))
    (le_or_lt (suc q) (suc k))

digits_grow : (k : ℕ) → suc k < 100000 → length (digits (suc k)) + digits_upto k ≤ digits_upto (suc k)
unfolding low four digits_upto
digits_grow k h = rw (digits_low (suc k) h) (simp length-append (omega (arith, lead_grows 9 k, lead_grows 99 k, lead_grows 999 k, lead_grows 9999 k)))

two_digits : (n : ℕ) → n < 100 → length (digits n) ≤ 2
unfolding low four
two_digits n h = rw (digits_low n (omega arith))
    (simp (lead_none 10000 n (omega arith), lead_none 1000 n (omega arith), lead_none 100 n (omega arith), length-append)
    (⊎_elim (λ (g : 10 ≤ n). rw (lead_some 10 n g) (omega arith)) (λ (g : n < 10). rw (lead_none 10 n g) (omega arith)) (le_or_lt 10 n)))

-- every answer is below 100
data Below : List ℕ → Type 0 where
  none : Below []
  also : (a : ℕ) (l : List ℕ) → a < 100 → Below l → Below (a ∷ l)

answers_length : (k : ℕ) (l : List ℕ) → Below l → k + length l < 100000
    → length (answer_lines (suc k) l) + (16 * k + digits_upto k) ≤ 16 * (k + length l) + digits_upto (k + length l)
unfolding answer_lines
answers_length k [] b h = let e : k + 0 ≡ k = omega arith in rw e (omega arith)
answers_length k (a ∷ l) (also c m s b) h =
    let e : suc k + length l ≡ k + suc (length l) = omega arith in
    let ih = answers_length (suc k) l b (omega arith) in
    rw (length-append (answer_line (suc k) a) (answer_lines (suc (suc k)) l), ← e) (omega (arith, line_length_lem (suc k) a, two_digits a s, digits_grow k (omega arith)))

from_first : (l : List ℕ) → Below l → length l < 100000 → length (answer_lines 1 l) ≤ 16 * length l + digits_upto (length l)
from_first l b h = let e : 0 + length l ≡ length l = omega arith in omega (arith, rw e at (answers_length 0 l b (omega arith)))

-- ---- the lines of the benches

-- how many of the benches 1 to n are not fresh
stood : ℕ → Run → ℕ
stood zero s = 0
stood (suc n) s = stood n s + cond (is_fresh (s (suc n)).state) 0 1

one_at_most : (c : Bool) → cond c 0 1 ≤ 1
one_at_most true = omega arith
one_at_most false = omega arith

stood_below : (n b : ℕ) (s : Run) (x : Bench) → n < b → stood n (put s b x) ≡ stood n s
unfolding stood
stood_below zero b s x h = refl
stood_below (suc n) b s x h =
    put_ind (λ y. stood n (put s b x) + cond (is_fresh y.state) 0 1 ≡ stood n s + cond (is_fresh (s (suc n)).state) 0 1) s b x (suc n)
    (λ e. absurd (omega arith)) (λ e. rw (stood_below n b s x (omega arith)) refl)

stood_put : (n b : ℕ) (s : Run) (x : Bench) → stood n (put s b x) ≤ stood n s + 1
unfolding stood
stood_put zero b s x = omega arith
stood_put (suc n) b s x =
    put_ind (λ y. stood n (put s b x) + cond (is_fresh y.state) 0 1 ≤ stood n s + cond (is_fresh (s (suc n)).state) 0 1 + 1) s b x (suc n)
    (λ e. omega (arith, stood_below n b s x (omega arith), one_at_most (is_fresh x.state))) (λ e. omega (arith, stood_put n b s x))

stood_new : (n : ℕ) → stood n new_run ≡ 0
unfolding stood new_run new_bench is_fresh
stood_new zero = refl
stood_new (suc n) = rw (stood_new n) refl

bench_length : (b : ℕ) (x : Bench) → length (bench_line b x) ≤ 67 * cond (is_fresh x.state) 0 1
unfolding bench_line last_round
bench_length b x = split (is_fresh x.state) (λ e. rw e (omega arith)) (λ e. rw e (spelled_short b x.state (last_round 0 x.sent) x.decision))

benches_length : (n : ℕ) (s : Run) → length (bench_lines n s) ≤ 67 * stood n s
unfolding bench_lines stood
benches_length zero s = omega arith
benches_length (suc n) s = simp length-append (omega (arith, benches_length n s, bench_length (suc n) (s (suc n))))

-- ---- a step lets one bench more be not fresh

module _ (n : ℕ) where
  stood_outcome : (s : Run) (a : Step) (r : Answer) → Outcome n s a r → stood n r.run ≤ stood n s + 1
  unfolding refuse done
  stood_outcome s a r (refused k f) = omega arith
  stood_outcome s a r (moved b x m) = stood_put n b s x

  stood_after : (s : Run) (l : List Step) → stood n (run_from n s l) ≤ stood n s + length l
  unfolding run_from
  stood_after s [] = omega arith
  stood_after s (a ∷ l) = omega (arith, stood_after (step n s a).run l, stood_outcome s a (step n s a) (step_outcome n s a))

module _ (size : Size) where
  answer_below : (s : Run) (x : Option Line) → (answer_to size s x).number < 100
  unfolding answer_to refuse
  answer_below s (Some a) = omega (arith, number_upto_11 (benches_of size) s (step_of a))
  answer_below s None = omega arith

  answers_below : (s : Run) (l : List (Option Line)) → Below (answers_from size s l)
  unfolding answers_from
  answers_below s [] = none
  answers_below s (x ∷ l) =
      let next = (answer_to size s x).run in
      also (answer_to size s x).number (answers_from size next l) (answer_below s x) (answers_below next l)

  answers_count : (s : Run) (l : List (Option Line)) → length (answers_from size s l) ≡ length l
  unfolding answers_from
  answers_count s [] = refl
  answers_count s (x ∷ l) = ap suc (answers_count (answer_to size s x).run l)

-- ---- what lines take of the text

step_long : (a : Line) → 17 ≤ length (step_text a)
unfolding step_text
step_long (Start b v w) = simp length-append (omega (arith, digits_length b.0))
step_long (Abstain b) = omega (arith, digits_length b.0)
step_long (Leave b) = omega (arith, digits_length b.0)
step_long (Fail b) = omega (arith, digits_length b.0)
step_long (Turn b) = omega (arith, digits_length b.0)
step_long (Arrive b f) = simp length-append (omega (arith, digits_length b.0))
step_long (Notice b f) = simp length-append (omega (arith, digits_length b.0))

-- where worlds name benches up to n
steps_take : (n : ℕ) → n ≤ 32 → (ls : List (List ℕ)) → length ls + 17 * length (steps_of (map (said_of n) ls)) ≤ bytes_in ls
unfolding steps_of bytes_in
steps_take n f [] = omega arith
steps_take n f (l ∷ ls) = go (said_of n l) refl (steps_take n f ls)
  where
    go : (x : Option Line) → said_of n l ≡ x → length ls + 17 * length (steps_of (map (said_of n) ls)) ≤ bytes_in ls
        → suc (length ls) + 17 * length (steps_of (x ∷ map (said_of n) ls)) ≤ suc (length l) + bytes_in ls
    go (Some a) e h = omega (arith, step_long a, ap length (line_writes_back n f l a e).0)
    go None e h = omega arith

-- ---- the report

-- n lines, d of which are steps
most : (n d : ℕ) → n ≤ longest → n + 17 * d ≤ suc longest → 16 * n + digits_upto n + 67 * d ≤ 1365150
unfolding digits_upto
most n d h p = omega arith

module _ (size : Size) (text : List ℕ) where
  abbrev benches : ℕ
  benches = benches_of size

  abbrev steps : List Step
  steps = steps_of (read_text benches text)

  abbrev answers : List ℕ
  answers = answers_from size new_run (read_text benches text)

  abbrev final : Run
  final = run_after size text

  parts_length : length (run_report_of size text) ≡ length (answer_lines 1 answers) + (length (bench_lines benches final) + length (totals_of answers))
  unfolding run_report_of run_report_for
  parts_length = simp length-append

  pub run_some : 1 ≤ length (run_report_of size text)
  run_some = omega (arith, parts_length, totals_of_length answers)

  lines_are : length answers ≡ length (lines_of text)
  unfolding read_text
  lines_are = answers_count size new_run (read_text benches text) ∙ length-map (lines_of text) (said_of benches)

  steps_are : length (lines_of text) + 17 * length steps ≤ length text + 1
  unfolding read_text
  steps_are = omega (arith, steps_take benches (omega (arith, benches_fit size, places_fit)) (lines_of text), lines_bytes text)

  pub run_short : length text ≤ longest → length (run_report_of size text) ≤ 1365176
  run_short h =
      let n = length answers in
      let few : n ≤ length text = omega (arith, lines_are, lines_few text) in
      let paid : n + 17 * length steps ≤ length text + 1 = omega (arith, lines_are, steps_are) in
      let a : length (answer_lines 1 answers) ≤ 16 * n + digits_upto n = omega (arith, from_first answers (answers_below size new_run (read_text benches text)) (omega arith)) in
      let b : length (bench_lines benches final) ≤ 67 * length steps = omega (arith, benches_length benches final, stood_after benches new_run steps, stood_new benches) in
      let t : length (totals_of answers) ≤ 26 = omega (arith, totals_of_length answers, small_length n (omega arith), small_length (refused_in answers) (omega (arith, refused_few answers))) in
      omega (arith, parts_length, most n (length steps) (omega arith) (omega arith))

  pub run_room : (room : List ℕ) → length text ≤ longest → 1365176 ≤ length room → number_for text (run_report_of size text) room ≡ 0
  run_room room h g = room_enough text (run_report_of size text) room h (omega (arith, run_short h))
