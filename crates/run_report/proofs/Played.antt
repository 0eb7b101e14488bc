-- A text played line by line: what is answered so far, and what is still to come. Assumes nothing.
use Rattle.bench.specs.declared.Bench.{Bench}
use Rattle.bench.specs.declared.Entry.{Entry}
use Prim.Native.Nat.{ℕ, ◌-◌, ◌≤◌, ◌<◌}
use native.Mathlib.Omega.{arith}
use mathlib.Core.List.{List, [], ◌∷◌, ◌++◌, append_assoc, append-nil}
use mathlib.Core.Path.{◌≡◌, refl, sym, ap, ◌∙◌}
use lib.ListN.{length, drop, length-append}
use Rattle.published.specs.Rounds.{Run, new_run, refuse, run_from}
use Rattle.kinds.specs.declared.Step.{Step}
use Rattle.kinds.specs.Stand.{step_of}
use Rattle.kinds.specs.Sizes.{benches_of}
use Rattle.kinds.specs.declared.Size.{Size}
use Rattle.kinds.proofs.Sizes.{benches_fit}
use Rattle.tables.specs.Runs.{run_of}
use Rattle.tables.specs.Sound.{Sound}
use Rattle.tables.specs.declared.Tables.{Tables}
use Rattle.tables.specs.Steps.{Acts, table_step, empty_tables, refused}
use Rattle.tables.specs.Meets.{Links}
use Rattle.tables.proofs.Theorems.{empty_sound, empty_run, promise_links}
use Rattle.std.specs.Prelude.{Option, Some, None}
use Rattle.spelling.specs.Reading.{said_of, read_line_of}
use Rattle.spelling.specs.Text.{read_text}
use Rattle.spelling.proofs.LineTrip.{Reads as Line, line_reads_on, line_ends}
use Rattle.reports.specs.RunReport.{answer_to, answers_from, steps_of, run_after}
use Rattle.run_report.specs.Parts.{Played}

-- ---- one line

module _ (z : Size) (t : List Bench) (l : List (List Entry)) (s : Sound (benches_of z) t l) where
  -- a step is answered as the tables answer it
  pub does_links : (x : Option Step) (a : Step) → x ≡ Some a → (r : ℕ) (t' : List Bench) (l' : List (List Entry)) → Acts r t' l' (table_step (benches_of z) t l (step_of a))
      → Links (benches_of z) (refused r t' l') (answer_to z (run_of t l) x)
  unfolding answer_to
  does_links x a e r t' l' p = rw e (promise_links (benches_of z) t l s (step_of a) r t' l' p)

  -- a malformed line is answered 20, and changes nothing
  pub malformed_links : (x : Option Step) → x ≡ None → Links (benches_of z) (refused 20 t l) (answer_to z (run_of t l) x)
  unfolding answer_to refuse
  malformed_links x e = rw e (record { number = refl; run = refl; sound = s })

-- ---- the line at a place, and the others

module _ (n : ℕ) (text : List ℕ) (at : ℕ) where
  -- the line x stands at a place, and the next begins at `next`
  abbrev Reads : Option Step → ℕ → Type 0
  Reads x next = Line (said_of n) text at x next

  read_line_reads : (x : Option Step) (next : ℕ) → read_line_of n text at ≡ Some (x, next) → Reads x next
  unfolding read_line_of
  read_line_reads x next e = line_reads_on (said_of n) text at x next e

  read_on : (x : Option Step) (next : ℕ) → Reads x next → read_text n (drop at text) ≡ x ∷ read_text n (drop next text)
  unfolding read_text
  read_on x next d = d.lines

  read_line_ends : read_line_of n text at ≡ None → read_text n (drop at text) ≡ []
  unfolding read_line_of read_text
  read_line_ends e = line_ends (said_of n) text at e

-- a list of lines played from its first line on
module _ (z : Size) (s : Run) (x : Option Step) (m : List (Option Step)) where
  answers_more : (k : List (Option Step)) (r : ℕ) (s' : Run) → k ≡ x ∷ m → (answer_to z s x).number ≡ r → (answer_to z s x).run ≡ s' → answers_from z s k ≡ r ∷ answers_from z s' m
  unfolding answers_from
  answers_more k r s' e n u = ap (answers_from z s) e ∙ ap (λ (a : ℕ). a ∷ answers_from z (answer_to z s x).run m) n ∙ ap (λ (w : Run). r ∷ answers_from z w m) u

run_more : (z : Size) (s : Run) (x : Option Step) (m k : List (Option Step)) (s' : Run) → k ≡ x ∷ m → (answer_to z s x).run ≡ s'
    → run_from (benches_of z) s (steps_of k) ≡ run_from (benches_of z) s' (steps_of m)
unfolding steps_of run_from answer_to refuse
run_more z s (Some a) m k s' e u = rw e (ap (λ (w : Run). run_from (benches_of z) w (steps_of m)) u)
run_more z s None m k s' e u = rw e (ap (λ (w : Run). run_from (benches_of z) w (steps_of m)) u)

-- ---- the text, line by line

-- the lines before the place are answered; played on from the tables, the others give the rest of the answers
pub record Playing (z : Size) (text : List ℕ) (t : List Bench) (l : List (List Entry)) (answers : List ℕ) (at : ℕ) : Type 0 where
  pub sound : Sound (benches_of z) t l
  pub within : at ≤ length text
  pub few : length answers ≤ at
  pub answered : answers_from z new_run (read_text (benches_of z) text) ≡ answers ++ answers_from z (run_of t l) (read_text (benches_of z) (drop at text))
  pub run : run_after z text ≡ run_from (benches_of z) (run_of t l) (steps_of (read_text (benches_of z) (drop at text)))

module _ (z : Size) (text : List ℕ) where
  pub playing_none : (x : Tables) → x ≡ empty_tables → (answers : List ℕ) → answers ≡ [] → Playing z text x.benches x.logs answers 0
  playing_none x e answers none =
      rw (e, none)
      (record {
        sound = empty_sound (benches_of z) (benches_fit z);
        within = omega arith;
        few = omega arith;
        answered = rw empty_run refl;
        run = rw empty_run refl;
      })

  module _ (t : List Bench) (l : List (List Entry)) (answers : List ℕ) (at : ℕ) (p : Playing z text t l answers at) where
    -- there are fewer answers than the text has bytes
    pub playing_room : (x : Option Step) (next : ℕ) → read_line_of (benches_of z) text at ≡ Some (x, next) → length answers < length text
    playing_room x next e = let d = read_line_reads (benches_of z) text at x next e in omega (arith, p.few)

    -- less of the text is left
    pub playing_less : (x : Option Step) (next : ℕ) → read_line_of (benches_of z) text at ≡ Some (x, next) → length text - next < length text - at
    playing_less x next e = let d = read_line_reads (benches_of z) text at x next e in omega arith

    pub playing_more : (x : Option Step) (next : ℕ) → read_line_of (benches_of z) text at ≡ Some (x, next) → (r : ℕ) (t' : List Bench) (l' : List (List Entry))
        → Links (benches_of z) (refused r t' l') (answer_to z (run_of t l) x) → Playing z text t' l' (answers ++ (r ∷ [])) next
    playing_more x next e r t' l' k =
        let d = read_line_reads (benches_of z) text at x next e in
        record {
          sound = k.sound;
          within = d.within;
          few = omega (arith, length-append answers (r ∷ []), p.few, d.above);
          answered =
              p.answered
              ∙ ap (λ (q : List ℕ). answers ++ q) (answers_more z (run_of t l) x _ _ r (run_of t' l') (read_on (benches_of z) text at x next d) k.number k.run)
              ∙ sym (append_assoc answers (r ∷ []) _);
          run = p.run ∙ run_more z (run_of t l) x _ _ (run_of t' l') (read_on (benches_of z) text at x next d) k.run;
        }

    pub playing_all : read_line_of (benches_of z) text at ≡ None → Played z text t l answers
    unfolding answers_from steps_of run_from
    playing_all e =
        let d = read_line_ends (benches_of z) text at e in
        record {
          few = omega (arith, p.few, p.within);
          answers_are = sym (p.answered ∙ rw d (append-nil answers));
          run_is = sym (p.run ∙ rw d refl);
        }
