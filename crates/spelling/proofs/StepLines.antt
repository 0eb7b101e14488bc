-- Lines of run text there and back, each and all of a text. Assumes nothing.
use Prim.Native.Nat.{ℕ, zero, suc, ◌+◌, ◌/◌, ◌%◌, ◌≤◌}
use mathlib.Core.Bool.{true}
use mathlib.Core.List.{List, [], ◌∷◌, ◌++◌, map, append_assoc}
use mathlib.Core.Logic.{⊎_elim}
use mathlib.Core.Path.{◌≡◌, refl, ap, ◌∙◌}
use Rattle.std.specs.Prelude.{Option, Some}
use Rattle.common.proofs.Tests.{clash}
use Rattle.kinds.specs.declared.Step.{Step}
use Rattle.kinds.specs.declared.Step.TheVariants.{Start, Abstain, Leave, Fail, Turn, Arrive, Notice}
use Rattle.spelling.specs.Numbers.{digits}
use Rattle.spelling.specs.Spelling.{members, world_text, step_text, is_writable}
use Rattle.spelling.specs.Lines.{lines_of}
use Rattle.spelling.specs.Text.{read_text, line_text, write_text}
use Rattle.spelling.specs.Reading.{step_at, said_of}
use Rattle.spelling.specs.InTurn.{AllWritable}
use Rattle.spelling.proofs.LineEnds.{no_ten, ten_append, ten_digits}
use Rattle.spelling.proofs.Members.{members_odd, members_even, members_nil}
use Rattle.spelling.proofs.WorldTrip.{parity}
use Rattle.spelling.proofs.StepTrip.{step_reads, step_sound}
use Rattle.spelling.proofs.LineTrip.{Spelt, line_reads, line_sound}
use Rattle.spelling.proofs.TextTrip.{lines_apart, map-append, lines_cut, unlines, lines_joined}

-- ---- no byte of a step is 10, so that a step's line ends behind the step

ten_members : (k b q : ℕ) (sep : List ℕ) → no_ten sep ≡ true → no_ten (members k b q sep) ≡ true
unfolding no_ten
ten_members zero b q sep h = rw (members_nil b q sep) refl
ten_members (suc k) b q sep h =
    ⊎_elim (λ (o : q % 2 ≡ 1). rw (members_odd k b q sep o) (ten_append sep _ h (ten_append (digits b) _ (ten_digits b) (ten_members k (b + 1) (q / 2) (44 ∷ []) refl))))
    (λ (z : q % 2 ≡ 0). rw (members_even k b q sep z) (ten_members k (b + 1) (q / 2) sep h))
    (parity q)

ten_world : (w : ℕ) → no_ten (world_text w) ≡ true
unfolding world_text no_ten
ten_world w = ten_members 32 1 w [] refl

pub ten_step : (s : Step) → no_ten (step_text s) ≡ true
unfolding step_text no_ten
ten_step (Start b v w) = ten_append (digits b.0) _ (ten_digits b.0) (ten_append (digits v.0) _ (ten_digits v.0) (ten_world w))
ten_step (Abstain b) = ten_digits b.0
ten_step (Leave b) = ten_digits b.0
ten_step (Fail b) = ten_digits b.0
ten_step (Turn b) = ten_digits b.0
ten_step (Arrive b f) = ten_append (digits b.0) _ (ten_digits b.0) (ten_digits f.0)
ten_step (Notice b f) = ten_append (digits b.0) _ (ten_digits b.0) (ten_digits f.0)

pub run_text : (limit : ℕ) → limit ≤ 32 → Spelt (step_at limit) step_text (is_writable limit)
run_text limit lim = record {
  reads = λ s text at rest h n e. step_reads limit s text at rest lim h n e;
  stands = λ text at s end e. let p = step_sound limit text at s end lim e in (p.spans, p.writable);
  no_ten_in = ten_step;
}

-- ---- what stands before a byte 10 and what stands behind it

pub text_apart : (limit : ℕ) (front back : List ℕ) → read_text limit (front ++ (10 ∷ back)) ≡ read_text limit (front ++ (10 ∷ [])) ++ read_text limit back
unfolding read_text
text_apart limit front back = ap (map (said_of limit)) (lines_apart front back) ∙ map-append (said_of limit) (lines_of (front ++ (10 ∷ []))) (lines_of back)

-- ---- what is written is read

pub text_reads : (limit : ℕ) (ss : List Step) → limit ≤ 32 → AllWritable limit ss → read_text limit (write_text ss) ≡ map Some ss
unfolding read_text write_text line_text AllWritable lines_of said_of
text_reads limit [] lim h = refl
text_reads limit (s ∷ ss) lim h =
    let c : lines_of (step_text s ++ (10 ∷ []) ++ write_text ss) ≡ step_text s ∷ lines_of (write_text ss) =
    ap lines_of (append_assoc (step_text s) (10 ∷ []) (write_text ss)) ∙ lines_cut (step_text s) (write_text ss) (ten_step s) in
    rw (c, line_reads (run_text limit lim) s h.0) (ap (λ (z : List (Option Step)). Some s ∷ z) (text_reads limit ss lim h.1))

-- ---- what is read is what is written

lines_sound : (limit : ℕ) (ls : List (List ℕ)) (ss : List Step) → limit ≤ 32 → map (said_of limit) ls ≡ map Some ss → write_text ss ≡ unlines ls
unfolding write_text line_text unlines said_of
lines_sound limit [] [] lim e = refl
lines_sound limit [] (s ∷ ss) lim e = clash (cc)
lines_sound limit (l ∷ ls) [] lim e = clash (cc)
lines_sound limit (l ∷ ls) (s ∷ ss) lim e =
    let a : said_of limit l ≡ Some s = cc in
    let b : map (said_of limit) ls ≡ map Some ss = cc in
    let r = line_sound (run_text limit lim) l s a in
    append_assoc (step_text s) (10 ∷ []) (write_text ss) ∙ rw (← r.0, lines_sound limit ls ss lim b) refl

pub text_sound : (limit : ℕ) (front : List ℕ) (ss : List Step) → limit ≤ 32 → read_text limit (front ++ (10 ∷ [])) ≡ map Some ss → write_text ss ≡ front ++ (10 ∷ [])
unfolding read_text
text_sound limit front ss lim e = lines_sound limit (lines_of (front ++ (10 ∷ []))) ss lim e ∙ lines_joined front
