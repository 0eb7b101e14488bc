-- Lines there and back, and a line read where it stands in its text, for each kind of steps. Assumes nothing.
use Prim.Native.Nat.{ℕ, zero, suc, ◌+◌, ◌≤◌, ◌<◌}
use native.Mathlib.Omega.{arith}
use mathlib.Core.Bool.{Bool, true, false, cond}
use mathlib.Core.List.{List, [], ◌∷◌, ◌++◌, map, append-nil}
use mathlib.Core.Logic.{⊎_elim}
use mathlib.Core.Path.{◌≡◌, refl, sym, ap, ◌∙◌}
use lib.Dec.{leb, ltb}
use lib.ListN.{length, get_or, drop, drop_of_length-le}
use borrow.Author.Tests.{lt-ltb, le-ltb, le-leb, leb-true, ltb-true, ltb-false, eq-eqb, eqb-true, eqb-false}
use Rattle.std.specs.Prelude.{Option, Some, None}
use Rattle.common.proofs.Tests.{split, clash}
use Rattle.spelling.specs.Lines.{lines_of}
use Rattle.spelling.specs.Fields.{Found, line_at, next_from, next_at, whole, line_from, ends_at, ended, read_from}
use Rattle.spelling.specs.InTurn.{read_all}
use Rattle.spelling.proofs.Places.{le_or_lt, Spans}
use Rattle.spelling.proofs.Keys.{same_found}
use Rattle.spelling.proofs.LineEnds.{Ends, at_end, ends_last, ends_next, ends_not, no_ten, spans_line, spans_end, line_stands}
use Rattle.spelling.proofs.TextTrip.{lines_at, next_above}

pub some_or_none : {S : Type 0} (said : Option S) → ((s : S) → said ≡ Some s → ⊥) → said ≡ None
some_or_none None f = refl
some_or_none (Some s) f = absurd (f s refl)

-- ---- a text, line after line

module _ {S : Type 0} (said : List ℕ → Option S) where
  pub all_read : (k : ℕ) (text : List ℕ) (at : ℕ) → length text ≤ at + k → read_all (line_from said text) k at ≡ map said (lines_of (drop at text))
  unfolding read_all line_from lines_of
  all_read zero text at h = rw (drop_of_length-le text {i = at} (omega arith)) refl
  all_read (suc k) text at h =
      ⊎_elim (λ (out : length text ≤ at). rw (le-ltb at (length text) out, drop_of_length-le text out) refl)
      (λ (inn : at < length text).
      let n = next_above text at inn in
      rw (lt-ltb at (length text) inn, lines_at text at inn) (ap (λ (z : List (Option S)). said (line_at text at) ∷ z) (all_read k text (next_at text at) (omega arith))))
      (le_or_lt (length text) at)

  -- the line x stands at a place, and the next begins at `next`
  pub record Reads (text : List ℕ) (at : ℕ) (x : Option S) (next : ℕ) : Type 0 where
    pub lines : map said (lines_of (drop at text)) ≡ x ∷ map said (lines_of (drop next text))
    pub above : at < next
    pub within : next ≤ length text

  module _ (text : List ℕ) (at : ℕ) where
    pub line_reads_on : (x : Option S) (next : ℕ) → line_from said text at ≡ Some (x, next) → Reads text at x next
    unfolding line_from
    line_reads_on x next e = split (ltb at (length text))
        (λ h.
        let p = same_found (rw h at e) in
        let i = ltb-true at (length text) h in
        record {
          lines = rw (lines_at text at i, p.0, p.1) refl;
          above = omega (arith, next_above text at i);
          within = omega (arith, next_above text at i);
        })
        (λ h. clash (let u : None ≡ Some (x, next) = rw h at e in cc))

    pub line_ends : line_from said text at ≡ None → map said (lines_of (drop at text)) ≡ []
    unfolding line_from lines_of
    line_ends e = split (ltb at (length text))
        (λ h. clash (let u : Some (said (line_at text at), next_at text at) ≡ None = rw h at e in cc))
        (λ h. rw (drop_of_length-le text (ltb-false at (length text) h)) refl)

-- a step that byte 10 follows
pub read_ten : {S : Type 0} (step_at : List ℕ → ℕ → Found S) (text : List ℕ) (at : ℕ) (s : S) (end : ℕ) → at < length text → end < length text
    → step_at text at ≡ Some (s, end) → get_or text end 0 ≡ 10 → read_from step_at text at ≡ Some (Some s, end + 1)
unfolding read_from next_from
read_ten step_at text at s end inside within e ten = rw (lt-ltb at (length text) inside, e, lt-ltb end (length text) within, eq-eqb (get_or text end 0) 10 ten) refl

-- ---- a kind of steps

-- what is spelled is read where the line ends behind it, what is read is spelled there, and no byte of a spelling is 10
pub record Spelt {S : Type 0} (step_at : List ℕ → ℕ → Found S) (spelling : S → List ℕ) (spellable : S → Bool) : Type 0 where
  pub reads : (s : S) (text : List ℕ) (at : ℕ) (rest : List ℕ) → spellable s ≡ true → Ends rest → drop at text ≡ spelling s ++ rest → step_at text at ≡ Some (s, at + length (spelling s))
  pub stands : (text : List ℕ) (at : ℕ) (s : S) (end : ℕ) → step_at text at ≡ Some (s, end) → Spans text at (spelling s) end × (spellable s ≡ true)
  pub no_ten_in : (s : S) → no_ten (spelling s) ≡ true

module _ {S : Type 0} {step_at : List ℕ → ℕ → Found S} {spelling : S → List ℕ} {spellable : S → Bool} (k : Spelt step_at spelling spellable) where
  abbrev said : List ℕ → Option S
  said line = whole line (step_at line 0)

  -- ---- a line by itself

  pub line_reads : (s : S) → spellable s ≡ true → said (spelling s) ≡ Some s
  line_reads s h =
      rw (k.reads s (spelling s) 0 [] h at_end (sym (append-nil (spelling s)))) (rw (le-leb (length (spelling s)) (0 + length (spelling s)) (omega arith)) refl)

  pub line_sound : (line : List ℕ) (s : S) → said line ≡ Some s → (line ≡ spelling s) × (spellable s ≡ true)
  line_sound line s got = go (step_at line 0) refl got
    where
      go : (f : Found S) → step_at line 0 ≡ f → whole line f ≡ Some s → (line ≡ spelling s) × (spellable s ≡ true)
      go None e g = clash (cc)
      go (Some (t, end)) e g = split (leb (length line) end)
          (λ h.
          let g' : Some t ≡ Some s = rw h at g in
          let a : t ≡ s = cc in
          let r = k.stands line 0 t end e in
          let z : drop end line ≡ [] = drop_of_length-le line (leb-true (length line) end h) in
          rw (← a) (r.0.stands ∙ rw (z, append-nil) refl, r.1))
          (λ h. let g' : None ≡ Some s = rw h at g in clash (cc))

  pub iff_spelled : (line : List ℕ) (s : S) → (said line ≡ Some s → (line ≡ spelling s) × (spellable s ≡ true)) × ((line ≡ spelling s) × (spellable s ≡ true) → said line ≡ Some s)
  iff_spelled line s = (line_sound line s, λ h. rw h.0 (line_reads s h.1))

  pub none_spelled : (line : List ℕ) → ((s : S) → spellable s ≡ true → line ≡ spelling s → ⊥) → said line ≡ None
  none_spelled line f = some_or_none (said line) (λ s e. let r = line_sound line s e in f s r.1 r.0)

  pub one_spelled : (s t : S) → spellable s ≡ true → spellable t ≡ true → spelling s ≡ spelling t → s ≡ t
  one_spelled s t h g e = let p = line_reads s h in let q = line_reads t g in let r : Some s ≡ Some t = sym p ∙ rw e q in cc

  -- ---- a line where it stands in its text

  -- a line that says a step is read as that step where it stands
  found : (text : List ℕ) (at : ℕ) (s : S) → said (line_at text at) ≡ Some s → (end : ℕ) × (step_at text at ≡ Some (s, end)) × Ends (drop end text)
  found text at s got =
      let r = line_sound (line_at text at) s got in
      let l = line_stands text at (spelling s) r.0 in
      (at + length (spelling s), k.reads s text at l.0 r.1 l.2 l.1, l.3)

  -- no step, or one that the line goes on behind
  not_said : (text : List ℕ) (at : ℕ) → ((s : S) (end : ℕ) → step_at text at ≡ Some (s, end) → Ends (drop end text) → ⊥) → said (line_at text at) ≡ None
  not_said text at f = some_or_none (said (line_at text at)) (λ s g. let p = found text at s g in f s p.0 p.1 p.2)

  ends_is : (text : List ℕ) (end : ℕ) → ends_at text end ≡ true → Ends (drop end text)
  ends_is text end h = split (ltb end (length text))
      (λ e. ends_next text end (ltb-true end (length text) e) (eqb-true (get_or text end 0) 10 (rw e at h)))
      (λ e. ends_last text end (ltb-false end (length text) e))

  ends_none : (text : List ℕ) (end : ℕ) → ends_at text end ≡ false → Ends (drop end text) → ⊥
  ends_none text end h = split (ltb end (length text))
      (λ e. ends_not text end (ltb-true end (length text) e) (eqb-false (get_or text end 0) 10 (rw e at h)))
      (λ e. let g : true ≡ false = rw e at h in clash (cc))

  -- what a line says is what is read where it stands
  pub line_read : (text : List ℕ) (at : ℕ) → read_from step_at text at ≡ line_from said text at
  unfolding read_from line_from next_at
  line_read text at = go (step_at text at) refl
    where
      go : (f : Found S) → step_at text at ≡ f → cond (ltb at (length text)) (Some (ended text at f)) None ≡ cond (ltb at (length text)) (Some (said (line_at text at), next_at text at)) None
      go None e = let m = not_said text at (λ s end g n. clash (cc)) in rw m refl
      go (Some (s, end)) e = split (ends_at text end)
          (λ h.
          let p = k.stands text at s end e in
          let t = k.no_ten_in s in
          let n = ends_is text end h in
          rw (h, spans_line text at (spelling s) end p.0 t n, spans_end text at (spelling s) end p.0 t n, line_reads s p.1) refl)
          (λ h.
          let m = not_said text at (λ s' end' g n. let same = same_found (sym e ∙ g) in ends_none text end h (rw (← same.1) at n)) in
          rw (h, m) refl)
