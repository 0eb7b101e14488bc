-- A line of a script played on a ledger keeps its promise: a step by the promises of the ledger's own steps, a malformed line by changing nothing. Assumes nothing.
use mathlib.Core.Path.{◌≡◌, refl, ap, sym, ◌∙◌}
use Prim.Native.Nat.{ℕ, ◌≤◌, min}
use mathlib.Core.Bool.{false, and-false}
use mathlib.Core.List.{List, [], ◌++◌, append_assoc}
use native.Mathlib.Omega.{arith}
use lib.ListN.{length, take, drop, length-take, take-append-drop}
use lib.Seq.{drop-append-le}
use lib.Dec.{eqb}
use borrow.Author.Tests.{ne_eqb}
use Rattle.std.specs.Prelude.{Option, Some, None, Result, Ok, Err}
use Rattle.std.specs.Result.{result_and, IsOkAnd, MatchResult}
use Rattle.common.proofs.Tests.{clash}
use Rattle.kinds.specs.declared.BenchNo.{BenchNo}
use Rattle.kinds.specs.declared.SlotNo.{SlotNo}
use Rattle.kinds.specs.declared.Refusal.{Refusal}
use Rattle.kinds.specs.declared.Refusal.TheVariants as refusal
use Rattle.kinds.specs.Refusals.{number_of, answer_of}
use Rattle.kinds.proofs.Refusals.{never_done}
use Rattle.book.specs.Book as book
use Rattle.ledger.specs.declared.Ledger.{Ledger}
use Rattle.ledger.specs.Seen.{room_words, book_of}
use Rattle.ledger.specs.Promises.{Tells, Hands, laid}
use Rattle.book.proofs.Outcomes.{step_ind, hand_out_ind}
use Rattle.kinds.specs.declared.Size.{Size}
use Rattle.kinds.specs.Sizes.{benches_of}
use Rattle.spelling.specs.declared.LedgerStep.{LedgerStep}
use Rattle.spelling.specs.declared.LedgerStep.TheVariants as script
use Rattle.spelling.specs.LedgerSteps.{step_is, is_hand_out}
use Rattle.reports.specs.LedgerReport.{ledger_answer_to, hands_out}
use Rattle.ledger_report.specs.Playing.{handed_of, count_of, LineTells, Plays}

-- ---- a malformed line

pub malformed_plays : (size : Size) (x : Ledger) (out : List ℕ) → Plays size x out None (Err refusal.Malformed) x out
unfolding laid LineTells ledger_answer_to hands_out book.answer
malformed_plays size x out = record { tells = (refl, refl); handed_is = refl; count_is = refl; out_is = refl }

-- ---- steps that write no tags

module _ (size : Size) (x : Ledger) (out : List ℕ) where
  abbrev n : ℕ
  n = benches_of size

  no_tags : (s : book.Step) → (book.after n (book_of x) s).tags ≡ [] → (book.step n (book_of x) s).tags ≡ []
  unfolding book.answer
  no_tags s e = step_ind n (book_of x) s (λ a. a.tags ≡ []) (λ k f. refl) (λ h. e)

  answer_kept : (r : Result (Unit {0}) Refusal) → answer_of {A = Option ℕ} (result_and r (Ok None)) ≡ answer_of r
  answer_kept (Ok u) = refl
  answer_kept (Err e) = refl

  none_handed : (r : Result (Unit {0}) Refusal) → handed_of (result_and r (Ok None)) ≡ false
  none_handed (Ok u) = refl
  none_handed (Err e) = refl

  none_counted : (r : Result (Unit {0}) Refusal) → count_of (result_and r (Ok None)) ≡ 0
  none_counted (Ok u) = refl
  none_counted (Err e) = refl

  step_plays : (s : LedgerStep) (r : Result (Unit {0}) Refusal) (x' : Ledger) → is_hand_out s ≡ false → (book.after n (book_of x) (step_is s)).tags ≡ []
      → Tells n x (step_is s) (answer_of r) x' → Plays size x out (Some s) (result_and r (Ok None)) x' out
  unfolding laid LineTells ledger_answer_to hands_out
  step_plays s r x' silent e t =
      let q = no_tags (step_is s) e in
      record {
        tells = rw (answer_kept r) t;
        handed_is = none_handed r ∙ sym (rw (silent, and-false (eqb (answer_of {A = Option ℕ} (result_and r (Ok None))) 0)) refl);
        count_is = none_counted r ∙ sym (rw q refl);
        out_is = rw q refl;
      }

  pub join_plays : (r : Result (Unit {0}) Refusal) (x' : Ledger) (s : BenchNo) (f : SlotNo) → Tells n x (book.join s.0 f.0) (answer_of r) x' → Plays size x out (Some (script.Join s f)) (result_and r (Ok None)) x' out
  unfolding step_is is_hand_out book.after book.answer
  join_plays r x' s f = step_plays (script.Join s f) r x' refl refl

  pub close_plays : (r : Result (Unit {0}) Refusal) (x' : Ledger) (s : BenchNo) → Tells n x (book.close s.0) (answer_of r) x' → Plays size x out (Some (script.Close s)) (result_and r (Ok None)) x' out
  unfolding step_is is_hand_out book.after book.answer
  close_plays r x' s = step_plays (script.Close s) r x' refl refl

  pub sweep_plays : (r : Result (Unit {0}) Refusal) (x' : Ledger) (s : BenchNo) (tag : ℕ) → Tells n x (book.sweep s.0 tag) (answer_of r) x' → Plays size x out (Some (script.Sweep s tag)) (result_and r (Ok None)) x' out
  unfolding step_is is_hand_out book.after book.answer
  sweep_plays r x' s tag = step_plays (script.Sweep s tag) r x' refl refl

  pub end_plays : (r : Result (Unit {0}) Refusal) (x' : Ledger) (s : BenchNo) (slot : SlotNo) → Tells n x (book.end s.0 slot.0) (answer_of r) x' → Plays size x out (Some (script.End s slot)) (result_and r (Ok None)) x' out
  unfolding step_is is_hand_out book.after book.answer
  end_plays r x' s slot = step_plays (script.End s slot) r x' refl refl

-- ---- a hand-out into the first places of the buffer

-- no more tags are written than there are places
tags_fit : (n : ℕ) (b : book.Book) (k : ℕ) → length (book.step n b (book.hand_out k)).tags ≤ k
unfolding book.answer
tags_fit n b k = hand_out_ind n b (λ a. length a.tags ≤ k) k (λ j f. omega arith) (λ u m z. z)

refused_tags : (n : ℕ) (b : book.Book) (k : ℕ) → eqb (book.step n b (book.hand_out k)).number 0 ≡ false → (book.step n b (book.hand_out k)).tags ≡ []
unfolding book.answer
refused_tags n b k = hand_out_ind n b (λ a. eqb a.number 0 ≡ false → a.tags ≡ []) k (λ j f z. refl) (λ u m g z. clash (cc))

laid_part : (ts out : List ℕ) (n : ℕ) → length ts ≤ n → n ≤ length out → laid ts (take n out) ++ drop n out ≡ laid ts out
unfolding laid
laid_part ts out n h g =
    append_assoc ts (drop (length ts) (take n out)) (drop n out)
    ∙ ap (λ (x : List ℕ). ts ++ x) (sym (drop-append-le (length ts) (take n out) (drop n out) (omega (arith, length-take n out))) ∙ ap (drop (length ts)) (take-append-drop n out))

module _ (size : Size) (x : Ledger) (out : List ℕ) (places : ℕ) (room : length out ≡ room_words) (m : ℕ) (is : m ≡ min places room_words)
    (x' : Ledger) (out₁ : List ℕ) where
  abbrev hand : book.Step
  hand = book.hand_out m

  -- the part that is lent has m places
  part : length (take m out) ≡ m
  part = omega (arith, length-take m out)

  written : out₁ ≡ laid (book.step (benches_of size) (book_of x) (book.hand_out m)).tags (take m out) → out₁ ++ drop m out ≡ laid (book.step (benches_of size) (book_of x) (book.hand_out m)).tags out
  written p =
      ap (λ (y : List ℕ). y ++ drop m out) p ∙ laid_part (book.step (benches_of size) (book_of x) (book.hand_out m)).tags out m (tags_fit (benches_of size) (book_of x) m) (omega arith)

  done_plays : (k : ℕ) → Hands (benches_of size) x (take m out) (Ok k) x' out₁ → Plays size x out (Some (script.HandOut places)) (Ok (Some k)) x' (out₁ ++ drop m out)
  unfolding step_is is_hand_out LineTells ledger_answer_to hands_out
  done_plays k a =
      let t = rw part at a.tells in
      let c = rw part at a.count_is in
      let o = rw part at a.out_is in
      record { tells = rw (← is) t; handed_is = refl; count_is = rw (← is) c; out_is = rw (← is) (written o) }

  refused_plays : (e : Refusal) → Hands (benches_of size) x (take m out) (Err e) x' out₁ → Plays size x out (Some (script.HandOut places)) (Err e) x' (out₁ ++ drop m out)
  unfolding step_is is_hand_out LineTells ledger_answer_to hands_out
  refused_plays e a =
      let t = rw part at a.tells in
      let o = rw part at a.out_is in
      let number = t.number_is in
      let no : eqb (number_of e) 0 ≡ false = ne_eqb (number_of e) 0 (never_done e) in
      let z = refused_tags (benches_of size) (book_of x) m (rw (← number) no) in
      record { tells = rw (← is) t; handed_is = rw no refl; count_is = rw (← is, z) refl; out_is = rw (← is) (written o) }

  pub hand_out_plays : (h : Result ℕ Refusal) (r : Result (Option ℕ) Refusal) → Hands (benches_of size) x (take m out) h x' out₁
      → MatchResult h (λ k. r ≡ Ok (Some k)) (λ e. r ≡ Err e) → Plays size x out (Some (script.HandOut places)) r x' (out₁ ++ drop m out)
  hand_out_plays (Ok k) r a e = rw e (done_plays k a)
  hand_out_plays (Err d) r a e = rw e (refused_plays d a)

-- the count of a hand-out that is done is mapped into `Some`
pub mapped : (h : Result ℕ Refusal) (r : Result (Option ℕ) Refusal) (P : ℕ → Option ℕ → Type 0) → ((k : ℕ) (y : Option ℕ) → P k y → y ≡ Some k)
    → MatchResult h (λ k. IsOkAnd r (P k)) (λ e. r ≡ Err e) → MatchResult h (λ k. r ≡ Ok (Some k)) (λ e. r ≡ Err e)
mapped (Ok k) (Ok y) P f p = ap Ok (f k y p)
mapped (Ok k) (Err e) P f p = absurd p
mapped (Err e) r P f p = p
