-- What is printed of a text is its report, or refusal 23 of one that is too long; and what is read of a text is enough of it to tell. Assumes nothing.
use Rattle.std.proofs.Common.{◌≡◌, ℕ, ◌+◌, ◌≤◌, ◌<◌, List, [], ◌++◌, length, take, refl, sym, ap, ◌∙◌, subst, append-nil, length-take-le, None, Some, IfSome, arith}
use Rattle.std.specs.declared.option.Option.{Option}
use Rattle.std.specs.Io.KnownBytes.{Appends, Consumes, IsAtEnd}
use lib.Dec.{leb}
use lib.ListN.{length-append}
use borrow.Author.Tests.{leb-true, leb-false, le-leb, lt-leb}
use Rattle.common.proofs.Tests.{split, clash}
use Rattle.spelling.specs.Numbers.{digits, leads}
use Rattle.spelling.specs.Answers.{refusal_text}
use Rattle.spelling.specs.Stored.{Stored, fitting}
use Rattle.spelling.proofs.Stores.{fitting_stored}
use Rattle.spelling.proofs.Puts.{front}
use Rattle.std.specs.Prelude.{Result, Ok, Err}
use Rattle.kinds.specs.declared.Refusal.{Refusal}
use Rattle.kinds.specs.declared.Refusal.TheVariants.{LongText}
use Rattle.kinds.specs.Refusals.{number_of, answer_of}
use Rattle.kinds.proofs.Refusals.{never_done}
use Rattle.reports.specs.Reported.{Reports, length_of, longest}
use Rattle.reports.proofs.Theorems.{report_stands, report_settles}
use Rattle.reports.proofs.Settled.{text_long}
use Rattle.printing.specs.Printed.{printed, HeldBy}

refusal_short : length (refusal_text 23) ≡ 11
unfolding digits leads
refusal_short = refl

module _ (report : List ℕ → List ℕ) where
  of_short : (text : List ℕ) → length text ≤ longest → printed report text ≡ report text
  unfolding printed
  of_short text h = rw (le-leb (length text) longest h) refl

  of_long : (text : List ℕ) → longest < length text → printed report text ≡ refusal_text 23
  unfolding printed
  of_long text h = rw (lt-leb (length text) longest h) refl

  -- a text of which one byte more than the longest was read is too long, and of any other all was read
  pub printed_read : (whole text rest : List ℕ) → whole ≡ text ++ rest → (length text ≤ longest → rest ≡ []) → printed report text ≡ printed report whole
  printed_read whole text rest e all = split (leb (length text) longest)
      (λ h. ap (printed report) (sym (e ∙ ap (λ l. text ++ l) (all (leb-true (length text) longest h)) ∙ append-nil text)))
      (λ h.
      let long = leb-false (length text) longest h in
      of_long text long ∙ sym (of_long whole (omega (arith, ap length e, length-append text rest))))

  -- what is printed of the front of an input into which the reader was read, to its end or until the input was full, is printed of all that the reader had
  pub read_printed : (had left held held' : Option (List ℕ)) (input : List ℕ) (n : ℕ) → longest < length input → n ≤ length input
      → Consumes had left (take n input) → (n < length input → IsAtEnd left) → Appends held held' (printed report (take n input)) → IfSome had (λ text. Appends held held' (printed report text))
  read_printed None left held held' input n long h read end p = tt
  read_printed (Some text) None held held' input n long h read end p = absurd read
  read_printed (Some text) (Some rest) held held' input n long h read end p =
      let is_n : length (take n input) ≡ n = length-take-le n input h in
      subst (Appends held held') (printed_read text (take n input) rest read (λ few. end (omega arith))) p

  -- where no report is empty, and the room holds that of each text that is not too long
  module _ {bytes : ℕ} (held : HeldBy bytes report) {text room a : List ℕ} (wide : bytes ≤ length room) {r : Result ℕ Refusal}
      (p : Reports text (report text) room r a) where
    answer_short : length text ≤ longest → answer_of r ≡ 0
    answer_short h = p.number ∙ held.enough text room h wide

    -- of one that is too long the answer is 23
    answer_long : longest < length text → r ≡ Err LongText
    answer_long h = (report_settles (held.some text) p (text_long text (report text) room h)).0

    -- a length is that of the report, which stands at the room's front
    pub report_printed : (n : ℕ) → r ≡ Ok n → take n a ≡ printed report text
    report_printed n e = split (leb (length text) longest)
        (λ h.
        let short = leb-true (length text) longest h in
        ap (λ k. take k a) (sym (ap length_of e)) ∙ report_stands p (answer_short short) ∙ sym (of_short text short))
        (λ h. clash (let z : 0 ≡ 23 = sym (ap answer_of e) ∙ ap answer_of (answer_long (leb-false (length text) longest h)) in omega arith))

    -- a refusal is 23, whose line has room in 11 bytes
    pub refusal_printed : (k : Refusal) → r ≡ Err k → {l l' : List ℕ} {next : ℕ} → 11 ≤ length l
        → Stored l 0 (fitting l 0 (refusal_text (number_of k))) next l' → take next l' ≡ printed report text
    refusal_printed k e {l} {l'} {next} wide s = split (leb (length text) longest)
        (λ h. absurd (never_done k (ap answer_of (sym e) ∙ answer_short (leb-true (length text) longest h))))
        (λ h.
        let long = leb-false (length text) longest h in
        let is_23 : number_of k ≡ 23 = ap answer_of (sym e ∙ answer_long long) in
        let fits : 0 + length (refusal_text 23) ≤ length l = omega (arith, refusal_short) in
        let inside : length (refusal_text 23) ≤ length l = omega (arith, fits) in
        front (refusal_text 23) inside (fitting_stored l 0 (refusal_text 23) fits (rw is_23 at s)) ∙ sym (of_long text long))
