-- What no line of a ledger script can say: a tag of more than 32 bits, and a hand-out of more than 1,024 tags. By what can be spelled, and by
-- the hand-out's rule. Assumes nothing.
use Prim.Native.Nat.{ℕ, ◌≤◌, min}
use native.Mathlib.Omega.{arith}
use mathlib.Core.List.{List}
use mathlib.Core.Path.{◌≡◌}
use lib.ListN.{length}
use borrow.Author.Tests.{leb-true}
use Rattle.std.specs.Prelude.{Some}
use Rattle.common.proofs.Tests.{both}
use Rattle.kinds.specs.declared.BenchNo.{BenchNo}
use Rattle.book.specs.Book as book
use Rattle.book.proofs.Outcomes.{step_ind, hand_out_ind}
use Rattle.spelling.specs.declared.LedgerStep.{LedgerStep}
use Rattle.spelling.specs.declared.LedgerStep.TheVariants.{Join, Sweep, Close, End, HandOut}
use Rattle.spelling.specs.Spelling.{is_small}
use Rattle.spelling.specs.LedgerSpelling.{most_tag, is_tag, is_scriptable}
use Rattle.spelling.specs.LedgerReading.{ledger_said_of}
use Rattle.spelling.specs.LedgerSteps.{step_is}
use Rattle.spelling.proofs.LedgerTheorems.{reads_iff_spelled}

-- ---- tags

pub tag_small : (line : List ℕ) (s : BenchNo) (t : ℕ) → ledger_said_of line ≡ Some (Sweep s t) → t ≤ most_tag
unfolding is_scriptable
tag_small line s t e = leb-true t most_tag (both (is_small s.0) (is_tag t) ((reads_iff_spelled line (Sweep s t)).0 e).1).1

-- ---- hand-outs

abbrev Few : book.Answer → Type 0
Few a = length a.tags ≤ book.most_held

pub few_tags : (n : ℕ) (b : book.Book) (s : LedgerStep) → length (book.step n b (step_is s)).tags ≤ book.most_held
unfolding step_is book.answer book.after
few_tags n b (Join s f) = step_ind n b (book.join s.0 f.0) Few (λ k e. omega arith) (λ h. omega arith)
few_tags n b (Sweep s t) = step_ind n b (book.sweep s.0 t) Few (λ k e. omega arith) (λ h. omega arith)
few_tags n b (Close s) = step_ind n b (book.close s.0) Few (λ k e. omega arith) (λ h. omega arith)
few_tags n b (End s e) = step_ind n b (book.end s.0 e.0) Few (λ k e. omega arith) (λ h. omega arith)
few_tags n b (HandOut r) = hand_out_ind n b Few (min r book.most_held) (λ k e. omega arith) (λ u m h. omega arith)
