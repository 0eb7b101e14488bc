-- An answer with a count is settled by its number and its count; and a sweep is refused as a close is, where that is. Assumes nothing.
use mathlib.Core.Path.{◌≡◌, refl, ap, sym, ◌∙◌}
use Prim.Native.Nat.{ℕ}
use lib.Dec.{leb}
use Rattle.common.specs.Checks.{judge}
use Rattle.common.specs.Benches.{is_bench}
use Rattle.common.proofs.Tests.{split}
use Rattle.kinds.specs.declared.Refusal.{Refusal}
use Rattle.kinds.specs.Refusals.{answer_of}
use Rattle.kinds.proofs.Refusals.{same_refusal, never_done}
use Rattle.std.specs.Prelude.{Result, Ok, Err, IfOk}
use Rattle.book.specs.Book.{last_slot, is_open, open_slot, Book, sweep, close, answer, checks, after, step}

-- an answer is settled by its number and its count
pub same_answer : (r q : Result ℕ Refusal) (n : ℕ) → answer_of r ≡ answer_of q → IfOk r (λ k. k ≡ n) → IfOk q (λ k. k ≡ n) → r ≡ q
same_answer (Ok k) (Ok l) n e a b = ap Ok (a ∙ sym b)
same_answer (Ok k) (Err q) n e a b = absurd (never_done q (sym e))
same_answer (Err r) (Ok l) n e a b = absurd (never_done r e)
same_answer (Err r) (Err q) n e a b = ap Err (same_refusal r q e)

pub sweep_refused : (n : ℕ) (b : Book) (s t : ℕ) → ((step n b (close s)).number ≡ 0 → ⊥) → (step n b (close s)).number ≡ (step n b (sweep s t)).number
unfolding step judge checks answer after
sweep_refused n b s t nz = split (is_bench n s)
    (λ e. split (is_open (b.rows s))
    (λ f. split (leb (open_slot (b.rows s)) last_slot) (λ g. absurd (nz (rw (e, f, g) refl))) (λ g. rw (e, f, g) refl))
    (λ f. rw (e, f) refl))
    (λ e. rw e refl)
