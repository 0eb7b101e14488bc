-- A refusal of the code leaves the ledger, its cursor, rows and room, and every place of the receiving buffer, since leaving them all is promised
-- too and a promise settles everything. Assumes nothing.
use mathlib.Core.Path.{◌≡◌, refl, ap, sym, ◌∙◌}
use Prim.Native.Nat.{ℕ}
use mathlib.Core.List.{List, []}
use lib.ListN.{length}
use borrow.Author.Tests.{ne_eqb}
use Rattle.std.specs.Prelude.{Result, Err}
use Rattle.kinds.specs.declared.Refusal.{Refusal}
use Rattle.kinds.specs.Refusals.{number_of, answer_of}
use Rattle.kinds.proofs.Refusals.{never_done}
use Rattle.ledger.specs.declared.Ledger.{Ledger}
use Rattle.book.specs.Book.{Step, hand_out, step}
use Rattle.ledger.specs.Seen.{book_of}
use Rattle.ledger.specs.Promises.{Tells, Hands, laid}
use Rattle.ledger.proofs.Settles as settles
use Rattle.book.proofs.Outcomes.{refused_same}

module _ (n : ℕ) (x : Ledger) (s : Step) (r : ℕ) (x' : Ledger) (a : Tells n x s r x') (refused : r ≡ 0 → ⊥) where
  same : ((step n (book_of x) s).book ≡ book_of x) × ((step n (book_of x) s).tags ≡ [])
  same = refused_same n (book_of x) s (λ z. refused (a.number_is ∙ z))

  stays : Tells n x s r x
  stays = record { number_is = a.number_is; book_is = sym same.0; cursor_is = rw (ne_eqb r 0 refused) refl; joined_is = rw (ne_eqb r 0 refused) refl; rows_are = rw (ne_eqb r 0 refused) refl; past_is = refl }

  pub refused_keeps : x' ≡ x
  refused_keeps = settles.one_content n x s r r x' x a stays

-- the same of what code answers: of an Err
pub refused_step_keeps : (n : ℕ) (x : Ledger) (s : Step) (e : Refusal) (x' : Ledger) → Tells n x s (answer_of {A = Unit {0}} (Err e)) x' → x' ≡ x
refused_step_keeps n x s e x' a = refused_keeps n x s (number_of e) x' a (never_done e)

-- and of a hand-out the receiving buffer too
pub refused_keeps_out : (n : ℕ) (x : Ledger) (out : List ℕ) (r : Result ℕ Refusal) (x' : Ledger) (out' : List ℕ) → Hands n x out r x' out' → (answer_of r ≡ 0 → ⊥) → (x' ≡ x) × (out' ≡ out)
unfolding laid
refused_keeps_out n x out r x' out' a refused =
    let e = refused_same n (book_of x) (hand_out (length out)) (λ z. refused (a.tells.number_is ∙ z)) in
    (refused_keeps n x (hand_out (length out)) (answer_of r) x' a.tells refused, a.out_is ∙ ap (λ (l : List ℕ). laid l out) e.1)
