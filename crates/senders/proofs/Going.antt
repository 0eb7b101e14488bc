-- The visit of the senders' rows that asks whether two slots are closed: a turn of it, and its ends. Assumes nothing.
use mathlib.Core.Path.{◌≡◌, ap, sym, ◌∙◌}
use Prim.Native.Nat.{ℕ, zero, suc, ◌+◌, ◌/◌, ◌%◌, ◌^◌, ◌≤◌, ◌<◌}
use mathlib.Core.Bool.{Bool, true, false, ◌&&◌, false≢true}
use mathlib.Core.List.{List}
use native.Mathlib.Numerals.{add-one}
use native.Mathlib.Omega.{arith}
use lib.ListN.{length, take, get_or, length-take}
use lib.Seq.{get_or-take}
use lib.Dec.{leb}
use borrow.Author.Tests.{leb-true, leb-false}
use Rattle.common.specs.Places.{has}
use Rattle.common.specs.Benches.{every, In}
use Rattle.common.proofs.Tests.{split}
use Rattle.common.proofs.Places.{rest_next, rest_has, rest_misses, rest_none}
use Rattle.common.proofs.Benches.{every_next, every_both, every_get, every_make}
use Rattle.kinds.specs.Sizes.{places}
use Rattle.book.specs.Book as book
use Rattle.book.specs.Book.{is_member, done_with, all_closed}
use Rattle.senders.specs.declared.SenderRow.{SenderRow}
use Rattle.senders.specs.Kept.{row_in, blank, rows_of}
use Rattle.senders.proofs.Seating.{rows_out, rows_in}

-- it is done with both slots
abbrev lets_go : ℕ → ℕ → book.Row → Bool
lets_go k a r = done_with k r && done_with a r

-- each of the first i is, of n, and `rest` is what is left of the set j then
abbrev pub Going : ℕ → ℕ → ℕ → ℕ → List SenderRow → ℕ → ℕ → Type 0
Going n k a j rows rest i = (i ≤ n) × (rest ≡ j / 2 ^ i) × (every i (λ s. lets_go k a (rows_of j rows s)) ≡ true)

-- who has not joined is done with every slot
out_goes : (k a j : ℕ) (rows : List SenderRow) (i : ℕ) → has j i ≡ false → lets_go k a (rows_of j rows (suc i)) ≡ true
unfolding is_member done_with
out_goes k a j rows i e = ap (lets_go k a) (rows_out j rows i e)

-- both slots are closed where everybody is done with both
closed_both : (n k a : ℕ) (rows : ℕ → book.Row) → every n (λ s. lets_go k a (rows s)) ≡ (all_closed n k rows && all_closed n a rows)
unfolding all_closed
closed_both n k a rows = every_both n (λ s. done_with k (rows s)) (λ s. done_with a (rows s))

module _ (m k a j : ℕ) (rows : List SenderRow) (rest i : ℕ) (g : Going m k a j rows rest i) where
  next_of : lets_go k a (rows_of j rows (suc i)) ≡ true → i < m → Going m k a j rows (rest / 2) (i + 1)
  next_of e h = (omega arith, rest_next j i rest g.1, every_next i (λ s. lets_go k a (rows_of j rows s)) ∙ rw (g.2, add-one i, e))

  -- the sender at place i has not joined
  pub going_out : i < m → (rest % 2 ≡ 1 → ⊥) → Going m k a j rows (rest / 2) (i + 1)
  going_out h q = next_of (out_goes k a j rows i (rest_misses j i rest g.1 q)) h

  -- none from place i on has
  pub none_left : (n : ℕ) → m ≡ n → rest ≡ 0 → true ≡ (all_closed n k (rows_of j rows) && all_closed n a (rows_of j rows))
  none_left n many z = sym (every_make n (λ s. lets_go k a (rows_of j rows s)) each) ∙ closed_both n k a (rows_of j rows)
    where
      each : (s : ℕ) → In n s → lets_go k a (rows_of j rows s) ≡ true
      each zero h = absurd (omega arith)
      each (suc l) h = split (leb i l)
          (λ q. out_goes k a j rows l (rest_none j i rest g.1 z l (leb-true i l q)))
          (λ q. every_get i (λ s. lets_go k a (rows_of j rows s)) (suc l) g.2 (omega arith, omega (arith, leb-false i l q)))

  -- it has, and t says whether it is done with both
  module _ (h : i < m) (fits : m ≤ places) (full : length rows ≡ places) (q : rest % 2 ≡ 1) (row : book.Row) (is : row ≡ row_in (get_or (take m rows) i blank)) (t : Bool) (told : t ≡ lets_go k a row) where
    sender_row : lets_go k a (rows_of j rows (suc i)) ≡ t
    sender_row = ap (lets_go k a) (rows_in j rows i (omega arith) (rest_has j i rest g.1 q) ∙ sym (is ∙ ap row_in (get_or-take m rows i blank h))) ∙ sym told

    pub going_next : t ≡ true → Going m k a j rows (rest / 2) (i + 1)
    going_next e = next_of (sender_row ∙ e) h

    pub held_up : (n : ℕ) → m ≡ n → t ≡ false → false ≡ (all_closed n k (rows_of j rows) && all_closed n a (rows_of j rows))
    held_up n many e = split (every n (λ s. lets_go k a (rows_of j rows s)))
        (λ y. absurd (false≢true (sym e ∙ sym sender_row ∙ every_get n (λ s. lets_go k a (rows_of j rows s)) (suc i) y (omega arith, omega arith))))
        (λ y. sym y ∙ closed_both n k a (rows_of j rows))

  pub all_go : (n : ℕ) → m ≡ n → m ≤ places → length rows ≡ places → length (take m rows) ≤ i → true ≡ (all_closed n k (rows_of j rows) && all_closed n a (rows_of j rows))
  all_go n many fits full h = let e : i ≡ n = omega (arith, length-take m rows) in sym (rw e at g.2) ∙ closed_both n k a (rows_of j rows)
