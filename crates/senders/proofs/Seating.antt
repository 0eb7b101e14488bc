-- Laws of `rows_of`: where the code finds a row, that a row written anew is a row put anew, and that nobody is known where nobody has joined.
-- Assumes nothing.
use mathlib.Core.Path.{◌≡◌, refl, ap, sym, ◌∙◌, fun_ext}
use Prim.Native.Nat.{ℕ, zero, suc, ◌^◌, ◌≤◌, ◌<◌}
use mathlib.Core.Bool.{Bool, true, false, ◌&&◌, and-false, false≢true}
use mathlib.Core.List.{List}
use native.Mathlib.Omega.{arith}
use lib.Bits.{bit_or}
use lib.ListN.{length, get_or, set, length-set}
use lib.Seq.{get_or-set_same, get_or-set_other}
use lib.Dec.{ltb}
use borrow.Author.Tests.{lt-ltb, le-ltb}
use Rattle.common.specs.Places.{has}
use Rattle.common.specs.Updates.{put}
use Rattle.common.proofs.Tests.{split, cond_ind}
use Rattle.common.proofs.Sets.{has_none, joined_same, joined_other}
use Rattle.common.proofs.Updates.{put_ind}
use Rattle.book.specs.Book.{last_slot, Row, unknown, open_slot}
use Rattle.senders.specs.declared.SenderRow.{SenderRow}
use Rattle.senders.specs.Kept.{row_in, blank, rows_of}
use Rattle.senders.proofs.Kept.{open_last}

-- one that is not in the set is not known
pub rows_out : (j : ℕ) (rows : List SenderRow) (i : ℕ) → has j i ≡ false → rows_of j rows (suc i) ≡ unknown
unfolding rows_of
rows_out j rows i e = let q : (ltb i (length rows) && has j i) ≡ false = rw e (and-false (ltb i (length rows))) in rw q refl

pub rows_in : (j : ℕ) (rows : List SenderRow) (i : ℕ) → i < length rows → has j i ≡ true → rows_of j rows (suc i) ≡ row_in (get_or rows i blank)
unfolding rows_of
rows_in j rows i h e = rw (lt-ltb i (length rows) h, e) refl

pub rows_past : (j : ℕ) (rows : List SenderRow) (i : ℕ) → length rows ≤ i → rows_of j rows (suc i) ≡ unknown
unfolding rows_of
rows_past j rows i h = rw (le-ltb i (length rows) h) refl

-- who passes a test that nobody unknown does is in the set
pub rows_joined : (p : Row → Bool) → p unknown ≡ false → (j : ℕ) (rows : List SenderRow) (i : ℕ) → p (rows_of j rows (suc i)) ≡ true → has j i ≡ true
rows_joined p u j rows i e = split (has j i) (λ q. q) (λ q. absurd (false≢true (sym u ∙ sym (ap p (rows_out j rows i q)) ∙ e)))

pub rows_open_last : (j : ℕ) (rows : List SenderRow) (s : ℕ) → open_slot (rows_of j rows s) ≤ suc last_slot
unfolding rows_of open_slot
rows_open_last j rows zero = omega arith
rows_open_last j rows (suc i) = cond_ind (λ x. open_slot x ≤ suc last_slot) (ltb i (length rows) && has j i) (row_in (get_or rows i blank)) unknown (λ q. open_last (get_or rows i blank)) (λ q. omega arith)

-- ---- a row written anew, of a sender that is in the set then; of the others the set says what it said

module _ (j : ℕ) (rows : List SenderRow) (i : ℕ) (w : SenderRow) (there : i < length rows) where
  rows_set : (j' : ℕ) → has j' i ≡ true → ((k : ℕ) → (k ≡ i → ⊥) → has j' k ≡ has j k) → rows_of j' (set rows i w) ≡ put (rows_of j rows) (suc i) (row_in w)
  unfolding rows_of
  rows_set j' in_it others =
      fun_ext λ s. put_ind (λ z. rows_of j' (set rows i w) s ≡ z) (rows_of j rows) (suc i) (row_in w) s
      (λ e. rw e (rows_in j' (set rows i w) i (omega (arith, length-set rows i w)) in_it ∙ ap row_in (get_or-set_same rows i w blank there))) (λ ne. other s ne)
    where
      other : (s : ℕ) → (s ≡ suc i → ⊥) → rows_of j' (set rows i w) s ≡ rows_of j rows s
      other zero ne = refl
      other (suc k) ne = let q : k ≡ i → ⊥ = omega arith in rw (length-set rows i w, others k q, get_or-set_other rows i k w blank q) refl

  -- it joins the set
  pub rows_joins : rows_of (bit_or j (2 ^ i)) (set rows i w) ≡ put (rows_of j rows) (suc i) (row_in w)
  rows_joins = rows_set (bit_or j (2 ^ i)) (joined_same j i) (joined_other j i)

  -- it is in the set
  pub rows_stays : has j i ≡ true → rows_of j (set rows i w) ≡ put (rows_of j rows) (suc i) (row_in w)
  rows_stays h = rows_set j h (λ k ne. refl)

-- ---- nobody

rows_nobody : (rows : List SenderRow) (s : ℕ) → rows_of 0 rows s ≡ unknown
unfolding rows_of
rows_nobody rows zero = refl
rows_nobody rows (suc i) = rows_out 0 rows i (has_none i)

pub rows_new : (rows : List SenderRow) → rows_of 0 rows ≡ λ s. unknown
rows_new rows = fun_ext λ s. rows_nobody rows s
