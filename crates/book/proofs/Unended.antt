-- The numbers that are left for a sender that has joined and not ended: which its sweep, its close and its end can be refused with, and which not while
-- it has a slot left to close. By going through the checks. Assumes nothing.
use mathlib.Core.Path.{◌≡◌, refl}
use Prim.Native.Nat.{ℕ, ◌≤◌}
use mathlib.Core.Bool.{true}
use mathlib.Core.List.{[], ◌∷◌}
use native.Mathlib.Omega.{arith}
use borrow.Author.Tests.{leb-false}
use Rattle.common.specs.Lists.{OneOf, first, further}
use Rattle.common.specs.Checks.{Fails, here, later}
use Rattle.common.proofs.Tests.{clash}
use Rattle.book.specs.Book.{last_slot, joined, has_joined, is_open, open_slot, Book, sweep, close, end, answer, checks, step}
use Rattle.book.proofs.Outcomes.{sweep_ind, close_ind, end_ind}

module _ (n : ℕ) (b : Book) (s f o : ℕ) (e : b.rows s ≡ joined f o) where
  is_open_lem : is_open (b.rows s) ≡ true
  unfolding is_open
  is_open_lem = rw e refl

  has_joined_lem : has_joined (b.rows s) ≡ true
  unfolding has_joined
  has_joined_lem = rw e refl

  open_slot_lem : open_slot (b.rows s) ≡ o
  unfolding open_slot
  open_slot_lem = rw e refl

  -- ---- sweep

  sweep_fails : (t k : ℕ) → Fails (checks n b (sweep s t)) k → OneOf k (0 ∷ 1 ∷ 17 ∷ 25 ∷ [])
  unfolding checks
  sweep_fails t k (here _ _ _ q) = further 0 _ (first _)
  sweep_fails t k (later _ _ _ _ q (here _ _ _ q₂)) = let z = is_open_lem in clash (cc)
  sweep_fails t k (later _ _ _ _ q (later _ _ _ _ q₂ (here _ _ _ q₃))) = further 0 _ (further 1 _ (first _))
  sweep_fails t k (later _ _ _ _ q (later _ _ _ _ q₂ (later _ _ _ _ q₃ (here _ _ _ q₄)))) = further 0 _ (further 1 _ (further 17 _ (first _)))
  sweep_fails t k (later _ _ _ _ q (later _ _ _ _ q₂ (later _ _ _ _ q₃ (later _ _ _ _ _ z)))) = elim z [ ]

  pub sweep_open : (t : ℕ) → OneOf (step n b (sweep s t)).number (0 ∷ 1 ∷ 17 ∷ 25 ∷ [])
  unfolding answer
  sweep_open t = sweep_ind n b (λ a. OneOf a.number (0 ∷ 1 ∷ 17 ∷ 25 ∷ [])) s t (sweep_fails t) (λ f o i q u z. first _)

  -- with a slot left to close
  sweep_low_fails : (t k : ℕ) → o ≤ last_slot → Fails (checks n b (sweep s t)) k → OneOf k (0 ∷ 1 ∷ 25 ∷ [])
  unfolding checks
  sweep_low_fails t k lo (here _ _ _ q) = further 0 _ (first _)
  sweep_low_fails t k lo (later _ _ _ _ q (here _ _ _ q₂)) = let z = is_open_lem in clash (cc)
  sweep_low_fails t k lo (later _ _ _ _ q (later _ _ _ _ q₂ (here _ _ _ q₃))) = absurd (omega (arith, open_slot_lem, leb-false (open_slot (b.rows s)) last_slot q₃))
  sweep_low_fails t k lo (later _ _ _ _ q (later _ _ _ _ q₂ (later _ _ _ _ q₃ (here _ _ _ q₄)))) = further 0 _ (further 1 _ (first _))
  sweep_low_fails t k lo (later _ _ _ _ q (later _ _ _ _ q₂ (later _ _ _ _ q₃ (later _ _ _ _ _ z)))) = elim z [ ]

  pub sweep_low : (t : ℕ) → o ≤ last_slot → OneOf (step n b (sweep s t)).number (0 ∷ 1 ∷ 25 ∷ [])
  unfolding answer
  sweep_low t lo = sweep_ind n b (λ a. OneOf a.number (0 ∷ 1 ∷ 25 ∷ [])) s t (λ k. sweep_low_fails t k lo) (λ f o i q u z. first _)

  -- ---- close

  close_fails : (k : ℕ) → Fails (checks n b (close s)) k → OneOf k (0 ∷ 1 ∷ 17 ∷ [])
  unfolding checks
  close_fails k (here _ _ _ q) = further 0 _ (first _)
  close_fails k (later _ _ _ _ q (here _ _ _ q₂)) = let z = is_open_lem in clash (cc)
  close_fails k (later _ _ _ _ q (later _ _ _ _ q₂ (here _ _ _ q₃))) = further 0 _ (further 1 _ (first _))
  close_fails k (later _ _ _ _ q (later _ _ _ _ q₂ (later _ _ _ _ _ z))) = elim z [ ]

  pub close_open : OneOf (step n b (close s)).number (0 ∷ 1 ∷ 17 ∷ [])
  unfolding answer
  close_open = close_ind n b (λ a. OneOf a.number (0 ∷ 1 ∷ 17 ∷ [])) s close_fails (λ f o i q u. first _)

  close_low_fails : (k : ℕ) → o ≤ last_slot → Fails (checks n b (close s)) k → OneOf k (0 ∷ 1 ∷ [])
  unfolding checks
  close_low_fails k lo (here _ _ _ q) = further 0 _ (first _)
  close_low_fails k lo (later _ _ _ _ q (here _ _ _ q₂)) = let z = is_open_lem in clash (cc)
  close_low_fails k lo (later _ _ _ _ q (later _ _ _ _ q₂ (here _ _ _ q₃))) = absurd (omega (arith, open_slot_lem, leb-false (open_slot (b.rows s)) last_slot q₃))
  close_low_fails k lo (later _ _ _ _ q (later _ _ _ _ q₂ (later _ _ _ _ _ z))) = elim z [ ]

  pub close_low : o ≤ last_slot → OneOf (step n b (close s)).number (0 ∷ 1 ∷ [])
  unfolding answer
  close_low lo = close_ind n b (λ a. OneOf a.number (0 ∷ 1 ∷ [])) s (λ k. close_low_fails k lo) (λ f o i q u. first _)

  -- ---- end, from the next slot to the open one

  end_fails : (x k : ℕ) → x ≤ o → b.next ≤ x → Fails (checks n b (end s x)) k → OneOf k (0 ∷ 1 ∷ [])
  unfolding checks
  end_fails x k le nx (here _ _ _ q) = further 0 _ (first _)
  end_fails x k le nx (later _ _ _ _ q (here _ _ _ q₂)) = let z = has_joined_lem in clash (cc)
  end_fails x k le nx (later _ _ _ _ q (later _ _ _ _ q₂ (here _ _ _ q₃))) = let z = is_open_lem in clash (cc)
  end_fails x k le nx (later _ _ _ _ q (later _ _ _ _ q₂ (later _ _ _ _ q₃ (here _ _ _ q₄)))) = absurd (omega (arith, open_slot_lem, leb-false x (open_slot (b.rows s)) q₄))
  end_fails x k le nx (later _ _ _ _ q (later _ _ _ _ q₂ (later _ _ _ _ q₃ (later _ _ _ _ q₄ (here _ _ _ q₅))))) = absurd (omega (arith, leb-false b.next x q₅))
  end_fails x k le nx (later _ _ _ _ q (later _ _ _ _ q₂ (later _ _ _ _ q₃ (later _ _ _ _ q₄ (later _ _ _ _ _ z))))) = elim z [ ]

  pub end_open : (x : ℕ) → x ≤ o → b.next ≤ x → OneOf (step n b (end s x)).number (0 ∷ 1 ∷ [])
  unfolding answer
  end_open x le nx = end_ind n b (λ a. OneOf a.number (0 ∷ 1 ∷ [])) s x (λ k. end_fails x k le nx) (λ f o i q u z. first _)
