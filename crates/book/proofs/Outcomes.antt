-- One induction rule for each step: it is refused and the book stays, or it is done, and is exactly this change under these facts.
-- Assumes nothing.
use mathlib.Core.Path.{◌≡◌, refl}
use Prim.Native.Nat.{ℕ, suc, ◌≤◌, ◌<◌}
use mathlib.Core.Bool.{Bool, true, false, not, ◌&&◌}
use mathlib.Core.List.{List, [], ◌∷◌}
use lib.ListN.{length}
use lib.Dec.{eqb}
use borrow.Author.Tests.{leb-true, ltb-true, not-true}
use Rattle.common.specs.Checks.{Check, needs, Holds, Fails, here, later}
use Rattle.common.proofs.Tests.{both}
use Rattle.common.proofs.Checks.{first_check, other_checks, judge_ind, judge_fails, judge_holds}
use Rattle.common.specs.Benches.{In}
use Rattle.common.proofs.Benches.{bench_in}
use Rattle.book.proofs.Answers.{unknown_is, open_is}
use Rattle.book.specs.Book.{last_slot, last_out, most_held, unknown, joined, ended, first_slot, open_slot, may_go, tags_of, Book, with_row, swept, cut, advanced, Step, join, sweep, close, end, hand_out, Answer, answer, checks, after, step}

-- ---- no refusal has the number 0, and whatever is done has it

all_positive : List Check → Bool
all_positive [] = true
all_positive (needs k c ∷ l) = not (eqb k 0) && all_positive l

fails_positive : (l : List Check) (k : ℕ) → all_positive l ≡ true → Fails l k → eqb k 0 ≡ false
unfolding all_positive
fails_positive l k e (here j c m f) = not-true (eqb k 0) (both (not (eqb k 0)) (all_positive m) e).0
fails_positive l k e (later j c m i f g) = fails_positive m k (both (not (eqb j 0)) (all_positive m) e).1 g

checks_positive : (n : ℕ) (b : Book) (s : Step) → all_positive (checks n b s) ≡ true
unfolding all_positive checks
checks_positive n b (join s f) = refl
checks_positive n b (sweep s t) = refl
checks_positive n b (close s) = refl
checks_positive n b (end s e) = refl
checks_positive n b (hand_out room) = refl

pub positive : (n : ℕ) (b : Book) (s : Step) (k : ℕ) → Fails (checks n b s) k → eqb k 0 ≡ false
positive n b s k f = fails_positive (checks n b s) k (checks_positive n b s) f

pub after_done : (n : ℕ) (b : Book) (s : Step) → (after n b s).number ≡ 0
unfolding after answer
after_done n b (join s f) = refl
after_done n b (sweep s t) = refl
after_done n b (close s) = refl
after_done n b (end s e) = refl
after_done n b (hand_out room) = refl

-- ---- the rules

-- any step: refused, and the book stays; or every check holds, and it is `after`
pub step_ind : (n : ℕ) (b : Book) (s : Step) (P : Answer → Type 0) → ((k : ℕ) → Fails (checks n b s) k → P (answer k [] b)) → (Holds (checks n b s) → P (after n b s)) → P (step n b s)
unfolding step
step_ind n b s P r d = judge_ind P (λ k. answer k [] b) (checks n b s) (after n b s) r d

-- a refused step leaves the book itself, and no tags
pub refused_same : (n : ℕ) (b : Book) (s : Step) → ((step n b s).number ≡ 0 → ⊥) → ((step n b s).book ≡ b) × ((step n b s).tags ≡ [])
unfolding answer
refused_same n b s = step_ind n b s (λ a. (a.number ≡ 0 → ⊥) → (a.book ≡ b) × (a.tags ≡ [])) (λ k f e. (refl, refl)) (λ h e. absurd (e (after_done n b s)))

-- exactly when
pub step_fails : (n : ℕ) (b : Book) (s : Step) (k : ℕ) → Fails (checks n b s) k → step n b s ≡ answer k [] b
unfolding step
step_fails n b s k f = judge_fails (λ k. answer k [] b) (checks n b s) (after n b s) k f

pub step_holds : (n : ℕ) (b : Book) (s : Step) → Holds (checks n b s) → step n b s ≡ after n b s
unfolding step
step_holds n b s h = judge_holds (λ k. answer k [] b) (checks n b s) (after n b s) h

module _ (n : ℕ) (b : Book) (P : Answer → Type 0) where
  pub join_ind : (s f : ℕ) → ((k : ℕ) → Fails (checks n b (join s f)) k → P (answer k [] b))
      → (In n s → b.rows s ≡ unknown → b.next ≤ f → f ≤ last_slot → P (answer 0 [] (with_row s (joined f f) b))) → P (step n b (join s f))
  unfolding checks after
  join_ind s f r d = step_ind n b (join s f) P r λ h.
      let h₂ = other_checks 1 _ _ h in
      let h₃ = both _ _ (first_check 14 _ _ (other_checks 13 _ _ h₂)) in
      d (bench_in n s (first_check 1 _ _ h)) (unknown_is (b.rows s) (first_check 13 _ _ h₂)) (leb-true b.next f h₃.0) (leb-true f last_slot h₃.1)

  pub sweep_ind : (s t : ℕ) → ((k : ℕ) → Fails (checks n b (sweep s t)) k → P (answer k [] b))
      → ((f o : ℕ) → In n s → b.rows s ≡ joined f o → o ≤ last_slot → length b.held < most_held → P (answer 0 [] (swept (record { sender = s; slot = o; tag = t }) b))) → P (step n b (sweep s t))
  unfolding checks after open_slot
  sweep_ind s t r d = step_ind n b (sweep s t) P r λ h.
      let h₂ = other_checks 1 _ _ h in
      let h₃ = other_checks 15 _ _ h₂ in
      let o = open_is (b.rows s) (first_check 15 _ _ h₂) in
      let h₁₇ = leb-true (open_slot (b.rows s)) last_slot (first_check 17 _ _ h₃) in
      rw o.2 (d o.0 o.1 (bench_in n s (first_check 1 _ _ h)) o.2 (rw o.2 at h₁₇) (ltb-true (length b.held) most_held (first_check 25 _ _ (other_checks 17 _ _ h₃))))

  pub close_ind : (s : ℕ) → ((k : ℕ) → Fails (checks n b (close s)) k → P (answer k [] b))
      → ((f o : ℕ) → In n s → b.rows s ≡ joined f o → o ≤ last_slot → P (answer 0 [] (with_row s (joined f (suc o)) b))) → P (step n b (close s))
  unfolding checks after open_slot first_slot
  close_ind s r d = step_ind n b (close s) P r λ h.
      let h₂ = other_checks 1 _ _ h in
      let o = open_is (b.rows s) (first_check 15 _ _ h₂) in
      let h₁₇ = leb-true (open_slot (b.rows s)) last_slot (first_check 17 _ _ (other_checks 15 _ _ h₂)) in
      rw o.2 (d o.0 o.1 (bench_in n s (first_check 1 _ _ h)) o.2 (rw o.2 at h₁₇))

  pub end_ind : (s e : ℕ) → ((k : ℕ) → Fails (checks n b (end s e)) k → P (answer k [] b))
      → ((f o : ℕ) → In n s → b.rows s ≡ joined f o → e ≤ o → b.next ≤ e → P (answer 0 [] (cut s e (with_row s (ended f o e) b)))) → P (step n b (end s e))
  unfolding checks after open_slot first_slot
  end_ind s e r d = step_ind n b (end s e) P r λ h.
      let h₂ = other_checks 15 _ _ (other_checks 1 _ _ h) in
      let h₃ = other_checks 16 _ _ h₂ in
      let o = open_is (b.rows s) (first_check 16 _ _ h₂) in
      let h₁₈ = leb-true e (open_slot (b.rows s)) (first_check 18 _ _ h₃) in
      rw o.2 (d o.0 o.1 (bench_in n s (first_check 1 _ _ h)) o.2 (rw o.2 at h₁₈) (leb-true b.next e (first_check 19 _ _ (other_checks 18 _ _ h₃))))

  pub hand_out_ind : (room : ℕ) → ((k : ℕ) → Fails (checks n b (hand_out room)) k → P (answer k [] b))
      → (b.next ≤ last_out → may_go n b.next b.rows ≡ true → length (tags_of n b.next b.held) ≤ room → P (answer 0 (tags_of n b.next b.held) (advanced b))) → P (step n b (hand_out room))
  unfolding checks after
  hand_out_ind room r d = step_ind n b (hand_out room) P r λ h.
      let h₂ = other_checks 17 _ _ h in
      d (leb-true b.next last_out (first_check 17 _ _ h)) (first_check 24 _ _ h₂) (leb-true (length (tags_of n b.next b.held)) room (first_check 22 _ _ (other_checks 24 _ _ h₂)))
