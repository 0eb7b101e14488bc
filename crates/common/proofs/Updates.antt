-- Laws of `put`, a function changed at one place. `put_ind` is the rule, and the others are uses of it. Assumes nothing.
use mathlib.Core.Path.{◌≡◌, refl, fun_ext}
use Prim.Native.Nat.{ℕ}
use lib.Dec.{eqb}
use borrow.Author.Tests.{eqb-true, eqb-false}
use Rattle.common.specs.Updates.{put}
use Rattle.common.proofs.Tests.{cond_ind}

pub put_ind : {A : Type 0} (P : A → Type 0) (s : ℕ → A) (b : ℕ) (x : A) (i : ℕ) → (i ≡ b → P x) → ((i ≡ b → ⊥) → P (s i)) → P (put s b x i)
unfolding put
put_ind P s b x i f g = cond_ind P (eqb i b) x (s i) (λ e. f (eqb-true i b e)) (λ e. g (eqb-false i b e))

pub put_same : {A : Type 0} (s : ℕ → A) (b : ℕ) (x : A) → put s b x b ≡ x
put_same s b x = put_ind (λ y. y ≡ x) s b x b (λ e. refl) (λ e. absurd (e refl))

pub put_other : {A : Type 0} (s : ℕ → A) (b : ℕ) (x : A) (i : ℕ) → (i ≡ b → ⊥) → put s b x i ≡ s i
put_other s b x i h = put_ind (λ y. y ≡ s i) s b x i (λ e. absurd (h e)) (λ e. refl)

pub put_self : {A : Type 0} (s : ℕ → A) (b : ℕ) → put s b (s b) ≡ s
put_self s b = fun_ext λ i. put_ind (λ z. z ≡ s i) s b (s b) i (λ e. rw e refl) (λ e. refl)
