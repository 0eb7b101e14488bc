-- Laws of `only`, what a test leaves of a list. Assumes nothing.
use mathlib.Core.Path.{◌≡◌, refl, ap, sym, ◌∙◌}
use Prim.Native.Nat.{◌≤◌}
use mathlib.Core.Bool.{Bool, true, false, not, false≢true}
use mathlib.Core.List.{List, [], ◌∷◌, ◌++◌, map, append-nil}
use native.Mathlib.Omega.{arith}
use lib.ListN.{length}
use Rattle.common.specs.Lists.{All, none, more}
use Rattle.common.proofs.Tests.{split}
use Rattle.book.specs.Book.{only}

-- a list, by its first element: with it, or without
pub only_yes : {A : Type 0} (p : A → Bool) (x : A) (l : List A) → p x ≡ true → only p (x ∷ l) ≡ x ∷ only p l
unfolding only
only_yes p x l e = rw e

pub only_no : {A : Type 0} (p : A → Bool) (x : A) (l : List A) → p x ≡ false → only p (x ∷ l) ≡ only p l
unfolding only
only_no p x l e = rw e

pub only_append : {A : Type 0} (p : A → Bool) (l m : List A) → only p (l ++ m) ≡ only p l ++ only p m
unfolding only
only_append p [] m = refl
only_append p (x ∷ l) m = split (p x) (λ e. rw e (ap (λ k. x ∷ k) (only_append p l m))) (λ e. rw e (only_append p l m))

-- one element more at the end: with it, or without
pub snoc_yes : {A : Type 0} (p : A → Bool) (l : List A) (x : A) → p x ≡ true → only p (l ++ x ∷ []) ≡ only p l ++ x ∷ []
unfolding only
snoc_yes p l x e = only_append p l (x ∷ []) ∙ rw e

pub snoc_no : {A : Type 0} (p : A → Bool) (l : List A) (x : A) → p x ≡ false → only p (l ++ x ∷ []) ≡ only p l
unfolding only
snoc_no p l x e = only_append p l (x ∷ []) ∙ rw (e, append-nil)

pub only_map : {A B : Type 0} (f : A → B) (p : B → Bool) (l : List A) → only p (map f l) ≡ map f (only (λ x. p (f x)) l)
unfolding only
only_map f p [] = refl
only_map f p (x ∷ l) = split (p (f x)) (λ e. rw e (ap (λ k. f x ∷ k) (only_map f p l))) (λ e. rw e (only_map f p l))

pub only_length : {A : Type 0} (p : A → Bool) (l : List A) → length (only p l) ≤ length l
unfolding only
only_length p [] = omega arith
only_length p (x ∷ l) = let ih = only_length p l in split (p x) (λ e. rw e (omega arith)) (λ e. rw e (omega arith))

-- where a test leaves nothing, a narrower one does not either
pub only_narrow : {A : Type 0} (p q : A → Bool) → ((x : A) → q x ≡ true → p x ≡ true) → (l : List A) → only p l ≡ [] → only q l ≡ []
unfolding only
only_narrow p q f [] e = refl
only_narrow p q f (x ∷ l) e = split (p x)
    (λ y. absurd (omega (arith, ap length (sym (only_yes p x l y) ∙ e))))
    (λ n. only_no q x l (split (q x) (λ t. absurd (false≢true (sym n ∙ f x t))) (λ t. t)) ∙ only_narrow p q f l (sym (only_no p x l n) ∙ e))

-- and its negation leaves all
pub only_rest : {A : Type 0} (p : A → Bool) (l : List A) → only p l ≡ [] → only (λ x. not (p x)) l ≡ l
unfolding only
only_rest p [] e = refl
only_rest p (x ∷ l) e = split (p x)
    (λ y. absurd (omega (arith, ap length (sym (only_yes p x l y) ∙ e))))
    (λ n. rw n (ap (λ k. x ∷ k) (only_rest p l (sym (only_no p x l n) ∙ e))))

-- ---- a fact of each element

pub all_append : {A : Type 0} (P : A → Type 0) (l m : List A) → All P l → All P m → All P (l ++ m)
all_append P l m none b = b
all_append P l m (more x k h a) b = more x (k ++ m) h (all_append P k m a b)

pub all_map : {A : Type 0} (P Q : A → Type 0) (l : List A) → ((x : A) → P x → Q x) → All P l → All Q l
all_map P Q l f none = none
all_map P Q l f (more x k h a) = more x k (f x h) (all_map P Q k f a)

-- what is left has the fact, and has passed the test
pub all_only : {A : Type 0} (P Q : A → Type 0) (p : A → Bool) (l : List A) → ((x : A) → P x → p x ≡ true → Q x) → All P l → All Q (only p l)
unfolding only
all_only P Q p l f none = none
all_only P Q p l f (more x k h a) = split (p x) (λ e. rw e (more x (only p k) (f x h e) (all_only P Q p k f a))) (λ e. rw e (all_only P Q p k f a))

-- tests that agree on every element leave the same
pub only_same : {A : Type 0} (P : A → Type 0) (p q : A → Bool) (l : List A) → ((x : A) → P x → p x ≡ q x) → All P l → only p l ≡ only q l
unfolding only
only_same P p q l f none = refl
only_same P p q l f (more x k h a) = rw (f x h, only_same P p q k f a)

pub only_none : {A : Type 0} (P : A → Type 0) (p : A → Bool) (l : List A) → ((x : A) → P x → p x ≡ false) → All P l → only p l ≡ []
unfolding only
only_none P p l f none = refl
only_none P p l f (more x k h a) = rw (f x h) (only_none P p k f a)

pub only_all : {A : Type 0} (P : A → Type 0) (p : A → Bool) (l : List A) → ((x : A) → P x → p x ≡ true) → All P l → only p l ≡ l
unfolding only
only_all P p l f none = refl
only_all P p l f (more x k h a) = rw (f x h) (ap (λ m. x ∷ m) (only_all P p k f a))

-- nothing is known
pub all_any : {A : Type 0} (l : List A) → All (λ x. x ≡ x) l
all_any [] = none
all_any (x ∷ l) = more x l refl (all_any l)
