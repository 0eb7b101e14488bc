-- Keys: what a key that was found says. Assumes nothing.
use Prim.Native.Nat.{ℕ, suc, ◌+◌, ◌-◌, ◌≤◌, ◌<◌}
use native.Mathlib.Omega.{arith}
use mathlib.Core.Bool.{true, false≢true}
use mathlib.Core.List.{List, [], ◌∷◌, ◌++◌}
use mathlib.Core.Path.{◌≡◌, refl, sym, ap, ◌∙◌}
use lib.Dec.{eqb}
use lib.ListN.{length, drop, length-append, length-drop}
use lib.Seq.{drop-drop}
use borrow.Author.Tests.{eq-eqb, ne_eqb, eqb-true}
use Rattle.std.specs.Prelude.{Option, Some, None, option_and_then}
use Rattle.std.specs.Option.{option_or}
use Rattle.std.proofs.lemmas.Option.{some_pair_parts, none-some}
use Rattle.common.proofs.Tests.{split, clash}
use Rattle.spelling.proofs.Places.{Spans}
use Rattle.spelling.specs.Fields.{Found, is_prefix, behind, first_named}

-- a key that was found stands there, and a key that stands there is found
pub prefix_sound : (key l : List ℕ) → is_prefix key l ≡ true → l ≡ key ++ drop (length key) l
unfolding is_prefix
prefix_sound [] l h = refl
prefix_sound (k ∷ ks) [] h = absurd (false≢true h)
prefix_sound (k ∷ ks) (c ∷ l) h = split (eqb c k)
    (λ e. let a : c ≡ k = eqb-true c k e in let b : l ≡ ks ++ drop (length ks) l = prefix_sound ks l (rw e at h) in cc)
    (λ e. absurd (false≢true (rw e at h)))

pub prefix_own : (key l : List ℕ) → is_prefix key (key ++ l) ≡ true
unfolding is_prefix
prefix_own [] l = refl
prefix_own (k ∷ ks) l = simp (eq-eqb k k refl) (prefix_own ks l)

pub key_spans : (key text : List ℕ) (at : ℕ) → is_prefix key (drop at text) ≡ true → Spans text at key (at + length key)
key_spans key text at h =
    record { stands = prefix_sound key (drop at text) h ∙ ap (λ (z : List ℕ). key ++ z) (drop-drop (length key) at text); place = refl }

-- a key that was found fits, and so none is found where it does not fit
pub key_fits : (key text : List ℕ) (at : ℕ) → is_prefix key (drop at text) ≡ true → length key ≤ length text - at
key_fits key text at h =
    omega (arith, ap length (prefix_sound key (drop at text) h), length-append key (drop (length key) (drop at text)), length-drop at text)

pub key_short : (key text : List ℕ) (at : ℕ) → length text < at + length key → eqb (length key) 0 ≡ is_prefix key (drop at text)
unfolding is_prefix
key_short [] text at h = refl
key_short (k ∷ ks) text at h = split (is_prefix (k ∷ ks) (drop at text)) (λ e. absurd (omega (arith, key_fits (k ∷ ks) text at e)))
    (λ e. ne_eqb (suc (length ks)) 0 (λ z. omega arith) ∙ sym e)

-- ---- the place behind a key

pub behind_own : (key text : List ℕ) (at : ℕ) (rest : List ℕ) → drop at text ≡ key ++ rest → behind key text at ≡ Some (at + length key)
unfolding behind
behind_own key text at rest e = rw (e, prefix_own key rest) refl

pub behind_spans : (key text : List ℕ) (at : ℕ) {next : ℕ} → behind key text at ≡ Some next → Spans text at key next
unfolding behind
behind_spans key text at {next} got = split (is_prefix key (drop at text))
    (λ e. let g : Some (at + length key) ≡ Some next = rw e at got in let same : at + length key ≡ next = cc in rw (← same) (key_spans key text at e))
    (λ e. let g : None ≡ Some next = rw e at got in clash (cc))

-- ---- what was found

pub same_found : {A : Type 0} {a b : A} {i j : ℕ} → ◌≡◌ {A = Found A} (Some (a, i)) (Some (b, j)) → (a ≡ b) × (i ≡ j)
same_found {a = a} {b} {i} {j} e = some_pair_parts a b i j e

pub none_found : {A B : Type 0} {a : A} → ◌≡◌ {A = Option A} None (Some a) → B
none_found {a = a} e = absurd (none-some a e)

-- ---- names

-- the name that was found stands there
pub named_sound : {V : Type 0} (key_of : V → List ℕ) (text : List ℕ) (at : ℕ) (vs : List V) {v : V} {next : ℕ} → first_named key_of text at vs ≡ Some (v, next) → Spans text at (key_of v) next
named_sound key_of text at [] e = none_found e
named_sound key_of text at (u ∷ vs) {v} {next} e = go (behind (key_of u) text at) refl e (λ g. named_sound key_of text at vs g)
  where
    go : (b : Option ℕ) → behind (key_of u) text at ≡ b → option_or (option_and_then (λ (place : ℕ). Some (u, place)) b) (first_named key_of text at vs) ≡ Some (v, next)
        → (first_named key_of text at vs ≡ Some (v, next) → Spans text at (key_of v) next) → Spans text at (key_of v) next
    go None h g further = further g
    go (Some place) h g further = let same = same_found g in rw (← same.1, ← same.0) (behind_spans (key_of u) text at h)

-- as the code finds it, key after key
module _ {V : Type 0} (key_of : V → List ℕ) (text : List ℕ) (at : ℕ) (v : V) (vs : List V) where
  pub named_first : {next : ℕ} → Some next ≡ behind (key_of v) text at → Some (v, next) ≡ first_named key_of text at (v ∷ vs)
  named_first e = rw (← e) refl

  pub named_later : None ≡ behind (key_of v) text at → {found : Found V} → found ≡ first_named key_of text at vs → found ≡ first_named key_of text at (v ∷ vs)
  named_later e q = q ∙ rw (← e) refl
