-- Keys and lines as the code compares and looks for them. Assumes nothing.
use Prim.Native.Nat.{ℕ, zero, suc, ◌+◌, ◌-◌, ◌≤◌, ◌<◌}
use mathlib.Core.Bool.{Bool, true, false, cond}
use mathlib.Core.List.{List, [], ◌∷◌}
use mathlib.Core.Logic.{◌⊎◌, ⊎_elim}
use mathlib.Core.Path.{◌≡◌, refl, sym, ap, ◌∙◌}
use native.Mathlib.Omega.{arith}
use Rattle.std.proofs.lemmas.List.Recursion.{is_position_or_len}
use Rattle.std.proofs.lemmas.List.Sums.{position_or_len_is}
use Rattle.memchr.specs.Find.{IsFirstByte, is_byte}
use lib.Dec.{eqb}
use lib.ListN.{length, take, drop, length-append, length-drop}
use Rattle.std.specs.Prelude.{Option, Some, None, unwrap_or, slice_range, MatchOption}
use Rattle.std.specs.List.{position_or_len}
use Rattle.spelling.proofs.Keys.{prefix_sound}
use lib.Pointwise.{pointwise}
use Rattle.common.proofs.Tests.{split}
use Rattle.spelling.specs.Fields.{is_prefix, behind, line_length}

-- ---- a key

prefix_front : (key l : List ℕ) → length key ≤ length l → is_prefix key l ≡ pointwise eqb (take (length key) l) key
unfolding is_prefix
prefix_front [] l h = refl
prefix_front (k ∷ ks) [] h = absurd (omega arith)
prefix_front (k ∷ ks) (c ∷ l) h = split (eqb c k) (λ e. rw (e, prefix_front ks l (omega arith)) refl) (λ e. rw e refl)

prefix_fits : (key l : List ℕ) → is_prefix key l ≡ true → length key ≤ length l
prefix_fits key l h = omega (arith, ap length (prefix_sound key l h), length-append key (drop (length key) l))

module _ (key text : List ℕ) (at : ℕ) {n : ℕ} (size : length key ≡ n) where
  pub short_key : length (drop at text) < n → None ≡ behind key text at
  unfolding behind
  short_key h = split (is_prefix key (drop at text)) (λ e. absurd (omega (arith, prefix_fits key (drop at text) e))) (λ e. rw e refl)

  -- what is compared with the key: the bytes that stand there, or none where the text has not as many
  pub record Here (here : List ℕ) : Type 0 where
    pub same : is_prefix key (drop at text) ≡ pointwise eqb here key

  all_here : {here : List ℕ} → here ≡ slice_range text at (at + n) → at + n ≤ length text → Here here
  all_here {here} e h =
      let m : at + n - at ≡ length key = omega arith in
      let f : here ≡ take (length key) (drop at text) = rw m at e in
      record { same = rw f (prefix_front key (drop at text) (omega (arith, length-drop at text))) }

  none_here : {here : List ℕ} → here ≡ [] → length text < at + n → Here here
  unfolding is_prefix
  none_here {here} e h = rw e (record { same = go key (λ k. omega (arith, prefix_fits key (drop at text) k, length-drop at text)) })
    where
      go : (k : List ℕ) → (is_prefix k (drop at text) ≡ true → length k ≤ 0) → is_prefix k (drop at text) ≡ pointwise eqb [] k
      go [] f = refl
      go (c ∷ k) f = split (is_prefix (c ∷ k) (drop at text)) (λ q. absurd (omega (arith, f q))) (λ q. q)

  pub here_is : {X : Type 0} (now : X → List ℕ) (found : Option X) {end : ℕ} {none here : X} → end ≡ at + n → here ≡ unwrap_or found none → now none ≡ []
      → MatchOption found ((end < at) ⊎ (length text < end)) (λ x. (at ≤ end) × (end ≤ length text) × (now x ≡ slice_range text at end) × (length (now x) + at ≡ end)) → Here (now here)
  here_is now None f e z m = rw (e, z) (none_here refl (⊎_elim (λ (out : _ < at). omega arith) (λ (out : length text < _). omega arith) m))
  here_is now (Some x) f e z m = rw e (all_here (rw f at m.2) (omega arith))

  module _ {here : List ℕ} (p : Here here) {end : ℕ} (f : end ≡ at + n) where
    pub this_key : true ≡ pointwise eqb here key → Some end ≡ behind key text at
    unfolding behind
    this_key h = rw (p.same ∙ sym h, size) (ap (λ (k : ℕ). Some k) f)

    pub other_key : false ≡ pointwise eqb here key → None ≡ behind key text at
    unfolding behind
    other_key h = rw (p.same ∙ sym h) refl

-- ---- a line

-- a line ends at the first byte 10
pub line_prefix : (l : List ℕ) → line_length l ≡ position_or_len (λ c. eqb c 10) l
unfolding line_length
line_prefix l = is_position_or_len line_length (λ c. eqb c 10) refl (λ c l. ap (cond (eqb c 10) 0) (omega arith)) l

failed : (c : Bool) → (c ≡ true → ⊥) → c ≡ false
failed true n = absurd (n refl)
failed false n = refl

pub line_first : (l : List ℕ) (found : Option ℕ) → IsFirstByte (is_byte 10) l found → line_length l ≡ unwrap_or found (length l)
line_first l None h = line_prefix l ∙ position_or_len_is _ l (length l) 0 (omega arith) (λ k b. failed _ (h k (omega arith) b)) (λ b. absurd (omega arith))
line_first l (Some at) h = line_prefix l ∙ position_or_len_is _ l at 0 (omega (arith, h.0.high)) (λ k b. failed _ (h.0.before k (omega arith) b)) (λ b. h.1)

-- ---- a line of which k bytes are looked at first

pub line_near : (k : ℕ) (l : List ℕ) → line_length (take k l) < k → line_length l ≡ line_length (take k l)
unfolding line_length
line_near zero l h = absurd (omega arith)
line_near (suc k) [] h = refl
line_near (suc k) (c ∷ l) h = split (eqb c 10) (λ e. rw e refl) (λ e. rw e (ap suc (line_near k l (let s : suc (line_length (take k l)) < suc k = rw e at h in omega arith))))

pub line_far : (k : ℕ) (l : List ℕ) → k ≤ line_length (take k l) → line_length l ≡ k + line_length (drop k l)
unfolding line_length
line_far zero l h = omega arith
line_far (suc k) [] h = absurd (omega arith)
line_far (suc k) (c ∷ l) h = split (eqb c 10)
    (λ e. absurd (let s : suc k ≤ 0 = rw e at h in omega arith))
    (λ e. rw e (let s : suc k ≤ suc (line_length (take k l)) = rw e at h in omega (arith, line_far k l (omega arith))))
