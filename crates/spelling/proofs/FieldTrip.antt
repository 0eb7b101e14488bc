-- Fields there and back: a key and a number behind it. Assumes nothing.
use Prim.Native.Nat.{ℕ, ◌+◌, ◌≤◌, ◌<◌}
use mathlib.Core.Bool.{Bool, true, ◌&&◌}
use mathlib.Core.List.{List, ◌∷◌, ◌++◌}
use mathlib.Core.Path.{◌≡◌, refl}
use lib.Dec.{lit≤}
use lib.ListN.{length, drop}
use borrow.Author.Tests.{lt-ltb}
use Rattle.std.specs.Prelude.{Option, Some, None}
use Rattle.common.proofs.Tests.{clash}
use Rattle.spelling.specs.Numbers.{digits}
use Rattle.spelling.specs.Spelling.{is_small}
use Rattle.spelling.specs.Fields.{◌>>=◌, behind, digit_at, field_at}
use Rattle.spelling.proofs.Places.{here, past, Spans, spans_then}
use Rattle.spelling.proofs.Keys.{behind_own, behind_spans}
use Rattle.spelling.proofs.NumberTrip.{number_reads, number_sound}

pub both_true : {a b : Bool} → a ≡ true → b ≡ true → (a && b) ≡ true
both_true p q = cc

-- a space ends a number
pub space_stops : (text : List ℕ) (at : ℕ) {l : List ℕ} → drop at text ≡ 32 ∷ l → 10 ≤ digit_at text at
unfolding digit_at
space_stops text at e = rw (here text at e) (lit≤ tt)

-- a reader that found what it looked for went through each of its parts
pub found_first : {A B : Type 0} {y : B} (found : Option A) (f : A → Option B) → (found >>= f) ≡ Some y → (x : A) × (found ≡ Some x) × (f x ≡ Some y)
found_first None f e = clash (cc)
found_first (Some x) f e = (x, refl, e)

pub field_reads : (key text : List ℕ) (at n : ℕ) (rest : List ℕ) → n < 100000 → drop at text ≡ key ++ (digits n ++ rest) → 10 ≤ digit_at text (at + length key + length (digits n))
    → field_at key text at ≡ Some (n, at + length key + length (digits n))
unfolding field_at
field_reads key text at n rest h e stop =
    rw (behind_own key text at (digits n ++ rest) e) (number_reads n text (at + length key) rest h (past text at key e) stop)

pub field_sound : (key text : List ℕ) (at n next : ℕ) → field_at key text at ≡ Some (n, next) → Spans text at (key ++ digits n) next × (is_small n ≡ true)
unfolding field_at
field_sound key text at n next got =
    let p = found_first (behind key text at) _ got in
    let r = number_sound text p.0 n next p.2 in
    (spans_then (behind_spans key text at p.1) r.spans, lt-ltb n 100000 r.small)
