-- How keys, numbers, steps and lines are read, place by place, in the way of the code. This file need not be believed: see Reading and LedgerReading.
use Rattle.std.specs.Prelude.{ℕ, zero, suc, ◌+◌, ◌-◌, ◌*◌, ◌^◌, Bool, true, false, cond, List, [], ◌∷◌, leb, ltb, eqb, length, get_or, take, drop, Option, Some, None, option_and_then}
use Rattle.std.specs.Option.{option_or}

-- ---- what is found

-- what stands at a place, and the place behind it; None where it does not stand there
abbrev pub Found : Type 0 → Type 0
Found A = Option (A × ℕ)

infixl 10 ◌>>=◌
abbrev pub ◌>>=◌ : {A B : Type 0} → Option A → (A → Option B) → Option B
found >>= f = option_and_then f found

-- ---- keys

unfoldable pub is_prefix : List ℕ → List ℕ → Bool
is_prefix [] l = true
is_prefix (k ∷ ks) [] = false
is_prefix (k ∷ ks) (c ∷ l) = cond (eqb c k) (is_prefix ks l) false

-- the place behind a key that stands at a place
unfoldable pub behind : List ℕ → List ℕ → ℕ → Option ℕ
behind key text at = cond (is_prefix key (drop at text)) (Some (at + length key)) None

-- ---- numbers

-- the value of a digit's byte, and 10 of any other
abbrev pub digit_of : ℕ → ℕ
digit_of c = cond (leb 48 c) (cond (leb c 57) (c - 48) 10) 10

-- past the end of the text stands byte 0, which is no digit
unfoldable pub digit_at : List ℕ → ℕ → ℕ
digit_at text at = digit_of (get_or text at 0)

-- up to `room` further digits of a number whose digits so far make v
unfoldable pub more_digits : ℕ → List ℕ → ℕ → ℕ → Found ℕ
more_digits zero text at v = cond (ltb (digit_at text at) 10) None (Some (v, at))
more_digits (suc room) text at v = cond (ltb (digit_at text at) 10) (more_digits room text (at + 1) (v * 10 + digit_at text at)) (Some (v, at))

-- the number at a place: after a first 0 no digit may follow, after another at most `more`
abbrev pub number_upto : ℕ → List ℕ → ℕ → Found ℕ
number_upto more text at = cond (ltb (digit_at text at) 10) (more_digits (cond (eqb (digit_at text at) 0) 0 more) text (at + 1) (digit_at text at)) None

-- one of up to 5 digits
unfoldable pub number_at : List ℕ → ℕ → Found ℕ
number_at text at = number_upto 4 text at

-- what a number of up to `width` digits is below when `room` more may follow; more than the width has cannot
unfoldable pub below : ℕ → ℕ → ℕ
below width room = cond (leb room width) (10 ^ (width - room)) 0

-- a key and a number behind it
unfoldable pub field_at : List ℕ → List ℕ → ℕ → Found ℕ
field_at key text at = do
  next ← behind key text at
  number_at text next

-- ---- names

-- a name of which the key stands at a place
abbrev pub named : {V : Type 0} → (V → List ℕ) → List ℕ → ℕ → V → Found V
named key_of text at v = do
  next ← behind (key_of v) text at
  Some (v, next)

-- the first of many
abbrev pub first_named : {V : Type 0} → (V → List ℕ) → List ℕ → ℕ → List V → Found V
first_named key_of text at [] = None
first_named key_of text at (v ∷ vs) = option_or (named key_of text at v) (first_named key_of text at vs)

-- ---- lines

-- the length of the line at the front
unfoldable pub line_length : List ℕ → ℕ
line_length [] = 0
line_length (c ∷ l) = cond (eqb c 10) 0 (suc (line_length l))

unfoldable pub line_at : List ℕ → ℕ → List ℕ
line_at text at = take (line_length (drop at text)) (drop at text)

-- where a line ends, the next begins: behind byte 10, if that stands there
unfoldable pub next_from : List ℕ → ℕ → ℕ
next_from text end = cond (ltb end (length text)) (end + 1) end

unfoldable pub next_at : List ℕ → ℕ → ℕ
next_at text at = next_from text (at + line_length (drop at text))

-- what is spelled up to the end of the line
abbrev pub whole : {S : Type 0} → List ℕ → Found S → Option S
whole line None = None
whole line (Some (s, end)) = cond (leb (length line) end) (Some s) None

-- ---- lines of a text

-- what the line says that begins at a place, with the place of the next line, or None at the end of the text
unfoldable pub line_from : {S : Type 0} → (List ℕ → Option S) → List ℕ → ℕ → Found (Option S)
line_from said text at = cond (ltb at (length text)) (Some (said (line_at text at), next_at text at)) None

-- the same in one go, from what is spelled where the line stands: a step, if the line ends behind it
abbrev pub ends_at : List ℕ → ℕ → Bool
ends_at text end = cond (ltb end (length text)) (eqb (get_or text end 0) 10) true

abbrev pub ended : {S : Type 0} → List ℕ → ℕ → Found S → Option S × ℕ
ended text at None = (None, next_at text at)
ended text at (Some (s, end)) = cond (ends_at text end) (Some s, next_from text end) (None, next_at text at)

unfoldable pub read_from : {S : Type 0} → (List ℕ → ℕ → Found S) → List ℕ → ℕ → Found (Option S)
read_from step_at text at = cond (ltb at (length text)) (Some (ended text at (step_at text at))) None
