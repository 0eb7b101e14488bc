-- What writing answers: how long a step is, where its line ends, and the three answers. Assumes nothing.
use Prim.Native.Nat.{ℕ, zero, suc, ◌+◌, ◌*◌, ◌/◌, ◌%◌, ◌≤◌}
use native.Mathlib.Omega.{arith}
use mathlib.Core.Bool.{Bool, true, false}
use mathlib.Core.List.{List, [], ◌∷◌, ◌++◌}
use mathlib.Core.Logic.{⊎_elim}
use mathlib.Core.Path.{◌≡◌, refl, sym, ap, ◌∙◌}
use lib.Dec.{leb}
use lib.ListN.{length, take, length-append}
use borrow.Author.Tests.{leb-true}
use Rattle.std.specs.Prelude.{Result, Ok, Err}
use Rattle.kinds.specs.declared.Refusal.{Refusal}
use Rattle.kinds.specs.declared.Refusal.TheVariants.{NotWritable, ShortRoom}
use Rattle.kinds.specs.declared.Step.{Step}
use Rattle.kinds.specs.declared.Step.TheVariants.{Start, Abstain, Leave, Fail, Turn, Arrive, Notice}
use Rattle.spelling.specs.Numbers.{ascii, digits}
use Rattle.spelling.specs.Spelling.{members, world_text, step_text, is_writable}
use Rattle.spelling.specs.Text.{line_text, write_line_of, room_after}
use Rattle.spelling.specs.Stored.{Stored, fits}
use Rattle.spelling.proofs.Decimals.{digits_length}
use Rattle.spelling.proofs.Members.{members_odd, members_even, members_nil}
use Rattle.spelling.proofs.WorldTrip.{parity}
use Rattle.spelling.proofs.Stores.{stored_length}
use Rattle.spelling.proofs.Puts.{front}
use Rattle.room.specs.declared.writer.Writer.{Writer}
use Rattle.room.specs.Writes.{Writes, Puts}
use Rattle.room.proofs.Writers.{writes_then, put_last}

-- ---- how long a step is

members_length : (k b q : ℕ) (sep : List ℕ) → length sep ≤ 1 → length (members k b q sep) ≤ k * 11
members_length zero b q sep h = rw (members_nil b q sep) (omega arith)
members_length (suc k) b q sep h =
    ⊎_elim (λ (o : q % 2 ≡ 1).
    let M = members k (b + 1) (q / 2) (44 ∷ []) in
    rw (members_odd k b q sep o) (omega (arith, length-append sep (digits b ++ M), length-append (digits b) M, digits_length b, members_length k (b + 1) (q / 2) (44 ∷ []) (omega arith))))
    (λ (z : q % 2 ≡ 0). rw (members_even k b q sep z) (omega (arith, members_length k (b + 1) (q / 2) sep h)))
    (parity q)

world_length : (w : ℕ) → length (world_text w) ≤ 352
unfolding world_text
world_length w = members_length 32 1 w [] (omega arith)

pub step_length : (s : Step) → length (step_text s) ≤ 403
unfolding step_text
step_length (Start b v w) =
    let W = ascii " world=" ++ world_text w in
    omega (arith, length-append (digits b.0) (ascii " value=" ++ (digits v.0 ++ W)), length-append (digits v.0) W, digits_length b.0, digits_length v.0, world_length w)
step_length (Abstain b) = omega (arith, digits_length b.0)
step_length (Leave b) = omega (arith, digits_length b.0)
step_length (Fail b) = omega (arith, digits_length b.0)
step_length (Turn b) = omega (arith, digits_length b.0)
step_length (Arrive b f) = omega (arith, length-append (digits b.0) (ascii " from=" ++ digits f.0), digits_length b.0, digits_length f.0)
step_length (Notice b f) = omega (arith, length-append (digits b.0) (ascii " from=" ++ digits f.0), digits_length b.0, digits_length f.0)

pub line_length_lem : (s : Step) → length (line_text s) ≡ length (step_text s) + 1
unfolding line_text
line_length_lem s = length-append (step_text s) (10 ∷ [])

-- ---- the line as it is made, beside the room

module _ (s : Step) {first step line : Writer} (zero_is : first.at ≡ 0) (long : 404 ≤ length first.room.now) where
  module _ (p : Writes first (step_text s) step) (q : Puts step (10 ∷ []) line) where
    made : Stored first.room.now 0 (line_text s) line.at line.room.now
    unfolding line_text
    made = rw zero_is at (writes_then p (put_last (10 ∷ []) q (omega (arith, p.stored.place, stored_length p.stored, step_length s)))).stored

    pub line_long : line.at ≡ length (line_text s)
    line_long = omega (arith, made.place)

    pub line_is : take line.at line.room.now ≡ line_text s
    line_is = front (line_text s) (omega (arith, line_length_lem s, step_length s)) made

-- ---- the three answers

module _ (limit : ℕ) (s : Step) (room : List ℕ) (at : ℕ) where
  abbrev Answered : Result ℕ Refusal → List ℕ → Type 0
  Answered answer room' = (answer ≡ write_line_of limit s room at) × (room' ≡ room_after limit s room at)

  pub not_writable : is_writable limit s ≡ false → Answered (Err NotWritable) room
  unfolding write_line_of room_after
  not_writable w = (rw w refl, rw w refl)

  module _ (w : is_writable limit s ≡ true) {n : ℕ} (len : n ≡ length (line_text s)) {r : Bool} (has : r ≡ leb (at + n) (length room)) where
    fitting : fits room at (line_text s) ≡ r
    unfolding fits
    fitting = rw (← len) (sym has)

    pub no_room : r ≡ false → Answered (Err ShortRoom) room
    unfolding write_line_of room_after
    no_room q = let f : fits room at (line_text s) ≡ false = fitting ∙ q in (rw (w, f) refl, rw (w, f) refl)

    pub line_written : r ≡ true → {first out : Writer} {text after : List ℕ} → first.at ≡ at → first.room.now ≡ room → text ≡ line_text s
        → Puts first text out → after ≡ out.room.now → Answered (Ok n) after
    unfolding write_line_of room_after
    line_written q {first} {out} at_is held text_is p e =
        let f : fits room at (line_text s) ≡ true = fitting ∙ q in
        let h : at + length (line_text s) ≤ length room = rw (← len) (leb-true (at + n) (length room) (sym has ∙ q)) in
        let u : Writes first (line_text s) out = put_last (line_text s) (rw text_is at p) (omega (arith, ap length held)) in
        (rw (w, f) (ap Ok len), rw (w, f) (e ∙ (rw (held, at_is) at u.stored.held)))
