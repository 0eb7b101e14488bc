-- Writers: one after another, and what is written where the room holds it. Assumes nothing.
use Rattle.std.proofs.Common.{◌≡◌, ℕ, ◌+◌, Bool, true, false, leb, List, [], ◌++◌, length, refl, sym, ◌∙◌, arith}
use borrow.Author.Tests.{leb-true, leb-false}
use Rattle.spelling.proofs.Stores.{stored_then, fitting_stored, stored_fitting, not_fitting, room_front, room_after_lem, Left, left_start, left_step, left_room, left_end, stored_nil}
use Rattle.room.specs.declared.writer.Writer.{Writer}
use Rattle.room.specs.Writes.{Writes, Puts, Holds}

module _ {a b : Writer} {w : List ℕ} (p : Writes a w b) where
  pub writes_then : {c : Writer} {v : List ℕ} → Writes b v c → Writes a (w ++ v) c
  writes_then q = record { same_room = q.same_room ∙ p.same_room; stored = stored_then p.stored q.stored }

  pub holds_behind : (v : List ℕ) → Holds a (w ++ v) → Holds b v
  holds_behind v h = room_after_lem v p.stored h

pub holds_front : (a : Writer) (w v : List ℕ) → Holds a (w ++ v) → Holds a w
holds_front a w v h = room_front a.at w v h

-- ---- what is put where the room holds it: for a function that puts

-- n bytes are measured
module _ (a : Writer) (w : List ℕ) (n : ℕ) (r : Bool) (is_n : n ≡ length w) (is_r : r ≡ leb (a.at + n) (length a.room.now)) where
  pub put_none : r ≡ false → Puts a w a
  put_none h =
      let out = leb-false (a.at + n) (length a.room.now) (sym is_r ∙ h) in
      record { same_room = refl; stored = not_fitting a.room.now a.at w (omega arith) }

  module _ (h : r ≡ true) where
    pub put_held : Holds a w
    put_held = let within = leb-true (a.at + n) (length a.room.now) (sym is_r ∙ h) in omega arith

    pub put_all : {b : Writer} → (Holds a w → Writes a w b) → Puts a w b
    put_all f = let p = f put_held in record { same_room = p.same_room; stored = stored_fitting put_held p.stored }

-- ---- what is put, for a caller that knows that the room holds it

pub put_last : {a b : Writer} (w : List ℕ) → Puts a w b → Holds a w → Writes a w b
put_last {a} w p h = record { same_room = p.same_room; stored = fitting_stored a.room.now a.at w h p.stored }

pub put_behind : {a b : Writer} (w v : List ℕ) → Puts a w b → Holds a (w ++ v) → Holds b v
put_behind {a} w v p h = holds_behind (put_last w p (holds_front a w v h)) v h

pub put_then : {a b c : Writer} (w v : List ℕ) → Puts a w b → (Holds b v → Writes b v c) → Holds a (w ++ v) → Writes a (w ++ v) c
put_then {a} w v p f h = writes_then (put_last w p (holds_front a w v h)) (f (put_behind w v p h))

-- ---- a run that is written part by part: `total` from where `first` stood, of which `rest` is left to be written

pub record Going (first : Writer) (total : List ℕ) (out : Writer) (rest : List ℕ) : Type 0 where
  pub same_room : out.room.ghost_name ≡ first.room.ghost_name
  pub left : Left first.room.now first.at total out.room.now out.at rest

pub going_start : (out : Writer) (total : List ℕ) → Going out total out total
going_start out total = record { same_room = refl; left = left_start out.room.now out.at total }

module _ {first : Writer} {total : List ℕ} where
  pub going_step : {a b : Writer} {w : List ℕ} (rest : List ℕ) → Going first total a (w ++ rest) → Writes a w b → Going first total b rest
  going_step rest p q = record { same_room = q.same_room ∙ p.same_room; left = left_step rest p.left q.stored }

  pub going_holds : {a : Writer} (w rest : List ℕ) → Going first total a (w ++ rest) → Holds first total → Holds a w
  going_holds w rest p h = left_room w rest p.left h

  pub going_put : {a b : Writer} (w rest : List ℕ) → Going first total a (w ++ rest) → Holds first total → Puts a w b → Going first total b rest
  going_put w rest p h q = going_step rest p (put_last w q (going_holds w rest p h))

  pub going_end : {a : Writer} → Going first total a [] → Writes first total a
  going_end p = record { same_room = p.same_room; stored = left_end p.left }

pub writes_none : (out : Writer) → Writes out [] out
writes_none out = record { same_room = refl; stored = stored_nil out.room.now out.at }
