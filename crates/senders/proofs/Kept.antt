-- What is kept of a row comes back. Assumes nothing.
use mathlib.Core.Path.{◌≡◌, refl}
use Prim.Native.Nat.{ℕ, suc, ◌≤◌}
use native.Mathlib.Omega.{arith}
use Rattle.std.specs.Prelude.{Option, Some, None}
use Rattle.kinds.specs.declared.SlotNo.{SlotNo}
use Rattle.book.specs.Book.{last_slot, joined, ended, open_slot}
use Rattle.senders.specs.declared.SenderRow.{SenderRow}
use Rattle.senders.specs.Slots.{slot_in}
use Rattle.senders.specs.Kept.{row_until, row_in, kept_of}

-- no slot is clipped that is at most the one behind the last
pub slot_in_lem : (k : ℕ) → k ≤ suc last_slot → slot_in k ≡ k
slot_in_lem k h = omega arith

pub kept_joined : (f o : ℕ) → o ≤ suc last_slot → row_in (kept_of (joined f o)) ≡ joined f o
unfolding row_in kept_of
kept_joined f o h = rw (slot_in_lem o h) refl

pub kept_ended : (f o e : ℕ) → o ≤ suc last_slot → e ≤ suc last_slot → row_in (kept_of (ended f o e)) ≡ ended f o e
unfolding row_in kept_of
kept_ended f o e h g = rw (slot_in_lem o h, slot_in_lem e g) refl

-- an open slot that is read is at most the one behind the last
open_until : (e : Option SlotNo) (f o : ℕ) → o ≤ suc last_slot → open_slot (row_until e f o) ≤ suc last_slot
unfolding open_slot
open_until None f o h = h
open_until (Some e) f o h = h

pub open_last : (w : SenderRow) → open_slot (row_in w) ≤ suc last_slot
unfolding row_in
open_last w = open_until w.end w.first.0 (slot_in w.«open».0) (omega arith)
