-- A world written bench by bench. Assumes nothing.
use Prim.Native.Nat.{ℕ, suc, ◌+◌, ◌-◌, ◌/◌, ◌%◌, ◌≤◌, ◌<◌}
use native.Mathlib.Omega.{arith}
use mathlib.Core.List.{[], ◌∷◌, ◌++◌, append_assoc}
use mathlib.Core.Path.{◌≡◌}
use lib.ListN.{length-append}
use Rattle.spelling.specs.Numbers.{digits}
use Rattle.spelling.specs.Spelling.{members, world_text}
use Rattle.spelling.specs.Storing.{sep_at}
use Rattle.spelling.proofs.Decimals.{digits_length}
use Rattle.spelling.proofs.Members.{members_odd, members_even, members_nil, sep_comma, sep_none}
use Rattle.room.specs.declared.writer.Writer.{Writer}
use Rattle.room.specs.Writes.{Puts, Holds, Writes}
use Rattle.room.proofs.Writers.{Going, going_start, going_put, going_holds, going_end, put_last}

-- the benches from place k on are left to be written, of a world that begins at `from`
pub record WritingWorld (first : Writer) (from world : ℕ) (out : Writer) (rest k : ℕ) : Type 0 where
  pub from_on : from ≤ out.at
  pub going : Going first (world_text world) out (members (32 - k) (k + 1) rest (sep_at from out.at))

pub world_none : (first : Writer) (from world : ℕ) → from ≡ first.at → WritingWorld first from world first world 0
unfolding world_text
world_none first from world e =
    record { from_on = omega arith; going = rw (sep_none from first.at (omega arith)) (going_start first (members 32 1 world [])) }

module _ (first : Writer) (from world : ℕ) (out : Writer) (rest k : ℕ) (p : WritingWorld first from world out rest k) where
  module _ (h : k < 32) where
    one_more : 32 - k ≡ suc (32 - (k + 1))
    one_more = omega arith

    pub world_out : (rest % 2 ≡ 1 → ⊥) → WritingWorld first from world out (rest / 2) (k + 1)
    world_out e =
        record { from_on = p.from_on; going = rw (one_more, members_even (32 - (k + 1)) (k + 1) rest (sep_at from out.at) (omega arith)) at p.going }

    module _ (e : rest % 2 ≡ 1) where
      next : Going first (world_text world) out ((sep_at from out.at ++ digits (k + 1)) ++ members (32 - (k + 1)) (k + 1 + 1) (rest / 2) (44 ∷ []))
      next =
          rw (append_assoc (sep_at from out.at) (digits (k + 1)) (members (32 - (k + 1)) (k + 1 + 1) (rest / 2) (44 ∷ [])))
          (rw (one_more, members_odd (32 - (k + 1)) (k + 1) rest (sep_at from out.at) e) at p.going)

      pub world_in : Holds first (world_text world) → {after : Writer} → Puts out (sep_at from out.at ++ digits (k + 1)) after
          → WritingWorld first from world after (rest / 2) (k + 1)
      world_in r {after} q =
          let M = members (32 - (k + 1)) (k + 1 + 1) (rest / 2) (44 ∷ []) in
          let w = put_last (sep_at from out.at ++ digits (k + 1)) q (going_holds _ M next r) in
          let later : from < after.at = omega (arith, p.from_on, w.stored.place, length-append (sep_at from out.at) (digits (k + 1)), digits_length (k + 1)) in
          record { from_on = omega arith; going = rw (sep_comma from after.at later) (going_put _ M next r q) }

  pub world_all : 32 ≤ k → Writes first (world_text world) out
  world_all h = let z : 32 - k ≡ 0 = omega arith in going_end (rw (z, members_nil (k + 1) rest (sep_at from out.at)) at p.going)
