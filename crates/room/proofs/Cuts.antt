-- A store, from what stands before and behind its end, and from what stands before its place and from it on. Assumes nothing.
use Rattle.std.proofs.Common.{◌≡◌, ℕ, ◌+◌, ◌≤◌, List, ◌++◌, length, take, drop, refl, sym, ap, ◌∙◌, arith, append_assoc}
use Rattle.std.proofs.lemmas.List.{take-append-drop}
use Rattle.std.proofs.lemmas.List.Edits.{sets-eq}
use Rattle.std.proofs.lemmas.Slice.{take-put_mid, drop-put_mid}
use borrow.Rule.Slice.PartMut.{put_mid}
use Rattle.spelling.specs.Stored.{Stored}

module _ (l : List ℕ) (at : ℕ) (w : List ℕ) (inside : at + length w ≤ length l) where
  pub stored_cut : (l' : List ℕ) → l' ≡ (take at l ++ w) ++ drop (at + length w) l → Stored l at w (at + length w) l'
  stored_cut l' e = record { place = refl; held = e ∙ sym (sets-eq w l at inside) }

  -- a part of the room written whole
  pub stored_part : (k : ℕ) (v : List ℕ) → k ≡ length w → v ≡ w → Stored l at w (at + length w) (put_mid at k l v)
  stored_part k v n e =
      let m = put_mid at k l v in
      let front : take (at + length w) m ≡ take at l ++ w = rw (sym e) (take-put_mid at k l v (at + length v) refl (omega arith)) in
      let back : drop (at + length w) m ≡ drop (at + length w) l = drop-put_mid at k l v (at + length w) (omega arith) (omega arith) (ap length e ∙ sym n) in
      stored_cut m (sym (take-append-drop (at + length w) m) ∙ rw (front, back) refl)

  -- the same, from what stands from its place on
  pub stored_from : (l' : List ℕ) → take at l' ≡ take at l → drop at l' ≡ w ++ drop (at + length w) l → Stored l at w (at + length w) l'
  stored_from l' front back = stored_cut l' (sym (take-append-drop at l') ∙ rw (front, back) (sym (append_assoc (take at l) w _)))
