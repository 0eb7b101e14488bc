-- The pass that takes sweeps out of the room: its invariant over the places passed, a turn of it, and what it leaves. Assumes nothing.
use mathlib.Core.Path.{◌≡◌, refl, ap, sym, ◌∙◌}
use Prim.Native.Nat.{ℕ, ◌+◌, ◌≤◌, ◌<◌}
use mathlib.Core.Bool.{Bool, true, false, not}
use mathlib.Core.List.{List, [], ◌∷◌, ◌++◌, map}
use native.Mathlib.Numerals.{add-one}
use native.Mathlib.Omega.{arith}
use lib.ListN.{length, take, drop, get_or, set, length-append, length-map, length-set, take-append-drop}
use lib.Seq.{take-suc, length-take-le}
use Rattle.book.specs.Book.{Sweep, only}
use Rattle.ledger.specs.Seen.{sweep_is, held_in}
use Rattle.ledger.specs.Promises.{laid}
use Rattle.ledger.specs.declared.Sweep as code
use Rattle.ledger.specs.Promises.{no_sweep}
use Rattle.ledger.specs.Sweeps.{TakesOut}
use Rattle.book.proofs.Only.{snoc_yes, snoc_no, only_map, only_rest}
use Rattle.ledger.proofs.Laid.{laid_more, laid_past, laid_front, laid_rest}

-- ---- the pass

-- those among the first i that stay
abbrev pub staying : (Sweep → Bool) → List code.Sweep → ℕ → List code.Sweep
staying p old i = only (λ w. not (p (sweep_is w))) (take i old)

-- of the first i those that stay are at the front, k of them
pub record Compacting (p : Sweep → Bool) (old : List code.Sweep) (i : ℕ) (room : List code.Sweep) (k : ℕ) : Type 0 where
  pub passed : i ≤ length old
  pub below : k ≤ i
  pub length_is : length room ≡ length old
  pub count_is : k ≡ length (staying p old i)
  pub room_is : room ≡ laid (staying p old i) old

-- before the first that goes nothing moves
pub compacting_none : (p : Sweep → Bool) (old : List code.Sweep) (i : ℕ) → i ≤ length old → only p (held_in i old) ≡ [] → Compacting p old i old i
unfolding laid held_in
compacting_none p old i h e =
    let none : only (λ w. p (sweep_is w)) (take i old) ≡ [] = map_none sweep_is (only (λ w. p (sweep_is w)) (take i old)) (sym (only_map sweep_is p (take i old)) ∙ e) in
    let m : staying p old i ≡ take i old = only_rest (λ w. p (sweep_is w)) (take i old) none in
    let n : length (take i old) ≡ i = length-take-le i old h in
    record { passed = h; below = omega arith; length_is = refl; count_is = sym (ap length m ∙ n); room_is = rw (m, n) (sym (take-append-drop i old)) }
  where
    map_none : {A B : Type 0} (f : A → B) (l : List A) → map f l ≡ [] → l ≡ []
    map_none f [] q = refl
    map_none f (x ∷ l) q = absurd (omega (arith, ap length q))

module _ (p : Sweep → Bool) (old : List code.Sweep) (i : ℕ) (room : List code.Sweep) (k : ℕ) (inv : Compacting p old i room k) where
  -- the one that is read has not been written yet
  same : get_or room i no_sweep ≡ get_or old i no_sweep
  same = ap (λ (l : List code.Sweep). get_or l i no_sweep) inv.room_is ∙ laid_past (staying p old i) old i no_sweep (omega arith)

  one_more : i < length old → take (i + 1) old ≡ take i old ++ get_or room i no_sweep ∷ []
  one_more h = rw (add-one, take-suc old i no_sweep, same)

  pub compacting_stays : i < length old → p (sweep_is (get_or room i no_sweep)) ≡ false → Compacting p old (i + 1) (set room k (get_or room i no_sweep)) (k + 1)
  compacting_stays h e =
      let t : not (p (sweep_is (get_or room i no_sweep))) ≡ true = rw e in
      let m : staying p old (i + 1) ≡ staying p old i ++ get_or room i no_sweep ∷ [] = ap (only (λ w. not (p (sweep_is w)))) (one_more h) ∙ snoc_yes (λ w. not (p (sweep_is w))) (take i old) (get_or room i no_sweep) t in
      record {
        passed = omega arith;
        below = omega arith;
        length_is = length-set room k (get_or room i no_sweep) ∙ inv.length_is;
        count_is = omega (arith, ap length m, length-append (staying p old i) (get_or room i no_sweep ∷ []));
        room_is =
            ap (λ (l : List code.Sweep). set l k (get_or room i no_sweep)) inv.room_is
            ∙ ap (λ (n : ℕ). set (laid (staying p old i) old) n (get_or room i no_sweep)) inv.count_is
            ∙ laid_more (staying p old i) old (get_or room i no_sweep) no_sweep (omega arith)
            ∙ ap (λ (l : List code.Sweep). laid l old) (sym m);
      }

  pub compacting_goes : i < length old → p (sweep_is (get_or room i no_sweep)) ≡ true → Compacting p old (i + 1) room k
  compacting_goes h e =
      let t : not (p (sweep_is (get_or room i no_sweep))) ≡ false = rw e in
      let m : staying p old (i + 1) ≡ staying p old i = ap (only (λ w. not (p (sweep_is w)))) (one_more h) ∙ snoc_no (λ w. not (p (sweep_is w))) (take i old) (get_or room i no_sweep) t in
      record {
        passed = omega arith;
        below = omega arith;
        length_is = inv.length_is;
        count_is = inv.count_is ∙ ap length (sym m);
        room_is = inv.room_is ∙ ap (λ (l : List code.Sweep). laid l old) (sym m);
      }

  pub compacting_out : TakesOut p i old k room
  unfolding held_in
  compacting_out =
      let m : only (λ w. not (p w)) (held_in i old) ≡ map sweep_is (staying p old i) = only_map sweep_is (λ w. not (p w)) (take i old) in
      record {
        count_is = inv.count_is ∙ sym (length-map (staying p old i) sweep_is) ∙ ap length (sym m);
        held_is = ap (λ (l : List code.Sweep). map sweep_is (take k l)) inv.room_is ∙ ap (map sweep_is) (laid_front (staying p old i) old k (sym inv.count_is)) ∙ sym m;
        past_is = ap (drop k) inv.room_is ∙ laid_rest (staying p old i) old k (sym inv.count_is);
      }
