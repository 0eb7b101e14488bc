-- Equal sweeps of the book are equal sweeps of the code, so the sweeps held and the places past them are the whole room. Assumes nothing.
use mathlib.Core.Path.{◌≡◌, refl, ap, sym, ◌∙◌}
use Prim.Native.Nat.{ℕ}
use mathlib.Core.List.{List, [], ◌∷◌, ◌++◌, map}
use lib.ListN.{take, drop, take-append-drop}
use Rattle.common.proofs.Tests.{clash}
use Rattle.book.specs.Book.{Sweep}
use Rattle.ledger.specs.declared.Sweep as code
use Rattle.ledger.specs.Seen.{sweep_is, held_in}

same_sweep : (a b : code.Sweep) → sweep_is a ≡ sweep_is b → a ≡ b
same_sweep a b e = ap (λ (w : Sweep). record { sender = w.sender; slot = w.slot; tag = w.tag }) e

same_list : (xs ys : List code.Sweep) → map sweep_is xs ≡ map sweep_is ys → xs ≡ ys
same_list [] [] e = refl
same_list [] (y ∷ ys) e = clash (cc)
same_list (x ∷ xs) [] e = clash (cc)
same_list (x ∷ xs) (y ∷ ys) e =
    let h : sweep_is x ≡ sweep_is y = cc in
    let t : map sweep_is xs ≡ map sweep_is ys = cc in
    λ i. same_sweep x y h i ∷ same_list xs ys t i

pub same_room : (n : ℕ) (xs ys : List code.Sweep) → held_in n xs ≡ held_in n ys → drop n xs ≡ drop n ys → xs ≡ ys
unfolding held_in
same_room n xs ys e d = sym (take-append-drop n xs) ∙ (λ i. same_list (take n xs) (take n ys) e i ++ d i) ∙ take-append-drop n ys
