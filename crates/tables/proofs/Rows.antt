-- The two tables as functions of the place: a bench or a log that is stored changes that place alone. Assumes nothing.
use mathlib.Core.Path.{◌≡◌, refl, fun_ext}
use mathlib.Core.List.{List, []}
use Prim.Native.Nat.{ℕ, zero, suc, ◌<◌}
use lib.ListN.{length, get_or, set, replicate}
use lib.Seq.{get_or-set_same, get_or-set_other}
use Rattle.common.specs.Updates.{put}
use Rattle.common.proofs.Updates.{put_ind}
use Rattle.bench.specs.declared.Bench.{Bench}
use Rattle.bench.specs.declared.Entry.{Entry}
use Rattle.tables.specs.Rows.{blank, rows, logs}

-- words that are all 0
pub zeros : (n k : ℕ) → get_or {A = ℕ} (replicate {A = ℕ} n 0) k 0 ≡ 0
zeros zero k = refl
zeros (suc n) zero = refl
zeros (suc n) (suc k) = zeros n k

module _ {A : Type 0} (none : A) where
  stored_at : (t : List A) (k : ℕ) (x : A) → k < length t → (λ (i : ℕ). get_or (set t k x) i none) ≡ put (λ (i : ℕ). get_or t i none) k x
  stored_at t k x h = fun_ext λ i. put_ind (λ y. get_or (set t k x) i none ≡ y) (λ (i : ℕ). get_or t i none) k x i
      (λ p. rw p (get_or-set_same t k x none h)) (λ p. get_or-set_other t k i x none p)

pub rows_set : (t : List Bench) (k : ℕ) (b : Bench) → k < length t → rows (set t k b) ≡ put (rows t) k b
rows_set = stored_at blank

pub logs_set : (l : List (List Entry)) (k : ℕ) (r : List Entry) → k < length l → logs (set l k r) ≡ put (logs l) k r
logs_set = stored_at []
