-- A line of run text as it is read where it stands, for each size. Assumes nothing.
use Prim.Native.Nat.{ℕ, ◌≤◌, ◌<◌}
use native.Mathlib.Omega.{arith}
use mathlib.Core.List.{List}
use mathlib.Core.Path.{◌≡◌, refl, ◌∙◌}
use lib.ListN.{length}
use borrow.Author.Tests.{lt-ltb, le-ltb}
use Rattle.std.specs.Prelude.{Option, Some, None}
use Rattle.kinds.specs.declared.Size.{Size}
use Rattle.kinds.specs.declared.Step.{Step}
use Rattle.kinds.specs.Sizes.{benches_of}
use Rattle.kinds.proofs.Sizes.{benches_fit, places_fit}
use Rattle.spelling.specs.Fields.{Found, line_from, ended, read_from}
use Rattle.spelling.specs.Reading.{step_at, said_of, read_line_of}
use Rattle.spelling.proofs.LineTrip.{line_read}
use Rattle.spelling.proofs.StepLines.{run_text}

pub benches_few : (size : Size) → benches_of size ≤ 32
benches_few size = omega (arith, benches_fit size, places_fit)

module _ (size : Size) (text : List ℕ) (at : ℕ) where
  line_is_read : read_from (step_at (benches_of size)) text at ≡ read_line_of (benches_of size) text at
  unfolding read_line_of said_of
  line_is_read = line_read (run_text (benches_of size) (benches_few size)) text at

  pub line_is : at < length text → {found : Found Step} → found ≡ step_at (benches_of size) text at → {said : Option Step × ℕ} → said ≡ ended text at found → Some said ≡ read_line_of (benches_of size) text at
  unfolding read_from
  line_is h e q = rw (q, e) (rw (lt-ltb at (length text) h) refl ∙ line_is_read)

  pub line_none : length text ≤ at → None ≡ read_line_of (benches_of size) text at
  unfolding read_line_of line_from
  line_none h = rw (le-ltb at (length text) h) refl
