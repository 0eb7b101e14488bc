-- How many benches each size has, and what tables have room for. This file is to be believed.
use Rattle.std.specs.Prelude.{ℕ}
use Rattle.kinds.specs.declared.Size.{Size}
use Rattle.kinds.specs.declared.Size.TheVariants.{Sixteen}

unfoldable pub benches_of : Size → ℕ
benches_of Sixteen = 16

-- the places of a table, a bench or a sender at each, and the rounds of a log: `PLACES` and `DEPTH` in code
abbrev pub places : ℕ
places = 16

abbrev pub depth : ℕ
depth = 64
