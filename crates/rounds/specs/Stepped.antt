-- What every step promises, whatever tables it is lent. This file is to be believed.
use Rattle.std.specs.Prelude.{ℕ}
use Rattle.published.specs.Rounds.{Step}
use Rattle.tables.specs.declared.Tables.{Tables}
use Rattle.tables.specs.Steps.{Acts, table_step}

-- the answer r and the tables after are those of the step a on the tables before, N benches
abbrev pub Stepped : ℕ → ℕ → Tables → Tables → Step → Type 0
Stepped N r before after a = Acts r after.benches after.logs (table_step N before.benches before.logs a)
