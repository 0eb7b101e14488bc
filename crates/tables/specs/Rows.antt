-- The bench at each place of the table of benches, and the log at each place of the table of logs. Behind the last place stand a bench that is
-- fresh and has done nothing, and an empty log.
use Rattle.std.specs.Prelude.{ℕ, List, [], get_or, replicate}
use Rattle.kinds.specs.Sizes.{places}
use Rattle.bench.specs.declared.Bench.{Bench}
use Rattle.bench.specs.declared.Entry.{Entry}

abbrev pub blank : Bench
blank = record { state = 0; round = record { 0 = 0 }; value = record { 0 = 0 }; world = 0; outs = 0; noticed = 0; sent = 0; silent = 0; chose = 0; taken = replicate places 0 }

abbrev pub rows : List Bench → ℕ → Bench
rows t k = get_or t k blank

abbrev pub logs : List (List Entry) → ℕ → List Entry
logs l k = get_or l k []
