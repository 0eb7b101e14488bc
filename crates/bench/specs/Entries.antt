-- What benches said, by place or by round: the entry at each place of a list, and behind the last one of nothing but zeros.
-- This file is to be believed: which run two tables are is stated by it.
use Rattle.std.specs.Prelude.{ℕ, List, get_or}
use Rattle.bench.specs.declared.Entry.{Entry}

abbrev pub no_entry : Entry
no_entry = record { value = record { 0 = 0 }; world = 0 }

abbrev pub entry : List Entry → ℕ → Entry
entry l k = get_or l k no_entry
