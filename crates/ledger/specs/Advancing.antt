-- What the step of a cursor returns: one slot further, with `left` sweeps held.
use Rattle.std.specs.Prelude.{ℕ, ◌+◌}
use Rattle.ledger.specs.declared.Cursor.{Cursor}

abbrev pub advanced_of : Cursor → ℕ → Cursor
advanced_of c left = record { next = record { 0 = c.next.0 + 1 }; held = left }
