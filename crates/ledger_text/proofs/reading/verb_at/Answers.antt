-- `verb_at` meets its contract. Key after key. Assumes nothing.
use mathlib.Core.Path.{refl}
use Rattle.spelling.specs.LedgerReading.{ledger_verb_at, ledger_key_of}
use Rattle.ledger_text.proofs.reading.verb_at.Goals as goal

pub returns-in-Some : goal.returns-in-Some
unfolding ledger_verb_at ledger_key_of
returns-in-Some c = rw (← c.in-Some.ensures) refl

pub returns-in-Some-behind : goal.returns-in-Some-behind
unfolding ledger_verb_at ledger_key_of
returns-in-Some-behind c = rw (← c.in_default.ensures, ← c.in-Some-behind.ensures) refl

pub returns-in-Some-behind-2 : goal.returns-in-Some-behind-2
unfolding ledger_verb_at ledger_key_of
returns-in-Some-behind-2 c = rw (← c.in_default.ensures, ← c.in_default-behind.ensures, ← c.in-Some-behind-2.ensures) refl

pub returns-in-Some-behind-3 : goal.returns-in-Some-behind-3
unfolding ledger_verb_at ledger_key_of
returns-in-Some-behind-3 c = rw (← c.in_default.ensures, ← c.in_default-behind.ensures, ← c.in_default-behind-2.ensures, ← c.in-Some-behind-3.ensures) refl

pub returns-in-Some-behind-4 : goal.returns-in-Some-behind-4
unfolding ledger_verb_at ledger_key_of
returns-in-Some-behind-4 c = rw (← c.in_default.ensures, ← c.in_default-behind.ensures, ← c.in_default-behind-2.ensures, ← c.in_default-behind-3.ensures, ← c.in-Some-behind-4.ensures) refl

pub returns : goal.returns
unfolding ledger_verb_at ledger_key_of
returns c = rw (← c.in_default.ensures, ← c.in_default-behind.ensures, ← c.in_default-behind-2.ensures, ← c.in_default-behind-3.ensures, ← c.in_default-behind-4.ensures) refl
