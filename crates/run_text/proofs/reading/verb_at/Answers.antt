-- `verb_at` meets its contract. Key after key. Assumes nothing.
use mathlib.Core.Path.{refl}
use Rattle.spelling.specs.Reading.{verb_at, key_of}
use Rattle.run_text.proofs.reading.verb_at.Goals as goal

pub returns-in-Some : goal.returns-in-Some
unfolding verb_at key_of
returns-in-Some c = rw (← c.in-Some.ensures) refl

pub returns-in-Some-behind : goal.returns-in-Some-behind
unfolding verb_at key_of
returns-in-Some-behind c = rw (← c.in_default.ensures, ← c.in-Some-behind.ensures) refl

pub returns-in-Some-behind-2 : goal.returns-in-Some-behind-2
unfolding verb_at key_of
returns-in-Some-behind-2 c = rw (← c.in_default.ensures, ← c.in_default-behind.ensures, ← c.in-Some-behind-2.ensures) refl

pub returns-in-Some-behind-3 : goal.returns-in-Some-behind-3
unfolding verb_at key_of
returns-in-Some-behind-3 c = rw (← c.in_default.ensures, ← c.in_default-behind.ensures, ← c.in_default-behind-2.ensures, ← c.in-Some-behind-3.ensures) refl

pub returns-in-Some-behind-4 : goal.returns-in-Some-behind-4
unfolding verb_at key_of
returns-in-Some-behind-4 c = rw (← c.in_default.ensures, ← c.in_default-behind.ensures, ← c.in_default-behind-2.ensures, ← c.in_default-behind-3.ensures, ← c.in-Some-behind-4.ensures) refl

pub returns-in-Some-behind-5 : goal.returns-in-Some-behind-5
unfolding verb_at key_of
returns-in-Some-behind-5 c = rw (← c.in_default.ensures, ← c.in_default-behind.ensures, ← c.in_default-behind-2.ensures, ← c.in_default-behind-3.ensures, ← c.in_default-behind-4.ensures, ← c.in-Some-behind-5.ensures) refl

pub returns-in-Some-behind-6 : goal.returns-in-Some-behind-6
unfolding verb_at key_of
returns-in-Some-behind-6 c = rw (← c.in_default.ensures, ← c.in_default-behind.ensures, ← c.in_default-behind-2.ensures, ← c.in_default-behind-3.ensures, ← c.in_default-behind-4.ensures, ← c.in_default-behind-5.ensures, ← c.in-Some-behind-6.ensures) refl

pub returns : goal.returns
unfolding verb_at key_of
returns c = rw (← c.in_default.ensures, ← c.in_default-behind.ensures, ← c.in_default-behind-2.ensures, ← c.in_default-behind-3.ensures, ← c.in_default-behind-4.ensures, ← c.in_default-behind-5.ensures, ← c.in_default-behind-6.ensures) refl
