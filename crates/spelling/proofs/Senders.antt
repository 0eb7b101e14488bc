-- A step with a sender is a notice or an arrive. Assumes nothing.
use Prim.Native.Nat.{ℕ}
use mathlib.Core.List.{List, [], ◌∷◌}
use mathlib.Core.Path.{◌≡◌, refl}
use denote.Enum.Declared.{tag_of}
use types.Run.{OneOf, miss}
use Rattle.spelling.specs.declared.Verb.{Verb}
use Rattle.spelling.specs.declared.Verb.TheVariants as verb
use Rattle.spelling.specs.contracts.Verb.{the_type}
use Rattle.kinds.specs.declared.Step.TheVariants.{Arrive}
use Rattle.spelling.specs.Reading.{from_at, sender_at, rest_at}

pub not_notice : (text : List ℕ) (at : ℕ) (v : Verb) (b : ℕ) → OneOf (0 ∷ 1 ∷ 2 ∷ 3 ∷ 4 ∷ 5 ∷ []) (tag_of the_type v) → sender_at text at v b ≡ from_at Arrive text at b
unfolding sender_at
not_notice text at verb.Start b k = refl
not_notice text at verb.Abstain b k = refl
not_notice text at verb.Leave b k = refl
not_notice text at verb.Fail b k = refl
not_notice text at verb.Turn b k = refl
not_notice text at verb.Arrive b k = refl
not_notice text at verb.Notice b k = absurd (miss (0 ∷ 1 ∷ 2 ∷ 3 ∷ 4 ∷ 5 ∷ []) 6 tt k)

pub with_sender : (limit : ℕ) (text : List ℕ) (at : ℕ) (v : Verb) (b : ℕ) → OneOf (5 ∷ 6 ∷ []) (tag_of the_type v) → sender_at text at v b ≡ rest_at limit text at v b
unfolding sender_at rest_at
with_sender limit text at verb.Start b k = absurd (miss (5 ∷ 6 ∷ []) 0 tt k)
with_sender limit text at verb.Abstain b k = absurd (miss (5 ∷ 6 ∷ []) 1 tt k)
with_sender limit text at verb.Leave b k = absurd (miss (5 ∷ 6 ∷ []) 2 tt k)
with_sender limit text at verb.Fail b k = absurd (miss (5 ∷ 6 ∷ []) 3 tt k)
with_sender limit text at verb.Turn b k = absurd (miss (5 ∷ 6 ∷ []) 4 tt k)
with_sender limit text at verb.Arrive b k = refl
with_sender limit text at verb.Notice b k = refl
