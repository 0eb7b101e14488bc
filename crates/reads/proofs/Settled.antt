-- What `decision_of` promises settles its answer. That of the steps is settled by `steps_settle` of crate `rounds`. Assumes nothing.
use mathlib.Core.Path.{◌≡◌, refl, sym, ap, ◌∙◌}
use Rattle.std.specs.Prelude.{Option, Some, None}
use Rattle.published.specs.Rounds as published
use Rattle.kinds.specs.declared.SlotNo.{SlotNo}
use Rattle.reads.specs.Decisions.{decision_is}

-- the decision that one stands for
abbrev standing : published.Decision → Option SlotNo
standing published.none = None
standing (published.chosen v) = Some (record { 0 = v })

standing_is : (d : Option SlotNo) → standing (decision_is d) ≡ d
unfolding decision_is
standing_is None = refl
standing_is (Some v) = refl

pub decision_settled : (d d' : Option SlotNo) → decision_is d ≡ decision_is d' → d ≡ d'
decision_settled d d' e = sym (standing_is d) ∙ ap standing e ∙ standing_is d'
