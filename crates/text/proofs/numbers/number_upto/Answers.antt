-- `number_upto` meets its contract. The loop keeps `Upto`: the number at the place is the number read from here on. Assumes nothing.
use Rattle.std.proofs.Common.{arith}
use Rattle.spelling.proofs.Digits.{digit_within, upto_first, upto_first_zero, upto_fits, upto_small, upto_stop, upto_over, upto_next}
use Rattle.text.proofs.numbers.number_upto.Goals as goal
use Rattle.text.proofs.numbers.number_upto.Goals.{then-number-eq0, else-number-eq0}

pub overflow_add-end : goal.overflow_add-end
overflow_add-end c = let d = c.in_ok-number.ensures in omega (arith, digit_within c.args.text.now c.args.at d.0 d.1)

pub loop-digit-init : goal.loop-digit-init
loop-digit-init c =
    let d = c.in_ok-number.ensures in
    elim c.if-number-eq0.branch [
      | then-number-eq0 w ↦ rw w.room-is (upto_first_zero _ _ _ d.0 d.1 w.if-number-eq0.true)
      | else-number-eq0 w ↦ rw w.room-is (upto_first _ _ _ d.0 d.1 w.if-number-eq0.false)
    ]

pub returns-then-room-end-clause-value : goal.returns-then-room-end-clause-value
returns-then-room-end-clause-value c = upto_over _ _ _ _ _ _ c.loop-digit.invariant c.in-Some.ensures.0 c.in-Some.ensures.1 c.if-room-end.true

pub overflow_mul-number : goal.overflow_mul-number
overflow_mul-number c = omega (arith, upto_small _ _ _ _ _ _ c.loop-digit.invariant c.requires)

pub overflow_add-number : goal.overflow_add-number
overflow_add-number c = omega (arith, upto_small _ _ _ _ _ _ c.loop-digit.invariant c.requires)

pub loop-digit-smaller : goal.loop-digit-smaller
loop-digit-smaller c = omega (arith, digit_within c.args.text.now c.loop-digit.end c.in-Some.ensures.0 c.in-Some.ensures.1)

pub loop-digit-preserved : goal.loop-digit-preserved
loop-digit-preserved c = upto_next _ _ _ _ _ _ c.loop-digit.invariant c.in-Some.ensures.0 c.in-Some.ensures.1 c.if-room-end.false

pub returns-clause-value : goal.returns-clause-value
returns-clause-value c = upto_stop _ _ _ _ _ _ c.loop-digit.invariant c.in_default.ensures

pub returns-clause-short : goal.returns-clause-short
returns-clause-short c = search upto_fits
