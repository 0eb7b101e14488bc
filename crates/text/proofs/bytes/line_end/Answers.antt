-- `line_end` meets its contract. By the place of byte 10, among the first bytes or behind them. Assumes nothing.
use Rattle.std.proofs.Common.{arith, ◌≡◌, ◌+◌, ℕ, take, sym, ap, ◌∙◌}
use Rattle.spelling.specs.Fields.{line_length}
use Rattle.text.proofs.Keys.{line_first, line_prefix, line_near, line_far}
use Rattle.text.proofs.bytes.line_end.Goals as goal

pub returns-in_default : goal.returns-in_default
returns-in_default c = rw (← c.rest-line.ensures) (ap (λ (n : ℕ). c.args.from + n) (c.ten_in.ensures.first ∙ sym (line_prefix c.rest-line.result.now)))

pub returns-then-place-lt-NEAR : goal.returns-then-place-lt-NEAR
returns-then-place-lt-NEAR c =
    let line = c.rest-line.result.now in
    let place : c.ten_in-place.result ≡ line_length (take 4 line) = c.ten_in-place.ensures.first ∙ sym (line_prefix c.in-Some.near.now) ∙ ap line_length c.in-Some.ensures.cases.0 in
    rw (← c.rest-line.ensures) (omega (arith, place, line_near 4 line (omega (arith, place, c.if-place-lt-NEAR.true))))

pub returns : goal.returns
returns c =
    let line = c.rest-line.result.now in
    let place : c.ten_in-place.result ≡ line_length (take 4 line) = c.ten_in-place.ensures.first ∙ sym (line_prefix c.in-Some.near.now) ∙ ap line_length c.in-Some.ensures.cases.0 in
    let found = line_first c.in-Some.far.now c.memchr.result c.memchr.ensures in
    rw (← c.rest-line.ensures) (omega (arith, c.unwrap_or.ensures, found, ap line_length c.in-Some.ensures.cases.1, line_far 4 line (omega (arith, place, c.if-place-lt-NEAR.false))))
