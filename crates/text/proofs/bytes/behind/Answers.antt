-- `behind` meets its contract. By whether the text's bytes there are the key's. Assumes nothing.
use native.Mathlib.Omega.{arith}
use mathlib.Core.Path.{refl, ◌∙◌}
use lib.ListN.{length-drop}
use Rattle.text.proofs.Keys.{short_key, here_is, this_key, other_key}
use Rattle.text.proofs.bytes.behind.Goals as goal

pub returns-in_err-end : goal.returns-in_err-end
returns-in_err-end c =
    c.from_residual.ensures ∙ short_key _ _ _ refl (omega (arith, c.in_err-end.ensures, length-drop c.args.at c.args.text.now))

pub returns-then-same : goal.returns-then-same
returns-then-same c =
    let end = c.in_ok-end.ensures in
    this_key _ _ _ refl (here_is _ _ _ refl (λ b. b.now) c.get.result end.1 c.unwrap_or-here.ensures refl c.get.ensures.lookup.0) end.1 c.if-same.ensures

pub returns-else-same : goal.returns-else-same
returns-else-same c =
    let end = c.in_ok-end.ensures in
    other_key _ _ _ refl (here_is _ _ _ refl (λ b. b.now) c.get.result end.1 c.unwrap_or-here.ensures refl c.get.ensures.lookup.0) end.1 c.if-same.ensures
