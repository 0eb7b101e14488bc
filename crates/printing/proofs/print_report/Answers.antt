-- What is printed of what was read is what is to be printed of all that the reader had. The length of the input is its type's; it is stated by
-- the lemma, since the array would be computed.
use Rattle.std.proofs.Common.{◌≡◌, ℕ, ◌∙◌, length, arith, Result, Ok, Err, OnOk, is_ok}
use Rattle.std.specs.Result.{MatchResult}
use Rattle.std.proofs.lemmas.Result.{on_ok_weaker}
use lib.ListN.{length-replicate}
use Rattle.printing.proofs.Printed.{read_printed}
use Rattle.printing.proofs.print_report.Goals as goal

-- where the error alone is mapped, a value is what it was
value_kept : {T E D : Type 0} (r : Result T E) (r' : Result T D) (x : T) (Q : E → Type 0) → r' ≡ Ok x → is_ok r' ≡ is_ok r → MatchResult r (λ y. r' ≡ Ok y) Q → r ≡ Ok x
value_kept (Ok y) r' x Q e same p = cc
value_kept (Err d) r' x Q e same p = absurd (cc)

done_kept : {T E D : Type 0} (r : Result T E) (r' : Result T D) (P : Type 0) → is_ok r' ≡ is_ok r → OnOk r P → OnOk r' P
done_kept (Ok x) (Ok y) P e p = p
done_kept (Ok x) (Err y) P e p = tt
done_kept (Err x) (Ok y) P e p = absurd (cc)
done_kept (Err x) (Err y) P e p = tt

pub returns-clause-whole : goal.returns-clause-whole
returns-clause-whole g c =
    let got = value_kept c.read_full.result c.map_err.result c.in_ok-n.n _ c.in_ok-n.was c.map_err.ensures.variant c.map_err.ensures.cases in
    let long : length c.read_full.new.input ≡ 65537 = c.read_full.auto.input ∙ length-replicate {0} {A = ℕ} 65537 0 in
    done_kept c.print_text.result c.map_err-2.result _ c.map_err-2.ensures.variant
    (on_ok_weaker c.print_text.result
    (read_printed _ _ _ _ _ c.read_full.new.input c.in_ok-n.n (omega (arith, long)) (rw got at c.read_full.ensures.within) (rw got at c.read_full.ensures.bytes) (rw got at c.read_full.ensures.end))
    c.print_text.ensures)
