-- `rules_check` meets its contract: the rules before the present one have passed.
use Rattle.std.proofs.Common.{◌≡◌, refl, sym, arith}
use Rattle.std.proofs.lemmas.Result.{err_from_is_err_and}
use Rattle.card.specs.Format.{rule_count}
use Rattle.card.specs.Verdict.{first_of, told}
use Rattle.card.proofs.CardChecked.{refused_at, passed_at}
use Rattle.roots.proofs.rules_check.Goals as goal

pub loop-i-init : goal.loop-i-init
unfolding first_of
loop-i-init c = refl

pub returns-in_err-rule_check : goal.returns-in_err-rule_check
returns-in_err-rule_check c =
    let p = err_from_is_err_and c.from_residual.result c.from_residual.ensures.1 in
    rw (p.1, p.2) (refused_at _ _ c.loop-i.invariant _ (omega (arith, c.byte-i-end.ensures.0)) refl c.in_err-rule_check.ensures)

pub loop-i-preserved : goal.loop-i-preserved
loop-i-preserved c = passed_at _ _ c.loop-i.invariant refl c.in_ok-rule_check.ensures

pub returns : goal.returns
unfolding told
returns c =
    let e : c.loop-i.i ≡ rule_count c.args.card.now = omega (arith, c.byte-i-end.ensures.0) in
    sym (rw e at c.loop-i.invariant)
