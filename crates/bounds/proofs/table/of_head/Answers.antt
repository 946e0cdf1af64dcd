use Rattle.std.proofs.Common.{sym, ap, ◌||◌, eqb, eq-eqb, ne_eqb, refl, arith}
use Rattle.bounds.specs.Inner.Table.{takes_in}
use Rattle.bounds.proofs.table.of_head.Goals as goal

pub returns-then-class-eq-ALL : goal.returns-then-class-eq-ALL
unfolding takes_in
returns-then-class-eq-ALL c = rw (eq-eqb c.args.class 1001 (omega arith)) refl

pub returns-else-class-eq-ALL : goal.returns-else-class-eq-ALL
unfolding takes_in
returns-else-class-eq-ALL c =
    let a = c.args in sym (ap (λ b. b || eqb a.head a.class) (ne_eqb a.class 1001 c.if-class-eq-ALL.false))
