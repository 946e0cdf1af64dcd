-- What is not in scope is used for no name.
use Rattle.std.proofs.Common.{sym, ◌∙◌}
use borrow.Author.Tests.{le-ltb}
use Rattle.summary.proofs.StepsTell.{outside_unfit, inside_fit}
use Rattle.summary.proofs.fits.Goals as goal

pub usable-requires : goal.usable-requires
usable-requires c = record { sound = c.requires.sound; node_value = c.requires.entered.clauses _ c.if-e-b.true }

pub returns-then-e-b : goal.returns-then-e-b
returns-then-e-b c =
    let a = c.args in c.usable.ensures ∙ sym (inside_fit a.card.now a.tables.now a.b.count a.name a.e c.if-e-b.true)

pub returns-else-e-b : goal.returns-else-e-b
returns-else-e-b c =
    let a = c.args in
    le-ltb a.e a.b.count c.if-e-b.false ∙ sym (outside_unfit a.card.now a.tables.now a.b.count a.name a.e c.if-e-b.false)
