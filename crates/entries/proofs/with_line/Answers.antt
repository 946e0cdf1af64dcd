use Rattle.std.proofs.Common.{sym, ap, ◌∙◌}
use Rattle.lines.specs.declared.LineWord.{LineWord}
use Rattle.lines.proofs.LineLaws.{add_below}
use Rattle.entries.specs.Inner.Masks.{with_line}
use Rattle.entries.proofs.with_line.Goals as goal

pub returns-then-joins : goal.returns-then-joins
unfolding with_line
returns-then-joins c =
    let a = c.args in
    ap (λ (s : LineWord). s.bits) (c.add.ensures ∙ add_below _ a.i c.requires) ∙ ap (λ b. with_line b a.mask a.i) (sym c.if-joins.true)
