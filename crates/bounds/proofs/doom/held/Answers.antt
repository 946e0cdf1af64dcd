use Rattle.std.proofs.Common.{◌&&◌, sym, ◌∙◌, ap, ap₂}
use Rattle.bounds.specs.Inner.Table.{takes_in, in_class, head_at, class_at}
use Rattle.bounds.proofs.doom.held.Goals as goal

pub returns-then-has : goal.returns-then-has
unfolding in_class
returns-then-has c =
    c.of_head.ensures ∙ ap₂ takes_in c.class.ensures.0 c.head.ensures.0
    ∙ sym
    (ap (λ b. b && takes_in (class_at c.args.names.now c.args.c) (head_at c.args.names.now c.args.node))
    (sym c.has.ensures ∙ c.if-has.true))
