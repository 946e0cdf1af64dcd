use Rattle.std.proofs.Common.{◌&&◌, refl, sym, ◌∙◌, ap, ap₂, arith}
use Rattle.lines.specs.Count.{bit}
use Rattle.bounds.specs.Inner.Table.{takes_in, in_class, class_at, head_at}
use Rattle.node_bounds.proofs.StepsByKind.{bit_of, bit_small}
use Rattle.node_bounds.proofs.weight.Goals as goal

pub returns-then-linear : goal.returns-then-linear
unfolding in_class
returns-then-linear c =
    let ns = c.args.names.now in
    let test = c.of_head.ensures ∙ ap₂ takes_in c.class.ensures.0 c.head.ensures.0 in
    let counted = ap (λ b. b && takes_in (class_at ns c.args.c) (head_at ns c.args.i)) c.if-linear.true in
    let one = c.from.ensures ∙ bit_of c.of_head.result in
    (one ∙ ap bit (test ∙ sym counted), rw one (bit_small c.of_head.result))

pub returns-else-linear : goal.returns-else-linear
unfolding bit in_class
returns-else-linear c = let l = c.if-linear.false in (sym (rw l refl), omega arith)
