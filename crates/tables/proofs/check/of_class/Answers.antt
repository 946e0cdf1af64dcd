use Rattle.std.proofs.Common.{◌&&◌, sym, ◌∙◌, ap, ap₂, rules, arith, lt-ltb}
use Rattle.bounds.specs.Inner.Table.{takes_in, in_class, head_at, class_at}
use Rattle.card.specs.Format.{line_count, line_node}
use Rattle.card.proofs.CardChecked.{sound_front}
use Rattle.tables.proofs.check.of_class.Goals as goal

pub byte-requires : goal.byte-requires
byte-requires c = let f = sound_front c.args.card.now c.requires.sound in search rules

pub returns-then-i-byte : goal.returns-then-i-byte
unfolding in_class
returns-then-i-byte c =
    let ns = c.args.names.now in
    let node = line_node c.args.card.now c.args.i in
    c.of_head.ensures
    ∙ ap₂ takes_in c.class.ensures.0 (c.head.ensures.0 ∙ ap (head_at ns) c.line_at.ensures.0)
    ∙ sym
    (ap (λ b. b && takes_in (class_at ns c.args.c) (head_at ns node))
    (lt-ltb c.args.i (line_count c.args.card.now) (omega (arith, c.if-i-byte.true, c.byte.ensures.0))))
