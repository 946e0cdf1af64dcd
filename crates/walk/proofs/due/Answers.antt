-- A line's must/may byte is 1 or 0, and an item past the lines is no must line.
use Rattle.std.proofs.Common.{sym, ◌∙◌, ap, arith, rules}
use Rattle.card.proofs.CardChecked.{sound_front}
use Rattle.card.proofs.SoundNodes.{line_here}
use Rattle.lines.specs.Count.{bit}
use Rattle.scope.proofs.SetsAreItems.{strict_byte, strict_past}
use Rattle.walk.proofs.due.Goals as goal

pub byte-requires : goal.byte-requires
byte-requires c = let f = sound_front c.args.card.now c.requires in search rules

pub line_byte-requires : goal.line_byte-requires
line_byte-requires c = line_here c.requires c.args.item (omega (arith, c.if-item-byte.true, c.byte.ensures.0))

pub returns-then-item-byte : goal.returns-then-item-byte
returns-then-item-byte c =
    c.line_byte.ensures.0 ∙ strict_byte c.requires c.args.item (omega (arith, c.if-item-byte.true, c.byte.ensures.0))

pub returns-else-item-byte : goal.returns-else-item-byte
unfolding bit
returns-else-item-byte c = sym (ap bit (strict_past c.requires c.args.item (omega (arith, c.if-item-byte.false, c.byte.ensures.0))))
