use Rattle.std.proofs.Common.{rules}
use Rattle.card.proofs.CardChecked.{sound_front}
use Rattle.tables.proofs.fill.widen_lines.Goals as goal

pub byte-i-end-requires : goal.byte-i-end-requires
byte-i-end-requires c = let f = sound_front c.args.card.now c.requires.sound in search rules
