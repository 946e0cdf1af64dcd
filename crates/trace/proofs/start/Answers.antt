-- The counts and the depth limit are bytes of the front.
use Rattle.std.proofs.Common.{rules}
use Rattle.card.proofs.CardChecked.{sound_front}
use Rattle.trace.proofs.start.Goals as goal

pub byte-rules-requires : goal.byte-rules-requires
byte-rules-requires c = let f = sound_front c.args.card.now c.requires in search rules

pub byte-requires : goal.byte-requires
byte-requires c = let f = sound_front c.args.card.now c.requires in search rules

pub byte-requires-2 : goal.byte-requires-2
byte-requires-2 c = let f = sound_front c.args.card.now c.requires in search rules
