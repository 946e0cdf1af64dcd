-- `room_for` meets its contract: 10 is told of a buffer shorter than 5 + s + T.
use Rattle.card.specs.Verdict.{where_of}
use Rattle.planning.specs.Inner.Room.{room_fault}
use Rattle.planning.proofs.room_for.Goals as goal

pub returns : goal.returns
unfolding room_fault where_of
returns c = rw (c.byte-s.ensures.0, c.byte-t.ensures.0) at c.refuse.ensures
