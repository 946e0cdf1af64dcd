-- The check of the buffer's room.
use Rattle.std.specs.Prelude.{ℕ, List, ltb}
use Rattle.card.specs.Verdict.{Verdict, sheet, refuse}
use Rattle.planning.specs.Plan.{room_of}

-- 10, of a buffer of n bytes
unfoldable pub room_fault : List ℕ → ℕ → Verdict
room_fault bs n = refuse (ltb n (room_of bs)) 10 sheet
