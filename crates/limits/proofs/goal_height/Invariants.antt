use Rattle.std.proofs.Common.{◌≡◌, length, take}
use Rattle.card.specs.Format.{grow}
use Rattle.card.specs.Fault.{height_step}
use Rattle.limits.proofs.goal_height.Given as goal

abbrev pub invariant-loop-i : goal.invariant-loop-i
invariant-loop-i l = (length l.heights ≡ 512) × (take l.i l.heights ≡ grow (height_step l.card) l.i)
