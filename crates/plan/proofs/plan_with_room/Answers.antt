-- every byte of the lent card is below 256, so the step limit and the lines leave room
use native.Mathlib.Omega.{arith}
use Rattle.planner.proofs.PlannedExactly.{never_short}
use Rattle.plan.proofs.plan_with_room.Goals as goal

pub returns-clause-never_short : goal.returns-clause-never_short
returns-clause-never_short c =
    never_short (record { byte = λ i. omega (arith, c.type_inv.card i) }) c.requires c.plan.ensures
