use Rattle.std.proofs.Common.{arith, Ok, refl}
use Rattle.planner.proofs.PlannedExactly.{planned_room}
use Rattle.trays.proofs.Record.print.Goals as goal

-- a sheet lies within the part that was lent
pub new-sheet-requires : goal.new-sheet-requires
new-sheet-requires g c =
    let h = planned_room _ _ _ (Ok c.in-Ok.k) c.in-Ok.k refl c.in-Ok.ensures in
    omega (arith, c.plan.auto.sheet)
