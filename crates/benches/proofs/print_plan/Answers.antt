use Rattle.std.proofs.Common.{arith, Ok, refl}
use Rattle.planner.proofs.PlannedExactly.{planned_room}
use Rattle.benches.proofs.print_plan.Goals as goal

-- a sheet lies within the buffer
pub new-requires : goal.new-requires
new-requires g c =
    let h = planned_room _ _ _ (Ok c.in-Ok.k) c.in-Ok.k refl c.in-Ok.ensures in
    omega (arith, c.plan.auto.sheet)
