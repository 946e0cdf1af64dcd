-- `plan_sound` meets its contract: 10, 11, or the sheet of the first list.
use Rattle.std.proofs.Common.{arith}
use Rattle.std.proofs.lemmas.List.{length-take}
use Rattle.std.proofs.lemmas.Result.{err_from_is_err_and}
use Rattle.card.specs.Verdict.{where_of}
use Rattle.card.proofs.CardChecked.{front_here}
use Rattle.planning.specs.Plan.{told_plan, none_within}
use Rattle.planning.proofs.SheetPlanned.{room_enough, room_short}
use Rattle.planner.proofs.PlannerExits.{list_found, none_found}
use Rattle.planner.proofs.plan_sound.Goals as goal

pub room_for-requires : goal.room_for-requires
room_for-requires c = rw c.bytes-bytes.ensures.value (front_here c.bytes-bytes.ensures.sound)

pub returns-in_err-room_for : goal.returns-in_err-room_for
returns-in_err-room_for c =
    let p = err_from_is_err_and c.from_residual.result c.from_residual.ensures.1 in
    rw (p.1, p.2) (room_short _ _ _ c.bytes-bytes.ensures.sound (rw c.bytes-bytes.ensures.value at c.in_err-room_for.ensures))

pub returns-in_default : goal.returns-in_default
unfolding told_plan where_of
returns-in_default c =
    none_within c.bytes-bytes.ensures.sound (room_enough _ _ _ (rw c.bytes-bytes.ensures.value at c.in_ok-room_for.ensures))
    (none_found _ _ (rw (c.in_default.is, c.bytes-bytes.ensures.value) at c.first_list.ensures))

pub sure_lines-sure-requires : goal.sure_lines-sure-requires
sure_lines-sure-requires c =
    let f = list_found _ _ _ (rw c.bytes-bytes.ensures.value at c.in-Some.ensures) in
    rw c.bytes-bytes.ensures.value (record { sound = c.bytes-bytes.ensures.sound; k_in_bounds = omega arith; listed = f.first.listed })

pub slice_bounds-tape-end : goal.slice_bounds-tape-end
slice_bounds-tape-end c = let f = list_found _ _ _ (rw c.bytes-bytes.ensures.value at c.in-Some.ensures) in omega arith

pub slice_bounds-write_plan-end : goal.slice_bounds-write_plan-end
slice_bounds-write_plan-end c = let f = list_found _ _ _ (rw c.bytes-bytes.ensures.value at c.in-Some.ensures) in simp length-take (omega arith)

pub write_plan-requires-clause-first : goal.write_plan-requires-clause-first
write_plan-requires-clause-first c = let f = list_found _ _ _ c.in-Some.ensures in f.first

pub write_plan-requires-clause-room : goal.write_plan-requires-clause-room
write_plan-requires-clause-room c = room_enough _ _ _ c.in_ok-room_for.ensures

pub returns : goal.returns
unfolding told_plan
returns c = rw c.bytes-bytes.ensures.value at c.write_plan.ensures
