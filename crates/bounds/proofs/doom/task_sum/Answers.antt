-- The sum is that of the tasks before the present one.
use Rattle.std.proofs.Common.{◌+◌, ◌/◌, ◌≤◌, get_or, take, ◌<◌, refl, sym, ◌∙◌, ap, ap₂, add-one, arith}
use Rattle.std.proofs.lemmas.List.{get_or-take}
use Rattle.bounds.specs.Inner.Doom.{task_sum}
use Rattle.bounds.proofs.doom.task_sum.Goals as goal

pub loop-task-init : goal.loop-task-init
unfolding task_sum
loop-task-init g c = (λ value h. refl, omega arith)

pub loop-task-preserved : goal.loop-task-preserved
unfolding task_sum
loop-task-preserved g c =
    let codes = c.args.agenda.now in
    let i = c.loop-task.task-index in
    let below : i < c.args.len = omega (arith, c.loop-task-test.true) in
    let same = get_or-take c.args.len codes i 0 below in
    let row : get_or (take c.args.len codes) i 0 / 32 ≤ 512 = rw same (c.requires.tasks.1.rows i below) in (
      λ value h. ap₂ ◌+◌ (c.loop-task.invariant.0 value h) (rw same at (h _ _ row c.bound-sum.ensures)) ∙ sym (ap (task_sum value codes) (add-one i)),
      omega (arith, c.loop-task.invariant.1, c.requires.small _ _ row c.bound-sum.ensures),
    )
