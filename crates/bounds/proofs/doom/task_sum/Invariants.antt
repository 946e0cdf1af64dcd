use Rattle.std.proofs.Common.{◌≡◌, ℕ, ◌*◌, ◌≤◌}
use Rattle.bounds.specs.Inner.Doom.{task_sum}
use Rattle.bounds.proofs.doom.task_sum.Given as goal

abbrev pub invariant-loop-task : goal.invariant-loop-task
invariant-loop-task g l =
    ((value : ℕ → ℕ) → ((row r : ℕ) → row ≤ 512 → goal.F-post g l.bound row r → r ≡ value row) → l.sum ≡ task_sum value l.fn.agenda l.task-index)
    × (l.sum ≤ 255 * l.task-index)
