-- The falling number of the engine's calls: steps left, then the size of what is still to be done, each goal by the nesting left to it.
use Prim.Native.Nat.{ℕ, ◌+◌, ◌-◌, ◌*◌, ◌≤◌, ◌<◌}
use native.Mathlib.Omega.{arith}
use mathlib.Core.Path.{◌≡◌}
use mathlib.Core.List.{List}
use Rattle.card.specs.Fault.{Sound}
use Rattle.card.specs.Decode.{goal_at}
use Rattle.branch.specs.declared.Branch.{Branch}
use Rattle.card.specs.Inner.Size.{weight}
use Rattle.segment.specs.Inner.Tasks.{total, Laid}
use Rattle.segment.proofs.TasksAreAgendas.{total_bound}
use Rattle.segment.proofs.TurnsTell.{total_pos}

-- of an agenda
abbrev pub number : List ℕ → List ℕ → Branch → ℕ
number bs codes b = (b.limit - b.at) * 1048576 + total bs codes b.len

-- of a goal alone
abbrev pub alone : List ℕ → ℕ → ℕ → Branch → ℕ
alone bs goal n b = (b.limit - b.at) * 1048576 + weight (goal_at bs goal) * (n + 1)

-- of any agenda, with so many steps left
abbrev pub most : Branch → ℕ
most b = (b.limit - b.at) * 1048576 + 1048576

-- of no agenda
abbrev pub fewest : Branch → ℕ
fewest b = (b.limit - b.at) * 1048576

-- no agenda outweighs a step
pub under_most : (bs codes : List ℕ) (b : Branch) {count : ℕ} → Sound bs → Laid bs codes b.len count → number bs codes b < most b
under_most bs codes b s l = let t : total bs codes b.len < 1048576 = total_bound s l in omega arith

-- with a step less, any agenda is outweighed by one that has a task
pub step_most : (bs codes : List ℕ) (b c : Branch) {count : ℕ} → Sound bs → Laid bs codes b.len count → 1 ≤ b.len
    → c.limit ≡ b.limit → c.at ≡ b.at + 1 → b.at < b.limit → most c < number bs codes b
step_most bs codes b c s l h e a r = let t : 1 ≤ total bs codes b.len = total_pos bs codes b.len h in omega arith

pub step_fewest : (b c : Branch) → c.limit ≡ b.limit → c.at ≡ b.at + 1 → b.at < b.limit → most c ≡ fewest b
step_fewest b c e a r = omega arith
