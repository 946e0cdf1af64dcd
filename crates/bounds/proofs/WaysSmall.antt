-- What is added up on the way to a head stays small.
use Prim.Native.Nat.{ℕ, ◌+◌, ◌<◌, ◌≤◌}
use native.Mathlib.Omega.{arith}
use mathlib.Core.Path.{◌≡◌}
use mathlib.Core.Bool.{true}
use mathlib.Core.List.{List}
use Rattle.card.specs.Format.{node_count}
use Rattle.card.specs.Fault.{Sound, clause_part}
use Rattle.card.proofs.CardChecked.{sound_front}
use Rattle.card.proofs.SoundNodes.{clause_lower}
use Rattle.bounds.specs.Inner.Table.{Node, OnWay}

pub clause_node : {bs : List ℕ} {i : ℕ} → Sound bs → clause_part bs (node_count bs) i ≡ true → Node bs i
clause_node {bs} {i} s p =
    let f = (sound_front bs s).few in
    let b = clause_lower bs (node_count bs) i p in
    record { here = b; few = omega arith }

-- at the start of a use: one step, and at most one item
pub way_starts : {bs : List ℕ} {i w : ℕ} → Node bs i → w ≤ 1 → OnWay i 1 w w
way_starts n h = let f = n.few in record { steps = omega arith; low = omega arith; high = omega arith }

-- a step, or a condition, more on the way to a lower node
pub way_on : {i j s l h s' l' h' : ℕ} → OnWay i s l h → j < i → s' ≤ s + 256 → l' ≤ l + 256 → h' ≤ h + 256 → OnWay j s' l' h'
way_on w b x y z =
    let ws = w.steps in let wl = w.low in let wh = w.high in record { steps = omega arith; low = omega arith; high = omega arith }
