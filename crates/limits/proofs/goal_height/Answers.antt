-- `goal_height` meets its contract: the heights of the nodes before the goal stand in the table.
use Rattle.std.proofs.Common.{◌≡◌, ◌<◌, length, ℕ, List, refl, ap, ◌∙◌, length-set, add-one, arith}
use Rattle.card.specs.Format.{node_count, goal_node, grow}
use Rattle.card.specs.Fault.{Sound, height_at}
use Rattle.card.proofs.CardChecked.{sound_front}
use Rattle.card.proofs.SoundNodes.{sound_built, height_low, node_here}
use Rattle.nodes.proofs.NodesChecked.{table_more}
use Rattle.limits.proofs.goal_height.Goals as goal

-- what stands before the goal is one of the card's nodes, which are few
below : {i g n : ℕ} → i < g → g < n → i < n
below h l = omega (arith, h, l)

few : {bs : List ℕ} → Sound bs → {i : ℕ} → i < node_count bs → i < 512
few {bs} s h = omega (arith, h, (sound_front bs s).few)

pub loop-i-init : goal.loop-i-init
unfolding grow
loop-i-init c = (refl, refl)

pub height-requires-clause-heights_tabled : goal.height-requires-clause-heights_tabled
height-requires-clause-heights_tabled c =
    let s = c.bytes-bytes.ensures.sound in
    let b = below c.loop-i-test.true c.goal-goal.ensures.part.0 in
    rw c.bytes-bytes.ensures.value (record { here = node_here s c.loop-i.i b; few = few s b; heights = c.loop-i.invariant.1 })

pub height-requires-clause-built : goal.height-requires-clause-built
height-requires-clause-built c =
    rw c.bytes-bytes.ensures.value (sound_built c.bytes-bytes.ensures.sound c.loop-i.i (below c.loop-i-test.true c.goal-goal.ensures.part.0))

pub overflow_cast-heights : goal.overflow_cast-heights
overflow_cast-heights c =
    let low = height_low c.bytes-bytes.ensures.sound c.loop-i.i (below c.loop-i-test.true c.goal-goal.ensures.part.0) in
    omega (arith, rw c.bytes-bytes.ensures.value at c.height.ensures, low)

pub bounds-heights-i : goal.bounds-heights-i
bounds-heights-i c = few c.bytes-bytes.ensures.sound (below c.loop-i-test.true c.goal-goal.ensures.part.0)

pub loop-i-preserved : goal.loop-i-preserved
loop-i-preserved c =
    let t = c.loop-i.heights in
    let low = few c.bytes-bytes.ensures.sound (below c.loop-i-test.true c.goal-goal.ensures.part.0) in
    let room : c.loop-i.i < length t = omega (arith, low, c.loop-i.invariant.0) in
    let table = table_more c.args.card.now c.loop-i.i t room c.loop-i.invariant.1 in
    (length-set t c.loop-i.i _ ∙ c.loop-i.invariant.0, rw (c.height.ensures, c.bytes-bytes.ensures.value, add-one) table)

pub height-requires-2-clause-heights_tabled : goal.height-requires-2-clause-heights_tabled
height-requires-2-clause-heights_tabled c =
    let s = c.bytes-bytes.ensures.sound in
    let l = c.goal-goal.ensures.part.0 in
    let e : c.loop-i.i ≡ c.goal-goal.result = omega (arith, c.loop-i-test.false, c.loop-i.auto.i-end) in
    rw c.bytes-bytes.ensures.value (record { here = node_here s c.goal-goal.result l; few = few s l; heights = rw e at c.loop-i.invariant.1 })

pub height-requires-2-clause-built : goal.height-requires-2-clause-built
height-requires-2-clause-built c =
    rw c.bytes-bytes.ensures.value (sound_built c.bytes-bytes.ensures.sound c.goal-goal.result c.goal-goal.ensures.part.0)

pub returns : goal.returns
returns c =
    let bs = c.args.card.now in
    let g = c.goal-goal.ensures.value in
    let h = rw c.bytes-bytes.ensures.value at c.height-2.ensures in
    let e : c.height-2.result ≡ height_at bs (goal_node bs) = h ∙ ap (height_at bs) g in
    (e, omega (arith, h, height_low c.bytes-bytes.ensures.sound c.goal-goal.result c.goal-goal.ensures.part.0))
