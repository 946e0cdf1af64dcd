-- `put_moved` meets its contract: each field is written as the kind's row says.
use Rattle.std.proofs.Common.{ℕ, ◌≤◌, ◌<◌, arith}
use Rattle.card.specs.declared.kinds.Field.{Field}
use Rattle.card.specs.declared.kinds.Field.TheVariants.{Unused, Name, GoalPart, ClausePart, Unknown}
use Rattle.card.specs.Inner.Checks.{PartBelow}
use Rattle.card.proofs.CardChecked.{sound_front}
use Rattle.card.proofs.NodesBuilt.{left_below, right_below}
use Rattle.card.proofs.SoundNodes.{node_here, sound_built}
use Rattle.joined.specs.Joined.{shifted, moved_node}
use Rattle.moved.proofs.put_moved.Goals as goal

-- a shifted value has two bytes: a part is below its node
shifted_low : (n i v : ℕ) (f : Field) → n ≤ 512 → i < 512 → v < 65536 → PartBelow i f v → shifted n f v < 65536
unfolding shifted PartBelow
shifted_low n i v Unused few below two p = two
shifted_low n i v Name few below two p = two
shifted_low n i v GoalPart few below two p = omega arith
shifted_low n i v ClausePart few below two p = omega arith
shifted_low n i v Unknown few below two p = two

pub kind-k-requires : goal.kind-k-requires
kind-k-requires c = rw c.bytes.ensures.value (node_here c.bytes.ensures.sound c.args.i c.requires.i_bound)

pub put_node-requires-clause-left_bound : goal.put_node-requires-clause-left_bound
put_node-requires-clause-left_bound c =
    let i = c.args.i in
    let below : i < 512 = omega (arith, c.requires.i_bound, (sound_front _ c.bytes.ensures.sound).few) in
    let part = left_below _ i (sound_built c.bytes.ensures.sound i c.requires.i_bound) in
    rw (c.shift-a.ensures, c.row-asked.ensures.0, c.kind-k.ensures.0, c.bytes.ensures.value, c.left.ensures.0)
    (shifted_low _ i _ _ c.requires.n_bound below (rw c.left.ensures.0 at c.left.ensures.1) part)

pub put_node-requires-clause-right_bound : goal.put_node-requires-clause-right_bound
put_node-requires-clause-right_bound c =
    let i = c.args.i in
    let below : i < 512 = omega (arith, c.requires.i_bound, (sound_front _ c.bytes.ensures.sound).few) in
    let part = right_below _ i (sound_built c.bytes.ensures.sound i c.requires.i_bound) in
    rw (c.shift-b.ensures, c.row-asked.ensures.1, c.kind-k.ensures.0, c.bytes.ensures.value, c.right.ensures.0)
    (shifted_low _ i _ _ c.requires.n_bound below (rw c.right.ensures.0 at c.right.ensures.1) part)

pub returns : goal.returns
unfolding moved_node
returns c =
    let bs = c.bytes.ensures.value in
    let a = rw (c.row-asked.ensures.0, c.kind-k.ensures.0, bs, c.left.ensures.0) at c.shift-a.ensures in
    let b = rw (c.row-asked.ensures.1, c.kind-k.ensures.0, bs, c.right.ensures.0) at c.shift-b.ensures in
    rw (a, b, c.kind-k.ensures.0, bs) at c.put_node.ensures
