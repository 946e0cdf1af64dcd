-- The node is a ⊗ of the card, so its parts are nodes of the card too.
use Rattle.std.proofs.Common.{ℕ, ◌+◌, ◌*◌, ◌≤◌, ◌<◌, ◌≡◌, ◌∙◌, ap, ap₂, List, length, get_or, set, arith}
use Rattle.card.specs.Format.{node_count, left_at, right_at}
use Rattle.card.specs.Fault.{Sound}
use Rattle.card.proofs.CardChecked.{sound_front}
use Rattle.card.proofs.SoundNodes.{goal_lower, node_here, parts_below}
use Rattle.segment.specs.Inner.Tasks.{node_of, Splitting, halves}
use Rattle.segment.proofs.TasksAreAgendas.{nest_low}
use Rattle.segment.proofs.tasks.split.Goals as goal

module _ {bs codes : List ℕ} {i : ℕ} (s : Sound bs) (p : Splitting bs codes i) (g : ℕ) (e : g ≡ node_of (get_or codes i 0)) where
  below : g < node_count bs
  below = let l = goal_lower bs (node_count bs) (node_of (get_or codes i 0)) p.is_goal_part in omega arith

  here : 16 + 5 * g ≤ length bs
  here = node_here s g below

  parts : (left_at bs g < 512) × (right_at bs g < 512)
  parts =
      let q = parts_below s g below (rw e (omega (arith, p.is_tensor))) (rw e (λ k. omega (arith, p.is_tensor, k))) in
      let f = (sound_front bs s).few in
      (omega (arith, q.0, below), omega (arith, q.1, below))

pub left-l-requires : goal.left-l-requires
left-l-requires c = here c.requires.sound c.requires.splitting c.node-g.result c.node-g.ensures

pub right-r-requires : goal.right-r-requires
right-r-requires c = here c.requires.sound c.requires.splitting c.node-g.result c.node-g.ensures

pub put-requires : goal.put-requires
put-requires c =
    let low = nest_low (get_or c.args.agenda.now c.args.i 0) in
    let q = parts c.requires.sound c.requires.splitting c.node-g.result c.node-g.ensures in
    (omega (arith, c.requires.splitting.within), (omega (arith, q.1, c.right-r.ensures.0), omega (arith, c.nest-n.ensures, low)))

pub put-requires-2 : goal.put-requires-2
put-requires-2 c =
    let low = nest_low (get_or c.args.agenda.now c.args.i 0) in
    let q = parts c.requires.sound c.requires.splitting c.node-g.result c.node-g.ensures in
    (c.requires.splitting.within, (omega (arith, q.0, c.left-l.ensures.0), omega (arith, c.nest-n.ensures, low)))

pub returns : goal.returns
unfolding halves
returns c =
    let bs = c.args.card.now in
    let codes = c.args.agenda.now in
    let i = c.args.i in
    let node = c.node-g in
    let nest = c.nest-n.ensures in
    let left = c.left-l.ensures.0 ∙ ap (left_at bs) node.ensures in
    let right = c.right-r.ensures.0 ∙ ap (right_at bs) node.ensures in
    c.put-2.ensures
    ∙ ap₂ (λ l x. set l (i + 1) x) (c.put.ensures ∙ ap₂ (λ x n. set codes i (x * 32 + n)) right nest)
    (ap₂ (λ x n. x * 32 + n) left nest)
