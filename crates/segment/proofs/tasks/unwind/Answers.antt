-- What is told of the agenda so far is told of the agenda at first; each turn makes it lighter.
use Rattle.std.proofs.Common.{ℕ, ◌+◌, ◌-◌, ◌*◌, ◌<◌, ◌≤◌, ◌≡◌, sym, ◌∙◌, ap, List, length, get_or, arith}
use mathlib.Core.Logic.{◌⊎◌, inl, inr}
use native.Mathlib.Decide.{dec_lt}
use Rattle.card.specs.Format.{node_count, kind_at}
use Rattle.card.specs.Fault.{Sound}
use Rattle.card.proofs.SoundNodes.{goal_lower, goal_kind, node_here}
use Rattle.card.specs.Kinds.{Numbered}
use Rattle.card.specs.declared.kinds.Kind.{Kind}
use Rattle.card.specs.declared.kinds.Kind.TheVariants.{Top, One, Tensor}
use Rattle.branch.specs.declared.Branch.{Branch}
use Rattle.segment.specs.Inner.Tasks.{node_of, Laid, Unwound, Opened}
use Rattle.segment.proofs.KindsNumbered.{named, numbered_is}
use Rattle.segment.proofs.TasksAreAgendas.{laid_short}
use Rattle.segment.proofs.TurnsTell.{Turning, unwound_self, unwound_trans, rest_turn, done_turn, both_turn, both_splits}
use Rattle.segment.proofs.tasks.unwind.Goals as goal

turning : {bs codes₀ codes : List ℕ} {b₀ b : Branch} → Unwound bs codes₀ codes b₀ b → 0 < b.len → Turning bs codes b
turning u some = record { laid = u.laid; some = omega arith; counted = u.counted }

other : (k : ℕ) → 1 ≤ k → (k ≡ 2 → ⊥) → (k ≡ 3 → ⊥) → (k ≡ 4 → ⊥) → (k ≡ 1) ⊎ (4 < k)
other k a t o p = at (dec_lt 4 k)
  where
    at : Dec (4 < k) → (k ≡ 1) ⊎ (4 < k)
    at (yes h) = inr h
    at (no h) = inl (omega arith)

module _ {bs codes : List ℕ} (b : Branch) (s : Sound bs) (l : Laid bs codes b.len b.count) (some : 0 < b.len) (g : ℕ)
    (e : g ≡ node_of (get_or codes (b.len - 1) 0)) where
  here : 16 + 5 * g ≤ length bs
  here =
      let f = (l.fits (b.len - 1) (omega arith)).is_goal_part in
      let p = goal_lower bs (node_count bs) (node_of (get_or codes (b.len - 1) 0)) f in
      node_here s g (omega arith)

  -- a task of another kind than ⊤, 1 and ⊗
  open_other : (x : Kind) → Numbered x (kind_at bs g) → (x ≡ Top → ⊥) → (x ≡ One → ⊥) → (x ≡ Tensor → ⊥) → Opened bs codes b
  unfolding Opened
  open_other x n t o p =
      let f = (l.fits (b.len - 1) (omega arith)).is_goal_part in
      let low : 1 ≤ kind_at bs g = rw e (goal_kind bs (node_count bs) (node_of (get_or codes (b.len - 1) 0)) f).0 in
      let is = λ (h : kind_at bs g ≤ 4). numbered_is x n low (omega arith) in
      inr (record {
        some = omega arith;
        kind = rw (sym e) (other (kind_at bs g) low (λ q. t (is (omega arith) ∙ ap named q)) (λ q. o (is (omega arith) ∙ ap named q))
            (λ q. p (is (omega arith) ∙ ap named q)));
      })

pub loop-c-init : goal.loop-c-init
loop-c-init c = unwound_self c.requires.laid c.requires.counted

pub node-requires : goal.node-requires
node-requires c = omega (arith, laid_short c.loop-c.invariant.laid)

pub kind_of-requires : goal.kind_of-requires
kind_of-requires c = here c.loop-c.c c.requires.sound c.loop-c.invariant.laid c.loop-c-test.true _ c.node.ensures

pub loop-c-smaller-in-Top : goal.loop-c-smaller-in-Top
loop-c-smaller-in-Top c =
    let t = turning c.loop-c.invariant c.loop-c-test.true in
    rw c.eased-c.ensures.value (rest_turn c.requires.sound t (rw c.node.ensures at c.in-Top.ensures)).1

pub loop-c-preserved-in-Top : goal.loop-c-preserved-in-Top
loop-c-preserved-in-Top c =
    let t = turning c.loop-c.invariant c.loop-c-test.true in
    rw c.eased-c.ensures.value
    (unwound_trans c.loop-c.invariant (rest_turn c.requires.sound t (rw c.node.ensures at c.in-Top.ensures)).0)

pub loop-c-smaller-in-One : goal.loop-c-smaller-in-One
loop-c-smaller-in-One c =
    let t = turning c.loop-c.invariant c.loop-c-test.true in
    (done_turn c.requires.sound t (rw c.node.ensures at c.in-One.ensures)).1

pub loop-c-preserved-in-One : goal.loop-c-preserved-in-One
loop-c-preserved-in-One c =
    let t = turning c.loop-c.invariant c.loop-c-test.true in
    unwound_trans c.loop-c.invariant (done_turn c.requires.sound t (rw c.node.ensures at c.in-One.ensures)).0

pub split-requires-clause-splitting : goal.split-requires-clause-splitting
split-requires-clause-splitting c =
    let t = turning c.loop-c.invariant c.loop-c-test.true in
    both_splits c.requires.sound t (rw c.node.ensures at c.in-Tensor.ensures)

pub loop-c-smaller : goal.loop-c-smaller
loop-c-smaller c =
    let t = turning c.loop-c.invariant c.loop-c-test.true in
    rw c.split.ensures (both_turn c.requires.sound t (rw c.node.ensures at c.in-Tensor.ensures)).1

pub loop-c-preserved : goal.loop-c-preserved
loop-c-preserved c =
    let t = turning c.loop-c.invariant c.loop-c-test.true in
    rw c.split.ensures
    (unwound_trans c.loop-c.invariant (both_turn c.requires.sound t (rw c.node.ensures at c.in-Tensor.ensures)).0)

pub returns-in_default : goal.returns-in_default
returns-in_default c = record {
  unwound = c.loop-c.invariant;
  opened = open_other c.loop-c.c c.requires.sound c.loop-c.invariant.laid c.loop-c-test.true _ c.node.ensures _ c.kind_of.ensures
      c.in_default.not-Top c.in_default.not-One c.in_default.not-Tensor;
}

pub returns : goal.returns
unfolding Opened
returns c = record { unwound = c.loop-c.invariant; opened = inl (omega arith) }
