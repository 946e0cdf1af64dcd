-- What is left of the lines at hand.
use Rattle.std.proofs.Common.{sym, ◌∙◌, arith}
use lib.Count.{trailing_le}
use Rattle.card.proofs.CardChecked.{sound_front}
use Rattle.lines.proofs.LineLaws.{rest_less}
use Rattle.choice.specs.Inner.Choice.{Reaches}
use Rattle.choice.proofs.LinesAtHand.{left_all, left_passed, left_none, line_reached, line_passed}
use Rattle.choice.proofs.reach_line.Goals as goal

pub byte-rules-requires : goal.byte-rules-requires
byte-rules-requires c =
    let front = (sound_front c.args.card.now c.requires.testing.sound).whole in
    omega (arith, front)

pub byte-requires : goal.byte-requires
byte-requires c =
    let front = (sound_front c.args.card.now c.requires.testing.sound).whole in
    omega (arith, front)

pub returns-then-end-from : goal.returns-then-end-from
unfolding Reaches
returns-then-end-from c =
    let past = c.if-end-from.true in
    λ x h k. absurd (omega (arith, past, c.byte-rules.ensures.0, c.byte.ensures.0))

pub hand_from-hand-requires : goal.hand_from-hand-requires
hand_from-hand-requires c =
    let few = (sound_front c.args.card.now c.requires.testing.sound).lines in
    omega (arith, c.if-end-from.false, c.byte.ensures.0, few)

pub loop-b-init : goal.loop-b-init
loop-b-init c =
    let few = (sound_front c.args.card.now c.requires.testing.sound).lines in
    left_all _ _ _ _ _ c.requires.past_rules few (rw c.byte-rules.ensures.0 at c.hand_from-hand.ensures)

pub lowest-requires : goal.lowest-requires
lowest-requires c = sym c.is_empty.ensures ∙ c.loop-b-test.true

pub overflow_add-e : goal.overflow_add-e
overflow_add-e c =
    omega (arith, c.lowest.ensures, trailing_le 64 c.loop-b.hand.bits, c.byte-rules.ensures.1)

pub returns-then-end-e : goal.returns-then-end-e
unfolding Reaches
returns-then-end-e c =
    let p = c.byte-rules.ensures.0 in
    let t = c.byte.ensures.0 in
    left_passed _ _ _ _ _ c.loop-b.invariant c.requires.past_rules _ (omega (arith, c.if-end-e.true, c.lowest.ensures, p, t)) (omega arith)

pub returns-then-not-passes : goal.returns-then-not-passes
unfolding Reaches
returns-then-not-passes c =
    let p = c.byte-rules.ensures.0 in
    let t = c.byte.ensures.0 in
    line_reached _ _ _ _ _ c.loop-b.invariant c.requires.past_rules (sym c.is_empty.ensures ∙ c.loop-b-test.true) _
    (omega (arith, c.lowest.ensures, p)) (omega (arith, c.if-end-e.false, p, t)) c.requires.testing.scoped
    (c.passes.ensures.usable c.if-not-passes.true)

pub without_lowest-hand-requires : goal.without_lowest-hand-requires
without_lowest-hand-requires c = sym c.is_empty.ensures ∙ c.loop-b-test.true

pub loop-b-smaller : goal.loop-b-smaller
loop-b-smaller c =
    rw c.without_lowest-hand.ensures (rest_less c.loop-b.hand c.loop-b.invariant.fits (sym c.is_empty.ensures ∙ c.loop-b-test.true))

pub loop-b-preserved : goal.loop-b-preserved
loop-b-preserved c =
    let p = c.byte-rules.ensures.0 in
    let t = c.byte.ensures.0 in
    rw c.without_lowest-hand.ensures
    (line_passed _ _ _ _ _ c.loop-b.invariant c.requires.past_rules (sym c.is_empty.ensures ∙ c.loop-b-test.true) _
    (omega (arith, c.lowest.ensures, p)) (omega (arith, c.if-end-e.false, p, t)) c.requires.testing.scoped
    (c.passes.ensures.unusable c.if-not-passes.false))

pub returns : goal.returns
unfolding Reaches
returns c = left_none _ _ _ _ _ c.loop-b.invariant c.requires.past_rules (sym c.is_empty.ensures ∙ c.loop-b-test.false)
