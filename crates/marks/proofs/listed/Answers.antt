-- The set has the lines among the steps so far.
use Rattle.std.proofs.Common.{◌≡◌, ◌+◌, [], ◌∷◌, ◌++◌, take, add-one, arith}
use Rattle.std.proofs.Math.Seq.{take-suc}
use Rattle.std.proofs.lemmas.List.{take_all}
use Rattle.marks.proofs.LinesGathered.{gathers_none}
use Rattle.marks.proofs.listed.Goals as goal

pub loop-step-init : goal.loop-step-init
loop-step-init c = rw c.empty-used.ensures (gathers_none _)

pub loop-step-preserved : goal.loop-step-preserved
loop-step-preserved c =
    let list = c.args.list.now in
    let more : take (c.loop-step.step-index + 1) list ≡ take c.loop-step.step-index list ++ (c.from.result ∷ []) =
    rw (add-one, c.from.ensures) (take-suc list c.loop-step.step-index 0 (omega arith)) in
    rw more (c.with_line-used.ensures _ c.loop-step.invariant)

pub returns : goal.returns
returns c = rw (take_all c.loop-step.step-index c.args.list.now (omega arith)) at c.loop-step.invariant
