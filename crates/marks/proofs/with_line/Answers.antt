-- A rule, or a step behind the rules.
use Rattle.std.proofs.Common.{arith}
use Rattle.marks.proofs.LinesGathered.{gathers_rule, gathers_item}
use Rattle.marks.proofs.with_line.Goals as goal

pub returns-then-step-rules : goal.returns-then-step-rules
returns-then-step-rules c l g = gathers_rule g c.args.step c.if-step-rules.true

pub returns-else-step-rules : goal.returns-else-step-rules
returns-else-step-rules c l g = rw c.add.ensures (gathers_item g c.args.step _ (omega arith))
