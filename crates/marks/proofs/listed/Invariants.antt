use Rattle.std.proofs.Common.{take}
use Rattle.marks.specs.Inner.Used.{Gathers}
use Rattle.marks.proofs.listed.Given as goal

abbrev pub invariant-loop-step : goal.invariant-loop-step
invariant-loop-step l = Gathers (take l.step-index l.list) l.rules l.used
