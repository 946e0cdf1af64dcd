use Rattle.std.proofs.Common.{◌≡◌}
use Rattle.scope.specs.Inner.Sets.{strict_below}
use Rattle.scope.proofs.strict_lines.Given as goal

abbrev pub invariant-loop-i : goal.invariant-loop-i
invariant-loop-i l = l.strict ≡ strict_below l.card l.i
