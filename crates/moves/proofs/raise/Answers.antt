-- What `byte` answers, put in its place.
use Rattle.std.proofs.Common.{◌+◌, ◌-◌, ap}
use Rattle.moves.specs.Inner.Moves.{raised_f}
use Rattle.moves.proofs.raise.Goals as goal

pub returns-clause-value : goal.returns-clause-value
unfolding raised_f
returns-clause-value c = ap (λ x. record { fixed = c.args.at - 1; from = x + 1 }) c.byte.ensures.0
