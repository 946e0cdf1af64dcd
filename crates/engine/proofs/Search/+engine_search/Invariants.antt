use Prim.Native.Nat.{◌+◌, ◌*◌, ◌-◌}
use Rattle.card.specs.Format.{left_at, right_at}
use Rattle.card.specs.Decode.{goal_at}
use Rattle.agenda.specs.Inner.Agenda.{task}
use Rattle.segment.specs.Inner.Tasks.{agenda_of}
use Rattle.choice.specs.Inner.Choice.{given_at, from_at}
use Rattle.engine.specs.Inner.Engine.{Equipped}
use Rattle.engine.proofs.NumbersFall.{number, alone}
use Rattle.engine.proofs.NamesTell.{Round}
use Rattle.engine.proofs.RaisesEnd.{left_over}
use Rattle.engine.proofs.BehindTells.{Behind}
use Rattle.engine.proofs.EitherTells.{Either}
use Rattle.engine.proofs.NumbersFall.{most, fewest}
use Rattle.engine.proofs.Search.+engine_search.Given as goal

abbrev pub decreases-behind : goal.decreases-behind
decreases-behind g l = 8 * number l.job.now.card.now l.agenda.now l.b + 5

abbrev pub decreases-both_ways : goal.decreases-both_ways
decreases-both_ways g l = 8 * alone l.job.now.card.now l.goal l.n l.b + 2

abbrev pub decreases-choose : goal.decreases-choose
decreases-choose g l = 8 * fewest l.b + 5

abbrev pub decreases-enter : goal.decreases-enter
decreases-enter g l = 8 * most l.b + 3

abbrev pub decreases-last : goal.decreases-last
decreases-last g l = 8 * alone l.job.now.card.now l.goal l.n l.b + 4

abbrev pub decreases-lent : goal.decreases-lent
decreases-lent g l = 8 * alone l.job.now.card.now l.goal l.n l.b + 2

abbrev pub decreases-need : goal.decreases-need
decreases-need g l = 8 * number l.job.now.card.now l.agenda.now l.b + 5

abbrev pub decreases-one_of : goal.decreases-one_of
decreases-one_of g l = 8 * number l.job.now.card.now l.agenda.now l.b + 5

abbrev pub decreases-others : goal.decreases-others
decreases-others g l = 8 * number l.job.now.card.now l.agenda.now l.b + 2

abbrev pub decreases-part : goal.decreases-part
decreases-part g l = 8 * alone l.job.now.card.now l.goal l.n l.b + 3

abbrev pub decreases-side : goal.decreases-side
decreases-side g l = 8 * fewest l.b + 4

abbrev pub decreases-solve : goal.decreases-solve
decreases-solve g l = 8 * number l.job.now.card.now l.agenda.now l.b + 7

abbrev pub decreases-use_clause : goal.decreases-use_clause
decreases-use_clause g l = 8 * number l.job.now.card.now l.agenda.now l.b + 1

abbrev pub invariant-behind-loop-r : goal.invariant-behind-loop-r
invariant-behind-loop-r g l =
    Behind l.job.card.now l.job.waits.now (task (goal_at l.job.card.now l.goal) l.n) (agenda_of l.job.card.now l.agenda (l.b.len - 1)) l.initial.g l.g l.b l.initial.self.tape l.self.tape l.initial.self.nodes l.self.nodes l.initial.self.heads l.self.heads l.fresh
    × Equipped l.job.card.now l.self.nodes l.b.count (g.P.Prune.stocked l.self.prune l.job.card.now)

abbrev pub decreases-behind-loop-r : goal.decreases-behind-loop-r
decreases-behind-loop-r g l =
    left_over l.fresh (given_at l.g l.b.at l.self.tape) (from_at l.g l.b.at)

abbrev pub invariant-both_ways-loop-first : goal.invariant-both_ways-loop-first
invariant-both_ways-loop-first g l =
    Either l.job.card.now l.job.waits.now (goal_at l.job.card.now (left_at l.job.card.now l.goal)) (goal_at l.job.card.now (right_at l.job.card.now l.goal)) l.n l.initial.g l.g l.b l.initial.self.tape l.self.tape l.initial.self.nodes l.self.nodes l.initial.self.heads l.self.heads l.fresh
    × Equipped l.job.card.now l.self.nodes l.b.count (g.P.Prune.stocked l.self.prune l.job.card.now)

abbrev pub decreases-both_ways-loop-first : goal.decreases-both_ways-loop-first
decreases-both_ways-loop-first g l =
    left_over l.fresh (given_at l.g l.b.at l.self.tape) (from_at l.g l.b.at)

abbrev pub invariant-others-loop-e : goal.invariant-others-loop-e
invariant-others-loop-e g l =
    Round l.job.card.now l.job.waits.now l.agenda l.f l.b l.first l.initial.self.tape l.self.tape l.initial.self.nodes l.self.nodes l.initial.self.heads l.self.heads l.from
    × Equipped l.job.card.now l.self.nodes l.b.count (g.P.Prune.stocked l.self.prune l.job.card.now)

abbrev pub decreases-others-loop-e : goal.decreases-others-loop-e
decreases-others-loop-e g l =
    l.b.count - l.from
