-- `source` meets its contract: the three bytes stand on the card that holds the line.
use Rattle.std.proofs.Common.{ap, ◌∙◌}
use Rattle.benched.specs.Benched.{owner_of}
use Rattle.bench.specs.Bench.{part_of, told_source}
use Rattle.bench.proofs.SourceFound.{held_first, held_second, three}
use Rattle.bench.proofs.source.Goals as goal

pub returns-in_default : goal.returns-in_default
unfolding part_of told_source
returns-in_default c = ap (part_of c.args.first.now c.args.second.now) c.in_default.ensures

pub slice_bounds-result-end-in-First : goal.slice_bounds-result-end-in-First
unfolding told_source owner_of
slice_bounds-result-end-in-First c = held_first _ _ _ _ (rw c.in-First.is at c.in-Ok.ensures)

pub slice_bounds-result-end-in-Second : goal.slice_bounds-result-end-in-Second
unfolding told_source owner_of
slice_bounds-result-end-in-Second c = held_second _ _ _ _ (rw c.in-Second.is at c.in-Ok.ensures)

pub returns-in-First : goal.returns-in-First
unfolding part_of told_source owner_of
returns-in-First c =
    let s = c.args in
    three c.in-Ok.found.at s.first.now ∙ ap (part_of s.first.now s.second.now) (rw c.in-First.is at c.in-Ok.ensures)

pub returns-in-Second : goal.returns-in-Second
unfolding part_of told_source owner_of
returns-in-Second c =
    let s = c.args in
    three c.in-Ok.found.at s.second.now ∙ ap (part_of s.first.now s.second.now) (rw c.in-Second.is at c.in-Ok.ensures)
