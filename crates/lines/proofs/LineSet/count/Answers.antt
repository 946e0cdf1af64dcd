-- `lines::LineSet::count` meets its contract: the set digits of the three words. Assumes nothing.
use Rattle.std.proofs.Common.{rules}
use Rattle.lines.specs.Set.{Words}
use Rattle.lines.proofs.CountLaws.{count_ones}
use Rattle.lines.proofs.LineSet.count.Goals as goal

pub returns : goal.returns
returns c =
    let words : Words c.args.self = record { low = search rules; mid = search rules; high = search rules } in
    count_ones words
