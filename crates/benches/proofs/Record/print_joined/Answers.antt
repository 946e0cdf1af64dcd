use Rattle.std.proofs.Common.{arith}
use Rattle.bench.specs.Bench.{told_join}
use Rattle.bench.proofs.BenchDecided.{join_decided, joined_room}
use Rattle.benches.proofs.Record.print_joined.Goals as goal

-- the joined card lies within the buffer
pub split_at-requires : goal.split_at-requires
unfolding told_join
split_at-requires g c =
    let h = joined_room _ _ (join_decided _ _ c.in-Ok.ensures) in
    omega (arith, c.join.auto.joined)
