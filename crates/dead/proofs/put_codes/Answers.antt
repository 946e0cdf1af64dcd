-- The first i are put.
use Rattle.std.proofs.Common.{◌≡◌, arith}
use Rattle.dead.proofs.RowsKept.{put_none, put_more}
use Rattle.dead.proofs.put_codes.Goals as goal

pub loop-i-init : goal.loop-i-init
loop-i-init c = put_none

pub loop-i-preserved : goal.loop-i-preserved
loop-i-preserved c = put_more c.loop-i.invariant (omega (arith, c.requires.inside))

pub returns : goal.returns
returns c =
    let e : c.loop-i.i ≡ c.args.n = omega arith in
    rw e at c.loop-i.invariant
