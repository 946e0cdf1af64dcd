-- `lines::LineSet::full` meets its contract: below 64 the shift loses nothing. Assumes nothing.
use Rattle.std.proofs.Common.{sym, ap, refl, arith}
use Rattle.lines.specs.Set.{empty_s, full_s}
use Rattle.lines.proofs.Word.{shl_one}
use Rattle.lines.proofs.LineSet.full.Goals as goal
use Rattle.lines.proofs.LineSet.full.Goals.{then-lines-eq64, else-lines-eq64}

pub returns : goal.returns
unfolding empty_s full_s
returns c =
    elim c.if-lines-eq64.branch [
      | then-lines-eq64 w ↦ rw (c.empty.ensures, w.low-is) (ap full_s (sym w.if-lines-eq64.true))
      | else-lines-eq64 w ↦ rw (c.empty.ensures, w.low-is, shl_one 64 c.args.lines (omega arith)) refl
    ]
