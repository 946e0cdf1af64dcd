-- `front_check` meets its contract: 12 is told of a sheet that does not fit.
use Rattle.card.specs.Verdict.{where_of}
use Rattle.sheet_front.specs.Front.{sheet_fault}
use Rattle.sheet_front.proofs.front_check.Goals as goal

pub returns : goal.returns
unfolding sheet_fault where_of
returns c = rw c.fits.ensures at c.refuse.ensures
