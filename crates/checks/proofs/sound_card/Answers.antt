-- `sound_card` meets its contract: where the check finds nothing, the card is sound.
use Rattle.std.proofs.Common.{refl, sym}
use Rattle.std.proofs.lemmas.Result.{err_from_is_err_and}
use Rattle.card.specs.Verdict.{told}
use Rattle.card.proofs.CardChecked.{passed, found_sound}
use Rattle.checks.proofs.sound_card.Goals as goal

pub returns-in_err-check : goal.returns-in_err-check
unfolding told
returns-in_err-check c =
    let p = err_from_is_err_and c.from_residual.result c.from_residual.ensures.1 in
    rw (p.1, p.2) (sym c.in_err-check.ensures)

pub new-requires : goal.new-requires
new-requires c = found_sound _ _ refl c.in_ok-check.ensures

pub returns : goal.returns
returns c = (c.new.ensures, passed _ _ refl c.in_ok-check.ensures)
