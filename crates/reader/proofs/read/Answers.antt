-- `read` meets its contract: 1 to 9, or the outcome of what comes after them; and it accepts exactly what holds a list, since every byte
-- of the lent sheet is below 256.
use Rattle.std.proofs.Common.{arith}
use Rattle.std.proofs.lemmas.Result.{err_from_is_err_and}
use Rattle.card.specs.Format.{Bytes}
use Rattle.reader.specs.Read.{Reading, told_read, faulty}
use Rattle.reader.proofs.AcceptedExactly.{accepts_exactly}
use Rattle.reader.proofs.read.Goals as goal

pub returns-in_err-card : goal.returns-in_err-card
unfolding told_read
returns-in_err-card c =
    let p = err_from_is_err_and c.from_residual.result c.from_residual.ensures.1 in
    let bytes : Bytes c.args.sheet.now = record { byte = λ i. omega (arith, c.type_inv.sheet i) } in
    let r : Reading c.args.card.now c.args.sheet.now (told_read c.from_residual.result) = rw (p.1, p.2) (faulty c.in_err-card.ensures) in
    record { reading = r; accepts_exactly = accepts_exactly bytes r }

pub returns : goal.returns
returns c =
    let bytes : Bytes c.args.sheet.now = record { byte = λ i. omega (arith, c.type_inv.sheet i) } in
    let r = rw c.in_ok-card.ensures.0 at c.read_sheet.ensures in
    record { reading = r; accepts_exactly = accepts_exactly bytes r }
