-- `write_plan` meets its contract: the list is within the step limit, so there is room for its sheet, and this is the outcome.
use Rattle.std.proofs.Common.{arith}
use Rattle.card.proofs.CardChecked.{sound_front}
use Rattle.planning.proofs.SheetPlanned.{within, sheet_planned}
use Rattle.planning.proofs.write_plan.Goals as goal

pub write-requires : goal.write-requires
write-requires c =
    let few = within _ _ c.requires.first in
    record { framed = sound_front _ c.requires.sound; few_steps = omega (arith, c.type_inv.card 10); room = omega arith }

pub overflow_cast-result : goal.overflow_cast-result
overflow_cast-result c = let few = within _ _ c.requires.first in omega (arith, c.type_inv.card 10)

pub returns : goal.returns
returns c =
    let p = c.requires in
    sheet_planned _ _ p.first _ _ p.sound p.room p.sure_lines c.write.ensures
