use Rattle.std.proofs.Common.{ℕ, rules, tests, refl, arith, true}
use Rattle.std.proofs.lemmas.Iterator.{cases_from_all, YieldsList-from_range}
use Rattle.bounds.specs.Inner.Table.{UseSettled}
use Rattle.card.specs.Format.{line_node}
use Rattle.card.proofs.CardChecked.{sound_front}
use Rattle.bounds.proofs.EachBelow.{all_below}
use Rattle.node_bounds.proofs.ChecksDecide.{unmet}
use Rattle.tables.proofs.check.lines_settled.Goals as goal

pub byte-lines-requires : goal.byte-lines-requires
byte-lines-requires c = let f = sound_front c.args.card.now c.requires.sound in search rules

pub returns : goal.returns
returns c =
    let P : ℕ → Type 0 = λ k. UseSettled c.args.card.now c.args.names.now c.args.table.now (line_node c.args.card.now k) true in
    rw c.byte-lines.ensures.0 at
    (all_below c.byte-lines.result P _
    (cases_from_all _ _ _ P (λ k. P k → ⊥) c.all.ensures.ran (YieldsList-from_range 0 c.byte-lines.result c.byte-lines.result refl (omega arith))
    (λ x q k. search (rules, tests)) (λ x q k. search (rules, tests, unmet))))
