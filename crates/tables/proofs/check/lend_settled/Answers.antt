use Rattle.std.proofs.Common.{◌≡◌, ◌↔◌, true, subst, arith}
use Rattle.card.proofs.SoundNodes.{lend_parts, clause_above}
use Rattle.bounds.specs.Inner.Table.{UseSettled}
use Rattle.node_bounds.proofs.ChecksDecide.{holds}
use Rattle.node_bounds.proofs.KindsNamed.{lend_named}
use Rattle.tables.proofs.check.lend_settled.Goals as goal

pub use_settled-requires-clause-clause : goal.use_settled-requires-clause-clause
use_settled-requires-clause-clause c =
    let n = c.requires.node.here in
    let g = (lend_parts c.requires.table_held.sound c.args.i n c.in-Lend.ensures).0 in
    rw c.left_part.ensures.0 (clause_above _ _ _ _ (omega (arith, n)) g)

pub returns-in-Lend : goal.returns-in-Lend
returns-in-Lend c =
    let w =
    subst
    (λ d. (c.use_settled.result ≡ true) ↔ UseSettled c.args.card.now c.args.names.now c.args.table.now d true)
    c.left_part.ensures.0 c.use_settled.ensures in
    (λ q k. w.0 q, λ f. w.1 (f c.in-Lend.ensures))

pub returns-in_default : goal.returns-in_default
returns-in_default c = holds (λ k. absurd (c.in_default.not-Lend (lend_named _ _ c.kind_at.ensures k)))
