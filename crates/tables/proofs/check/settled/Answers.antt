-- Each part of the table is settled.
use Rattle.std.proofs.Common.{◌≡◌, ℕ, ◌<◌, Bool, true, false, sym, ◌∙◌, arith}
use Rattle.std.proofs.lemmas.Bool.{false≢true}
use Rattle.card.specs.Format.{node_count}
use Rattle.bounds.specs.Inner.Table.{NodeSettled, UseSettled, Origin}
use Rattle.node_bounds.proofs.ChecksDecide.{fails, unmet}
use Rattle.tables.proofs.check.settled.Goals as goal
use Rattle.tables.proofs.check.settled.Goals.{then-nodes_settled, else-nodes_settled}

pos : (n : ℕ) → (n ≡ 0 → ⊥) → 0 < n
pos n h = omega arith

pub returns-then-classes-eq0 : goal.returns-then-classes-eq0
returns-then-classes-eq0 c = fails (λ f. omega (arith, f.some, c.if-classes-eq0.true, c.classes.ensures.0))

pub returns-then-uses_settled : goal.returns-then-uses_settled
returns-then-uses_settled c =
    let bs = c.args.card.now in
    let nodes : (i : ℕ) → i < node_count bs → NodeSettled c.args.card.now c.args.names.now c.args.table.now i =
    elim c.if-nodes_settled.branch [
      | then-nodes_settled w ↦ c.nodes_settled.ensures.0 w.if-nodes_settled.true
      | else-nodes_settled w ↦ let e : false ≡ true = cc in absurd (false≢true e)
    ] in
    let uses : (i : ℕ) (b : Bool) → Origin bs i b → UseSettled c.args.card.now c.args.names.now c.args.table.now i b =
    elim c.if-nodes_settled.branch [
      | then-nodes_settled w ↦ w.uses_settled.ensures.0 (sym w.value-is ∙ c.if-uses_settled.true)
      | else-nodes_settled w ↦ let e : false ≡ true = cc in absurd (false≢true e)
    ] in (
      λ q. record {
        some = pos _ (λ z. c.if-classes-eq0.false (c.classes.ensures.0 ∙ z));
        nodes = nodes;
        uses = uses;
        masked = c.masks_settled.ensures.0 q;
      },
      λ f. c.masks_settled.ensures.1 f.masked,
    )

pub returns-else-uses_settled : goal.returns-else-uses_settled
returns-else-uses_settled c = (
  λ q. absurd (false≢true (sym c.if-uses_settled.false ∙ q)),
  λ f.
      let no : ⊥ =
      elim c.if-nodes_settled.branch [
        | then-nodes_settled w ↦ unmet w.uses_settled.ensures (sym w.value-is ∙ c.if-uses_settled.false) f.uses
        | else-nodes_settled w ↦ unmet c.nodes_settled.ensures w.if-nodes_settled.false f.nodes
      ] in
      absurd no,
)
