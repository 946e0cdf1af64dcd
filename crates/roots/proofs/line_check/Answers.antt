-- `line_check` meets its contract: 9 is told of a line whose test fails.
use Rattle.std.proofs.Common.{◌≡◌, true, false, sym, ◌∙◌}
use Rattle.card.specs.Format.{node_count, line_node}
use Rattle.card.specs.Verdict.{where_of}
use Rattle.card.specs.Fault.{clause_part, line_fault, line_good}
use Rattle.roots.proofs.line_check.Goals as goal
use Rattle.roots.proofs.line_check.Goals.{then-clause_part, else-clause_part}

pub returns : goal.returns
unfolding line_fault where_of line_good
returns c =
    let bs = c.args.card.now in
    let whole = rw (c.word-n.ensures.0, c.line_node.ensures.0) at c.clause_part.ensures in
    elim c.if-clause_part.branch [
      | then-clause_part w ↦
          let e : clause_part bs (node_count bs) (line_node bs c.args.i) ≡ true = sym whole ∙ w.if-clause_part.true in
          rw e (rw (w.good-is, w.line_byte.ensures.0) at c.refuse.ensures)
      | else-clause_part w ↦
          let e : clause_part bs (node_count bs) (line_node bs c.args.i) ≡ false = sym whole ∙ w.if-clause_part.false in
          rw e (rw (w.good-is, w.if-clause_part.false) at c.refuse.ensures)
    ]
