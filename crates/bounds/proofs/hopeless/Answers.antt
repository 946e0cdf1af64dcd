use Rattle.bounds.proofs.CodesRowed.{rowed, filed}
use Rattle.bounds.proofs.hopeless.Goals as goal

pub least_sum-requires : goal.least_sum-requires
least_sum-requires c = record {
  cells = (c.requires.table_held c.if-ready.true).0.table_held;
  few = c.requires.tasks.0;
  rowed = rowed c.requires.sound c.requires.tasks.1;
}

pub unbalanced-requires-clause-stores : goal.unbalanced-requires-clause-stores
unbalanced-requires-clause-stores c =
    let h = c.requires.table_held c.if-ready.true in (
      record {
        cells = h.0.names_held;
        masks_room = h.1;
        filed = filed c.args.nodes.now c.args.count c.requires.sound c.requires.clauses;
      },
      record {
        cells = h.0.table_held;
        few = c.requires.tasks.0;
        rowed = rowed c.requires.sound c.requires.tasks.1;
      },
    )
