-- `nodes_check` meets its contract: the nodes before the present one have passed, and their heights stand in the table.
use Rattle.std.proofs.Common.{◌≡◌, ◌<◌, length, refl, sym, ◌∙◌, length-set, add-one, arith}
use Rattle.std.proofs.lemmas.Result.{err_from_is_err_and}
use Rattle.card.specs.Format.{node_count, grow}
use Rattle.card.specs.Verdict.{first_of, told}
use Rattle.card.proofs.FaultsInOrder.{first_stops, first_goes}
use Rattle.nodes.proofs.NodesChecked.{table_more}
use Rattle.nodes.proofs.nodes_check.Goals as goal

pub loop-i-init : goal.loop-i-init
unfolding first_of grow
loop-i-init c = (refl, refl, refl)

pub node_check-requires : goal.node_check-requires
node_check-requires c =
    record {
      here = omega (arith, c.loop-i-test.true, c.word-i-end.ensures.0, c.requires.whole);
      few = omega (arith, c.loop-i-test.true, c.word-i-end.ensures.0, c.requires.few);
      heights = c.loop-i.invariant.2;
    }

pub returns-in_err-heights : goal.returns-in_err-heights
unfolding told
returns-in_err-heights c =
    let p = err_from_is_err_and c.from_residual.result c.from_residual.ensures.1 in
    let below : c.loop-i.i < node_count c.args.card.now = omega (arith, c.loop-i-test.true, c.word-i-end.ensures.0) in
    rw (p.1, p.2) (sym (first_stops _ _ _ c.loop-i.invariant.0 c.in_err-heights.ensures below))

pub loop-i-preserved : goal.loop-i-preserved
loop-i-preserved c =
    let bs = c.args.card.now in
    let i = c.loop-i.i in
    let few : i < length c.loop-i.heights =
    omega (arith, c.loop-i-test.true, c.word-i-end.ensures.0, c.requires.few, c.loop-i.invariant.1) in
    let table = table_more bs i c.loop-i.heights few c.loop-i.invariant.2 in
    let h = c.in_ok-heights.ensures in (
      rw add-one (first_goes i _ c.loop-i.invariant.0 h.0),
      length-set c.loop-i.heights i _ ∙ c.loop-i.invariant.1,
      rw (h.1, add-one) table,
    )

pub returns : goal.returns
unfolding told
returns c =
    let e : c.loop-i.i ≡ node_count c.args.card.now = omega (arith, c.loop-i-test.false, c.loop-i.auto.i-end, c.word-i-end.ensures.0) in
    sym (rw e at c.loop-i.invariant.0)
