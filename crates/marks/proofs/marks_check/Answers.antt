-- `marks_check` meets its contract: the marks before the present one have passed.
use Rattle.std.proofs.Common.{◌≡◌, ◌<◌, ◌∙◌, refl, sym, arith}
use Rattle.std.proofs.lemmas.Result.{err_from_is_err_and}
use Rattle.card.specs.Format.{rule_count, line_count}
use Rattle.card.specs.Verdict.{first_of, told, where_of}
use Rattle.card.proofs.CardChecked.{refused_at, passed_at}
use Rattle.marks.specs.Inner.Used.{Gathers}
use Rattle.marks.proofs.LinesGathered.{fault_by_lem}
use Rattle.marks.proofs.marks_check.Goals as goal

pub loop-i-init : goal.loop-i-init
unfolding first_of
loop-i-init c = refl

pub loop-i-preserved : goal.loop-i-preserved
unfolding where_of
loop-i-preserved c =
    let s = c.args in
    let gathered : Gathers s.list.now (rule_count s.card.now) c.listed-used.result = rw c.byte.ensures.0 at c.listed-used.ensures in
    let same = fault_by_lem s.card.now gathered s.sure c.loop-i.i (omega (arith, c.byte-i-end.ensures.0, c.requires.framed.lines)) s.marks.now in
    passed_at _ _ c.loop-i.invariant refl (rw c.mark-asked.ensures at c.in_ok-refuse.ensures ∙ same)

pub returns-in_err-refuse : goal.returns-in_err-refuse
unfolding where_of
returns-in_err-refuse c =
    let s = c.args in
    let p = err_from_is_err_and c.from_residual.result c.from_residual.ensures.1 in
    let below : c.loop-i.i < line_count s.card.now = omega (arith, c.byte-i-end.ensures.0) in
    let gathered : Gathers s.list.now (rule_count s.card.now) c.listed-used.result = rw c.byte.ensures.0 at c.listed-used.ensures in
    let same = fault_by_lem s.card.now gathered s.sure c.loop-i.i (omega (arith, c.byte-i-end.ensures.0, c.requires.framed.lines)) s.marks.now in
    rw (p.1, p.2) (refused_at _ _ c.loop-i.invariant _ below refl (rw c.mark-asked.ensures at c.in_err-refuse.ensures ∙ same))

pub returns : goal.returns
unfolding told
returns c =
    let e : c.loop-i.i ≡ line_count c.args.card.now = omega (arith, c.byte-i-end.ensures.0) in
    sym (rw e at c.loop-i.invariant)
