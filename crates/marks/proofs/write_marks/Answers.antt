-- `write_marks` meets its contract: the marks of the lines before the present one are written.
use Rattle.std.proofs.Common.{◌≡◌, ◌<◌, ◌∙◌, refl, add-one, arith}
use Rattle.card.specs.Format.{rule_count, line_count, listing}
use Rattle.card.specs.Sheet.{mark_of, marks_of}
use Rattle.scope.specs.Inner.Sets.{word_items}
use Rattle.marks.specs.Inner.Used.{Gathers}
use Rattle.marks.proofs.LinesGathered.{mark_by_lem}
use Rattle.marks.proofs.LinesMarked.{listing_more}
use Rattle.marks.proofs.write_marks.Goals as goal

pub loop-i-init : goal.loop-i-init
unfolding listing
loop-i-init c = refl

pub loop-i-preserved : goal.loop-i-preserved
loop-i-preserved c =
    let s = c.args in
    let i = c.loop-i.i in
    let below : c.loop-i.i < line_count s.card.now = omega (arith, c.byte-i-end.ensures.0) in
    let gathered : Gathers s.list.now (rule_count s.card.now) c.listed-used.result = rw c.byte.ensures.0 at c.listed-used.ensures in
    let more = listing_more (mark_of s.card.now (word_items s.card.now s.sure) s.list.now) i s.marks.now (omega (arith, below)) in
    let true_mark = c.mark.ensures ∙ mark_by_lem s.card.now gathered s.sure i (omega (arith, below, c.requires.framed.lines)) in
    rw (c.loop-i.invariant, true_mark, add-one) more

pub returns : goal.returns
unfolding marks_of
returns c =
    let e : c.loop-i.i ≡ line_count c.args.card.now = omega (arith, c.byte-i-end.ensures.0) in
    rw e at c.loop-i.invariant
