-- `locate` meets its contract: each check that has passed leaves those after it, and behind the last a card holds the line.
use Rattle.std.proofs.Common.{◌≤◌, ◌<◌, refl, sym, ◌∙◌, ap, leb-false, arith}
use Rattle.std.proofs.lemmas.Result.{err_from_is_err_and}
use Rattle.card.specs.Format.{line_count}
use Rattle.card.specs.Verdict.{where_of}
use Rattle.card.proofs.FaultsInOrder.{not_applied}
use Rattle.benched.specs.Benched.{neither, first, second, owner_of, told_bench}
use Rattle.benched.proofs.BenchChecked.{about_sound, at_stop, passed, onward, after_fine}
use Rattle.bench.specs.Bench.{held, source_fault, told_source}
use Rattle.bench.proofs.SourceFound.{source_stopped, source_held, holder_first, holder_second}
use Rattle.bench.proofs.locate.Goals as goal

pub returns-in_err-first : goal.returns-in_err-first
unfolding source_fault told_bench
returns-in_err-first c =
    let p = err_from_is_err_and c.from_residual.result c.from_residual.ensures.1 in
    rw (p.1, p.2) (source_stopped _ _ _ _ (sym (at_stop _ _ c.in_err-first.ensures ∙ c.in_err-first.ensures)))

pub returns-in_err-about : goal.returns-in_err-about
unfolding source_fault owner_of where_of
returns-in_err-about c =
    let cards = c.in_ok-first.ensures in
    let p = err_from_is_err_and c.from_residual-in_err-about.result c.from_residual-in_err-about.ensures.1 in
    rw (p.1, p.2)
    (source_stopped _ _ _ _
    (onward cards.1
    (rw (c.refuse.ensures, c.lines-t.ensures.0, c.lines.ensures.0, cards.0.0, cards.0.1) at c.in_err-about.ensures)))

pub line_start-requires-else-n-t : goal.line_start-requires-else-n-t
unfolding owner_of where_of
line_start-requires-else-n-t c =
    let below = leb-false _ _ (not_applied _ 16 _ (about_sound neither _ (passed refl (rw c.refuse.ensures at c.in_ok-about.ensures)))) in
    omega (arith, below, c.lines.ensures.1)

pub returns-then-n-t : goal.returns-then-n-t
unfolding source_fault told_source owner_of where_of
returns-then-n-t c =
    let cards = c.in_ok-first.ensures in
    let t = rw cards.0.0 at c.lines-t.ensures.0 in
    let i = c.args.i in
    let sixteen = passed refl (rw (c.refuse.ensures, t, c.lines.ensures.0, cards.0.1) at c.in_ok-about.ensures) in
    let low : i < line_count c.args.first.now = omega (arith, c.if-n-t.true, t) in
    source_held _ _ i (after_fine _ _ cards.1 ∙ sixteen)
    (ap (held first) (rw cards.0.0 at c.line_start.ensures) ∙ holder_first _ _ i low)

pub returns-else-n-t : goal.returns-else-n-t
unfolding source_fault told_source owner_of where_of
returns-else-n-t c =
    let cards = c.in_ok-first.ensures in
    let t = rw cards.0.0 at c.lines-t.ensures.0 in
    let i = c.args.i in
    let sixteen = passed refl (rw (c.refuse.ensures, t, c.lines.ensures.0, cards.0.1) at c.in_ok-about.ensures) in
    let past : line_count c.args.first.now ≤ i = omega (arith, c.if-n-t.false, t) in
    source_held _ _ i (after_fine _ _ cards.1 ∙ sixteen)
    (ap (held second) (rw (t, cards.0.1) at c.line_start-else-n-t.ensures) ∙ holder_second _ _ i past)
