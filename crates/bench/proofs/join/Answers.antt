-- `join` meets its contract: each check that has passed leaves those after it, and behind the last the joined card is written.
use Rattle.std.proofs.Common.{refl, sym, ◌∙◌, ltb-false}
use Rattle.std.proofs.lemmas.Result.{err_from_is_err_and}
use Rattle.card.specs.Verdict.{sheet, where_of}
use Rattle.card.proofs.FaultsInOrder.{not_applied}
use Rattle.benched.specs.Benched.{neither, owner_of, told_bench}
use Rattle.benched.proofs.BenchChecked.{about_sound, at_stop, passed, onward, after_fine}
use Rattle.bench.specs.Bench.{join_fault, told_join}
use Rattle.bench.proofs.CardsJoined.{join_stopped, join_written}
use Rattle.bench.proofs.join.Goals as goal

pub returns-in_err-first : goal.returns-in_err-first
unfolding join_fault told_bench
returns-in_err-first c =
    let p = err_from_is_err_and c.from_residual.result c.from_residual.ensures.1 in
    rw (p.1, p.2) (join_stopped _ _ _ _ (sym (at_stop _ _ c.in_err-first.ensures ∙ c.in_err-first.ensures)))

pub returns-in_err-about : goal.returns-in_err-about
unfolding join_fault owner_of where_of
returns-in_err-about c =
    let cards = c.in_ok-first.ensures in
    let p = err_from_is_err_and c.from_residual-in_err-about.result c.from_residual-in_err-about.ensures.1 in
    rw (p.1, p.2)
    (join_stopped _ _ _ _
    (onward cards.1
    (rw (c.refuse.ensures, c.joined_length-long.ensures.0, cards.0.0, cards.0.1) at c.in_err-about.ensures)))

pub put_joined-requires : goal.put_joined-requires
unfolding owner_of where_of
put_joined-requires c =
    let ten = passed refl (rw (c.refuse.ensures, c.joined_length-long.ensures.0) at c.in_ok-about.ensures) in
    record { room = ltb-false _ _ (not_applied _ 10 sheet (about_sound neither _ ten)) }

pub returns : goal.returns
unfolding told_join join_fault owner_of where_of
returns c =
    let cards = c.in_ok-first.ensures in
    let ten = passed refl (rw (c.refuse.ensures, c.joined_length-long.ensures.0, cards.0.0, cards.0.1) at c.in_ok-about.ensures) in
    join_written _ _ _ (after_fine _ _ cards.1 ∙ ten) (rw (cards.0.0, cards.0.1) at c.joined_length-long.ensures.0)
    (rw (cards.0.0, cards.0.1) at c.put_joined.ensures)
