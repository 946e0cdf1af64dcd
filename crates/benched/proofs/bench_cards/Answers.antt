-- `bench_cards` meets its contract: each check that has passed leaves those after it.
use Rattle.std.proofs.Common.{refl, sym, ◌∙◌}
use Rattle.std.proofs.lemmas.Result.{err_from_is_err_and}
use Rattle.benched.specs.Benched.{first, second, bench_fault, owner_of, told_bench}
use Rattle.benched.proofs.BenchChecked.{about_sound, stops, passed, onward, after_fine}
use Rattle.benched.proofs.bench_cards.Goals as goal

pub returns-in_err-about : goal.returns-in_err-about
unfolding bench_fault owner_of told_bench
returns-in_err-about c =
    let p = err_from_is_err_and c.from_residual.result c.from_residual.ensures.1 in
    rw (p.1, p.2) (sym (stops _ {r = c.in_err-about.field-0.0} refl (rw c.check.ensures at c.in_err-about.ensures)))

pub returns-in_err-about-2 : goal.returns-in_err-about-2
unfolding bench_fault owner_of told_bench
returns-in_err-about-2 c =
    let p = err_from_is_err_and c.from_residual-in_err-about-2.result c.from_residual-in_err-about-2.ensures.1 in
    rw (p.1, p.2)
    (sym (onward (passed refl (rw c.check.ensures at c.in_ok-about.ensures))
    (stops _ {r = c.in_err-about-2.field-0.0} refl (rw c.check-2.ensures at c.in_err-about-2.ensures))))

pub new-a-requires : goal.new-a-requires
unfolding owner_of
new-a-requires c = record { faultless = about_sound first _ (passed refl (rw c.check.ensures at c.in_ok-about.ensures)) }

pub new-b-requires : goal.new-b-requires
unfolding owner_of
new-b-requires c = record { faultless = about_sound second _ (passed refl (rw c.check-2.ensures at c.in_ok-about-2.ensures)) }

pub returns-in_err-about-3 : goal.returns-in_err-about-3
unfolding bench_fault owner_of told_bench
returns-in_err-about-3 c =
    let p = err_from_is_err_and c.from_residual-in_err-about-3.result c.from_residual-in_err-about-3.ensures.1 in
    rw (p.1, p.2)
    (sym (onward (passed refl (rw c.check.ensures at c.in_ok-about.ensures))
    (onward (passed refl (rw c.check-2.ensures at c.in_ok-about-2.ensures))
    (rw (c.limits_check.ensures, c.new-a.ensures, c.new-b.ensures) at c.in_err-about-3.ensures))))

pub returns : goal.returns
unfolding bench_fault owner_of told_bench
returns c =
    let fits = passed refl (rw (c.limits_check.ensures, c.new-a.ensures, c.new-b.ensures) at c.in_ok-about-3.ensures) in
    let whole = after_fine _ _ (passed refl (rw c.check.ensures at c.in_ok-about.ensures))
    ∙ after_fine _ _ (passed refl (rw c.check-2.ensures at c.in_ok-about-2.ensures)) ∙ fits in
    ((c.new-a.ensures, c.new-b.ensures), whole)
