-- The sum is that of the first i tasks.
use Rattle.std.proofs.Common.{◌≡◌, sym, ◌∙◌, ap, bit_and, get_or, arith}
use native.Mathlib.Numerals.{add-one}
use lib.Bits.{and_le_r}
use Rattle.dead.specs.Inner.Rows.{mix, key_sum, key_row}
use Rattle.dead.proofs.row_of.Goals as goal

pub loop-i-init : goal.loop-i-init
unfolding key_sum
loop-i-init c =
    c.mixed-sum.ensures
    ∙ ap (λ x. mix x c.args.b.seen.bits) (c.mixed-2.ensures ∙ ap (λ x. mix x c.args.b.lax.low) c.mixed.ensures)

pub loop-i-preserved : goal.loop-i-preserved
unfolding key_sum
loop-i-preserved c =
    c.mixed-sum-in-loop-i.ensures
    ∙ ap (λ x. mix x (get_or c.args.agenda.now c.loop-i.i 0)) c.loop-i.invariant
    ∙ sym (ap (key_sum c.args.agenda.now c.args.b) (add-one c.loop-i.i))

pub returns : goal.returns
unfolding key_row
returns c =
    let e : c.loop-i.i ≡ c.args.b.len = omega arith in
    (ap (λ x. bit_and x 1023) (c.loop-i.invariant ∙ ap (key_sum c.args.agenda.now c.args.b) e), omega (arith, and_le_r c.loop-i.sum 1023))
