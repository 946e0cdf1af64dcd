-- `front_check` meets its contract: each of 1 to 5 that has passed leaves those after it.
use Rattle.std.proofs.Common.{◌≡◌, ◌≤◌, List, ℕ, length, ltb, refl, arith, ltb-false}
use Rattle.std.proofs.lemmas.Result.{err_from_is_err_and}
use Rattle.card.specs.Verdict.{sound, card, refuse, where_of}
use Rattle.card.specs.Fault.{front_fault}
use Rattle.card.proofs.FaultsInOrder.{not_applied}
use Rattle.card.proofs.CardChecked.{refused, passed, onward}
use Rattle.front.proofs.front_check.Goals as goal

-- where 1 has passed there are 11 bytes
long : (bs : List ℕ) → refuse (ltb (length bs) 11) 1 card ≡ sound → 11 ≤ length bs
long bs e = ltb-false _ _ (not_applied _ _ _ e)

pub returns-in_err-refuse : goal.returns-in_err-refuse
unfolding front_fault where_of
returns-in_err-refuse c =
    let p = err_from_is_err_and c.from_residual.result c.from_residual.ensures.1 in
    rw (p.1, p.2) (refused _ refl c.in_err-refuse.ensures)

pub word-requires : goal.word-requires
unfolding where_of
word-requires c = omega (arith, long _ (passed _ _ refl c.in_ok-refuse.ensures))

pub returns-in_err-refuse-2 : goal.returns-in_err-refuse-2
unfolding front_fault where_of
returns-in_err-refuse-2 c =
    let p = err_from_is_err_and c.from_residual-in_err-refuse-2.result c.from_residual-in_err-refuse-2.ensures.1 in
    rw (p.1, p.2)
    (onward (passed _ _ refl c.in_ok-refuse.ensures) (refused _ refl (rw c.word.ensures.0 at c.in_err-refuse-2.ensures)))

pub byte-requires : goal.byte-requires
unfolding where_of
byte-requires c = omega (arith, long _ (passed _ _ refl c.in_ok-refuse.ensures))

pub returns-in_err-refuse-3 : goal.returns-in_err-refuse-3
unfolding front_fault where_of
returns-in_err-refuse-3 c =
    let p = err_from_is_err_and c.from_residual-in_err-refuse-3.result c.from_residual-in_err-refuse-3.ensures.1 in
    rw (p.1, p.2)
    (onward (passed _ _ refl c.in_ok-refuse.ensures)
    (onward (passed _ _ refl (rw c.word.ensures.0 at c.in_ok-refuse-2.ensures))
    (refused _ refl (rw c.byte.ensures.0 at c.in_err-refuse-3.ensures))))

pub in_range-requires : goal.in_range-requires
unfolding where_of
in_range-requires c = long _ (passed _ _ refl c.in_ok-refuse.ensures)

pub returns-in_err-refuse-4 : goal.returns-in_err-refuse-4
unfolding front_fault where_of
returns-in_err-refuse-4 c =
    let p = err_from_is_err_and c.from_residual-in_err-refuse-4.result c.from_residual-in_err-refuse-4.ensures.1 in
    rw (p.1, p.2)
    (onward (passed _ _ refl c.in_ok-refuse.ensures)
    (onward (passed _ _ refl (rw c.word.ensures.0 at c.in_ok-refuse-2.ensures))
    (onward (passed _ _ refl (rw c.byte.ensures.0 at c.in_ok-refuse-3.ensures))
    (refused _ refl (rw c.in_range.ensures at c.in_err-refuse-4.ensures)))))

pub length_asked-requires : goal.length_asked-requires
unfolding where_of
length_asked-requires c = long _ (passed _ _ refl c.in_ok-refuse.ensures)

pub returns : goal.returns
unfolding front_fault where_of
returns c =
    onward (passed _ _ refl c.in_ok-refuse.ensures)
    (onward (passed _ _ refl (rw c.word.ensures.0 at c.in_ok-refuse-2.ensures))
    (onward (passed _ _ refl (rw c.byte.ensures.0 at c.in_ok-refuse-3.ensures))
    (onward (passed _ _ refl (rw c.in_range.ensures at c.in_ok-refuse-4.ensures))
    (rw c.length_asked.ensures at c.refuse-5.ensures))))
