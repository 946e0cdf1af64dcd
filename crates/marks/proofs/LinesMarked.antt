-- Laws of marks: what a buffer holds after each mark written, a true mark.
use Prim.Native.Nat.{ℕ, suc, ◌<◌, ◌≤◌}
use native.Mathlib.Omega.{arith}
use mathlib.Core.Path.{◌≡◌, refl, sym, ◌∙◌, ap}
use mathlib.Core.List.{List, ◌++◌}
use lib.ListN.{length, get_or, drop, set, length-append, length-drop}
use lib.Seq.{drop-cons, append_snoc, set_at}
use borrow.Author.Tests.{eq-eqb}
use Rattle.calculus.specs.Items.{Items}
use Rattle.card.specs.Format.{byte_at, listing}
use Rattle.card.specs.Verdict.{sound}
use Rattle.card.specs.Sheet.{mark_of}
use Rattle.card.proofs.TablesGrow.{length_listing}
use Rattle.card.proofs.FaultsInOrder.{refuse_false}
use Rattle.marks.specs.Marks.{mark_fault}

-- one more value of a listing is stored behind those before it
pub listing_more : (f : ℕ → ℕ) (i : ℕ) (d : List ℕ) → i < length d
    → set (listing i f ++ drop i d) i (f i) ≡ listing (suc i) f ++ drop (suc i) d
unfolding listing
listing_more f i d h =
    ap (λ (t : List ℕ). set (listing i f ++ t) i (f i)) (drop-cons d i 0 h)
    ∙ set_at (listing i f) (get_or d i 0) (drop (suc i) d) (f i) i (length_listing f i)
    ∙ sym (append_snoc (listing i f) (f i) (drop (suc i) d))

pub listing_kept : (f : ℕ → ℕ) (i : ℕ) (d : List ℕ) → i ≤ length d → length (listing i f ++ drop i d) ≡ length d
listing_kept f i d h = simp (length-append, length-drop, length_listing) (omega arith)

-- 14 does not apply at a mark that is the true one
pub mark_right : (bs : List ℕ) (U : Items) (l marks : List ℕ) (i : ℕ) → byte_at marks i ≡ mark_of bs U l i → mark_fault bs U l marks i ≡ sound
unfolding mark_fault
mark_right bs U l marks i e = refuse_false _ _ _ (rw (eq-eqb _ _ e) refl)
