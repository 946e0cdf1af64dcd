-- Laws of two tests of which both hold, and of a front to which none of 1 to 5 applies.
use Prim.Native.Nat.{ℕ}
use mathlib.Core.Path.{◌≡◌, refl}
use mathlib.Core.Bool.{Bool, true, false, ◌&&◌}
use mathlib.Core.List.{List}
use lib.ListN.{length}
use lib.Dec.{leb, eqb}
use borrow.Author.Tests.{leb-true, eqb-true, not-false}
use Rattle.card.specs.Format.{rule_count, line_count, node_count, depth_limit, card_length}
use Rattle.card.specs.Verdict.{sound}
use Rattle.card.specs.Fault.{in_range, front_fault}
use Rattle.card.specs.Inner.Checks.{Framed}
use Rattle.card.proofs.FaultsInOrder.{not_applied, sound_left, sound_right}

pub both_left : (a b : Bool) → (a && b) ≡ true → a ≡ true
both_left true b e = refl
both_left false b e = e

pub both_right : (a b : Bool) → (a && b) ≡ true → b ≡ true
both_right true b e = e
both_right false true e = refl
both_right false false e = e

-- what holds where the front has passed
pub framed : (bs : List ℕ) → front_fault bs ≡ sound → Framed bs
unfolding front_fault in_range
framed bs e =
    let e₂ = sound_right _ _ e in
    let e₃ = sound_right _ _ e₂ in
    let e₄ = sound_right _ _ e₃ in
    let ranged : in_range bs ≡ true = not-false _ (not_applied _ _ _ (sound_left _ _ e₄)) in
    let long : eqb (card_length bs) (length bs) ≡ true = not-false _ (not_applied _ _ _ (sound_right _ _ e₄)) in
    let nodes : Bool = leb (node_count bs) 512 && leb (depth_limit bs) 16 in
    let counts : Bool = leb 1 (node_count bs) && nodes in
    let r₂ = both_right (leb (rule_count bs) 64) (leb (line_count bs) 64 && counts) ranged in
    let r₃ = both_right (leb (line_count bs) 64) counts r₂ in
    let r₄ = both_right (leb 1 (node_count bs)) nodes r₃ in
    record {
      whole = eqb-true _ _ long;
      few = leb-true _ _ (both_left (leb (node_count bs) 512) (leb (depth_limit bs) 16) r₄);
      rules = leb-true _ _ (both_left (leb (rule_count bs) 64) (leb (line_count bs) 64 && counts) ranged);
      lines = leb-true _ _ (both_left (leb (line_count bs) 64) counts r₂);
      depth = leb-true _ _ (both_right (leb (node_count bs) 512) (leb (depth_limit bs) 16) r₄);
    }
