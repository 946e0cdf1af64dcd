-- Each change of a summary keeps the lines surely used: none, those of either part, those of both sides, and one more.
use Prim.Native.Nat.{ℕ, ◌+◌, ◌-◌, ◌≤◌, ◌<◌}
use native.Mathlib.Omega.{arith}
use mathlib.Core.Path.{◌≡◌, refl, sym, ◌∙◌, ap, ap₂}
use mathlib.Core.Bool.{Bool, true, false, ◌&&◌, ◌||◌}
use lib.Dec.{eqb, ltb}
use borrow.Author.Tests.{ne_eqb, ltb-true, ltb-false}
use Rattle.calculus.specs.Items.{Items, ∅, ◌∪◌, ◌∩◌, only}
use Rattle.lines.specs.declared.LineWord.{LineWord}
use Rattle.lines.specs.Inner.Word.{line_in, empty_l, add_l, meet_l, join_l}
use Rattle.lines.proofs.LineLaws.{line_empty, line_add, add_beyond, line_meet, line_join}
use Rattle.scope.specs.Inner.Sets.{LinesOf}
use Rattle.scope.proofs.SetsAreItems.{same_line}

pub none_sure : (P : ℕ) → LinesOf P empty_l ∅
unfolding ∅
none_sure P = record { line = λ x h. line_empty x }

module _ {P : ℕ} {s t : LineWord} {U W : Items} (p : LinesOf P s U) (q : LinesOf P t W) where
  pub tensor_sure : LinesOf P (join_l s t) (U ∪ W)
  unfolding ◌∪◌
  tensor_sure = record { line = λ x h. line_join s t x ∙ ap₂ ◌||◌ (p.line x h) (q.line x h) }

  pub with_sure : LinesOf P (meet_l s t) (U ∩ W)
  unfolding ◌∩◌
  with_sure = record { line = λ x h. line_meet s t x ∙ ap₂ ◌&&◌ (p.line x h) (q.line x h) }

pub using_sure : {P e : ℕ} {s : LineWord} {U : Items} → P ≤ e → LinesOf P s U → LinesOf P (add_l s (e - P)) (only e ∪ U)
unfolding ◌∪◌ only
using_sure {P} {e} {s} {U} low p = record { line = λ x h. at x h (ltb (e - P) 64) refl }
  where
    at : (x : ℕ) → x < 64 → (b : Bool) → ltb (e - P) 64 ≡ b → line_in (add_l s (e - P)) x ≡ (eqb (P + x) e || U (P + x))
    at x h true k =
        line_add s (e - P) x (ltb-true (e - P) 64 k) ∙ ap₂ ◌||◌ (same_line P (e - P) e x (omega arith)) (p.line x h)
    at x h false k =
        let z = ltb-false (e - P) 64 k in
        ap (λ (w : LineWord). line_in w x) (add_beyond s (e - P) (omega (arith, z))) ∙ p.line x h
        ∙ ap (λ (b : Bool). b || U (P + x)) (sym (ne_eqb (P + x) e (λ q. omega (arith, q, z))))
