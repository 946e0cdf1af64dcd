-- Which entries are eligible after some steps goes by the lines that stand in them alone.
use Prim.Native.Nat.{ℕ, zero, suc, ◌+◌, ◌-◌, ◌<◌}
use native.Mathlib.Omega.{arith}
use mathlib.Core.Path.{◌≡◌, refl, sym, ◌∙◌, ap, ap₂}
use mathlib.Core.Bool.{Bool, true, false, not, ◌&&◌, ◌||◌}
use mathlib.Core.List.{List, [], ◌∷◌, ◌++◌}
use lib.Dec.{leb, ltb}
use borrow.Author.Tests.{leb-true, ltb-true}
use Rattle.calculus.specs.Steps.{stands}
use Rattle.card.specs.Format.{rule_count, line_count}
use Rattle.lines.specs.declared.LineWord.{LineWord}
use Rattle.agenda.specs.Inner.Order.{Chosen, none, step}
use Rattle.entries.specs.Inner.Twins.{waits, every, is_line, met, eligible}
use Rattle.entries.specs.Inner.Masks.{Seen}
use Rattle.calculus.proofs.StepsBounded.{stands_parts}

-- the same lines of the card stand in both lists
pub record SameLines (bs done done' : List ℕ) : Type 0 where
  pub line : (x : ℕ) → x < line_count bs → stands (rule_count bs + x) done ≡ stands (rule_count bs + x) done'

pub seen_lines : {bs : List ℕ} {seen : LineWord} {done done' : List ℕ} → Seen bs seen done → Seen bs seen done' → SameLines bs done done'
seen_lines s t = record { line = λ x h. sym (s.line x h) ∙ t.line x h }

lines_more : {bs done done' : List ℕ} (e : ℕ) → SameLines bs done done' → SameLines bs (done ++ (e ∷ [])) (done' ++ (e ∷ []))
lines_more {bs} {done} {done'} e s = record {
  line = λ x h.
      let n = rule_count bs + x in
      stands_parts n done (e ∷ []) ∙ ap (λ (b : Bool). b || stands n (e ∷ [])) (s.line x h) ∙ sym (stands_parts n done' (e ∷ []));
}

every_same : (p q : ℕ → Bool) (n : ℕ) → ((x : ℕ) → x < n → p x ≡ q x) → every p n ≡ every q n
unfolding every
every_same p q zero h = refl
every_same p q (suc n) h = ap₂ ◌&&◌ (h n (omega arith)) (every_same p q n (λ x l. h x (omega arith)))

module _ {bs done done' : List ℕ} (s : SameLines bs done done') where
  eligible_same : (e : ℕ) → eligible bs done e ≡ eligible bs done' e
  unfolding eligible is_line met
  eligible_same e = go (leb (rule_count bs) e) refl (ltb e (rule_count bs + line_count bs)) refl
    where
      i : ℕ
      i = e - rule_count bs

      go : (a : Bool) → leb (rule_count bs) e ≡ a → (b : Bool) → ltb e (rule_count bs + line_count bs) ≡ b
          → ◌≡◌ {A = Bool} (elim (a && b) [ true ↦ every (met bs done i) i | false ↦ true ])
          (elim (a && b) [ true ↦ every (met bs done' i) i | false ↦ true ])
      go true p true q =
          let h = leb-true (rule_count bs) e p in
          let k = ltb-true e (rule_count bs + line_count bs) q in
          every_same (met bs done i) (met bs done' i) i
          (λ x l. ap (λ (b : Bool). not (waits bs i x) || b) (s.line x (omega arith)))
      go true p false q = refl
      go false p b q = refl

-- THEOREM. The same lists go on eligibly after steps in which the same lines stand.
pub chosen_same : {bs done done' m : List ℕ} → SameLines bs done done' → Chosen (eligible bs) done m → Chosen (eligible bs) done' m
chosen_same s none = none
chosen_same s (step {e = e} h k) = step (sym (eligible_same s e) ∙ h) (chosen_same (lines_more e s) k)
