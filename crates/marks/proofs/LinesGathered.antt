-- Laws of the lines gathered: no step, one step more, and the marks by the set.
use Prim.Native.Nat.{ℕ, ◌+◌, ◌-◌, ◌<◌}
use native.Mathlib.Omega.{arith}
use mathlib.Core.Path.{◌≡◌, sym, ◌∙◌, ap}
use mathlib.Core.Bool.{Bool, ◌||◌, or-false, or_comm}
use mathlib.Core.List.{List, [], ◌∷◌, ◌++◌}
use lib.Dec.{eqb}
use borrow.Author.Tests.{ne_eqb}
use Rattle.std.proofs.lemmas.Bool.{cases_lt}
use mathlib.Core.Logic.{inl, inr}
use Rattle.calculus.specs.Steps.{stands}
use Rattle.calculus.proofs.StepsBounded.{stands_parts}
use Rattle.card.specs.Format.{rule_count}
use Rattle.card.specs.Sheet.{mark_of}
use Rattle.lines.specs.declared.LineWord.{LineWord}
use Rattle.lines.specs.Inner.Word.{line_in, empty_l, add_l}
use Rattle.lines.proofs.LineLaws.{line_empty, line_add, add_beyond}
use Rattle.scope.specs.Inner.Sets.{word_items}
use Rattle.scope.proofs.SetsAreItems.{same_line}
use Rattle.marks.specs.Marks.{mark_fault}
use Rattle.marks.specs.Inner.Used.{Gathers, mark_by, fault_by}

pub gathers_none : (rules : ℕ) → Gathers [] rules empty_l
unfolding stands
gathers_none rules = record { line = λ x h. line_empty x }

stands_more : (x e : ℕ) (l : List ℕ) → stands x (l ++ (e ∷ [])) ≡ (stands x l || eqb x e)
unfolding stands
stands_more x e l = stands_parts x l (e ∷ []) ∙ ap (λ (b : Bool). stands x l || b) (or-false (eqb x e))

module _ {l : List ℕ} {rules : ℕ} {s : LineWord} (g : Gathers l rules s) (e : ℕ) where
  -- the set gains the line that the list gains
  gathers_more : {t : LineWord} → ((x : ℕ) → x < 64 → line_in t x ≡ (eqb (rules + x) e || line_in s x)) → Gathers (l ++ (e ∷ [])) rules t
  gathers_more f =
      record {
        line = λ x h.
            f x h ∙ ap (λ (b : Bool). eqb (rules + x) e || b) (g.line x h) ∙ or_comm (eqb (rules + x) e) (stands (rules + x) l)
            ∙ sym (stands_more (rules + x) e l);
      }

  -- a step that is no line of a card
  gathers_beside : ((x : ℕ) → x < 64 → rules + x ≡ e → ⊥) → Gathers (l ++ (e ∷ [])) rules s
  gathers_beside d = gathers_more (λ x h. ap (λ (b : Bool). b || line_in s x) (sym (ne_eqb (rules + x) e (d x h))))

  pub gathers_rule : e < rules → Gathers (l ++ (e ∷ [])) rules s
  gathers_rule k = gathers_beside (λ x h p. omega arith)

  -- a step behind the rules has item i, where the word has a place for it
  pub gathers_item : (i : ℕ) → e ≡ rules + i → Gathers (l ++ (e ∷ [])) rules (add_l s i)
  gathers_item i q =
      elim (cases_lt i 64) [
        | inl near ↦ gathers_more (λ x h. line_add s i x near ∙ ap (λ (b : Bool). b || line_in s x) (same_line rules i e x q))
        | inr far ↦ rw (add_beyond s i far) (gathers_beside (λ x h p. omega arith))
      ]

module _ (bs : List ℕ) {l : List ℕ} {s : LineWord} (g : Gathers l (rule_count bs) s) (sure : LineWord) (i : ℕ) (h : i < 64) where
  pub mark_by_lem : mark_by bs s sure i ≡ mark_of bs (word_items bs sure) l i
  unfolding mark_of word_items
  mark_by_lem = let e : rule_count bs + i - rule_count bs ≡ i = omega arith in rw (g.line i h, e)

  pub fault_by_lem : (marks : List ℕ) → fault_by bs s sure marks i ≡ mark_fault bs (word_items bs sure) l marks i
  unfolding mark_fault
  fault_by_lem marks = rw mark_by_lem
