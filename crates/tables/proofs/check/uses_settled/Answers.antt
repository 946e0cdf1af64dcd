-- Every clause that may come into scope is one of a rule, a line or a lend.
use Rattle.std.proofs.Common.{◌≡◌, ℕ, ◌<◌, List, Bool, true, false, refl, sym, ◌∙◌, subst}
use Rattle.std.proofs.lemmas.Bool.{false≢true}
use Rattle.card.specs.Format.{rule_count, line_count, node_count, kind_at, left_at, rule_node, line_node}
use Rattle.bounds.specs.Inner.Table.{Origin, rule, line, lent, UseSettled}
use Rattle.node_bounds.proofs.ChecksDecide.{unmet}
use Rattle.tables.proofs.check.uses_settled.Goals as goal
use Rattle.tables.proofs.check.uses_settled.Goals.{then-rules_settled, else-rules_settled}

uses_of : {bs names t : List ℕ} → ((k : ℕ) → k < rule_count bs → UseSettled bs names t (rule_node bs k) false)
    → ((k : ℕ) → k < line_count bs → UseSettled bs names t (line_node bs k) true)
    → ((j : ℕ) → j < node_count bs → kind_at bs j ≡ 6 → UseSettled bs names t (left_at bs j) true)
    → (i : ℕ) (b : Bool) → Origin bs i b → UseSettled bs names t i b
uses_of {bs} {names} {t} p q r i b (rule k j h e) = subst (λ d. UseSettled bs names t d false) (sym e) (p k h)
uses_of {bs} {names} {t} p q r i b (line k j h e) = subst (λ d. UseSettled bs names t d true) (sym e) (q k h)
uses_of {bs} {names} {t} p q r i b (lent n j h k e) = subst (λ d. UseSettled bs names t d true) (sym e) (r n h k)

pub returns-then-lines_settled : goal.returns-then-lines_settled
returns-then-lines_settled c =
    let bs = c.args.card.now in
    let rules : (k : ℕ) → k < rule_count bs → UseSettled c.args.card.now c.args.names.now c.args.table.now (rule_node bs k) false =
    elim c.if-rules_settled.branch [
      | then-rules_settled w ↦ c.rules_settled.ensures.0 w.if-rules_settled.true
      | else-rules_settled w ↦ let e : false ≡ true = cc in absurd (false≢true e)
    ] in
    let lines : (k : ℕ) → k < line_count bs → UseSettled c.args.card.now c.args.names.now c.args.table.now (line_node bs k) true =
    elim c.if-rules_settled.branch [
      | then-rules_settled w ↦ w.lines_settled.ensures.0 (sym w.value-is ∙ c.if-lines_settled.true)
      | else-rules_settled w ↦ let e : false ≡ true = cc in absurd (false≢true e)
    ] in
    (λ q. uses_of rules lines (c.lends_settled.ensures.0 q), λ f. c.lends_settled.ensures.1 (λ j h e. f _ _ (lent j _ h e refl)))

pub returns-else-lines_settled : goal.returns-else-lines_settled
returns-else-lines_settled c = (
  λ q. absurd (false≢true (sym c.if-lines_settled.false ∙ q)),
  λ f.
      let no : ⊥ =
      elim c.if-rules_settled.branch [
        | then-rules_settled w ↦
            unmet w.lines_settled.ensures (sym w.value-is ∙ c.if-lines_settled.false) (λ k h. f _ _ (line k _ h refl))
        | else-rules_settled w ↦ unmet c.rules_settled.ensures w.if-rules_settled.false (λ k h. f _ _ (rule k _ h refl))
      ] in
      absurd no,
)
