-- THEOREM. What the words of the classes and the lent clauses give is the number of items of the class.
use Prim.Native.Nat.{ℕ, ◌+◌, ◌-◌, ◌<◌}
use native.Mathlib.Omega.{arith}
use mathlib.Core.Path.{◌≡◌, refl, sym, ap, ap₂, ◌∙◌}
use mathlib.Core.Bool.{Bool, true, false, ◌&&◌}
use mathlib.Core.List.{List}
use lib.ListN.{get_or}
use borrow.Author.Tests.{lt-leb, lt-ltb, le-ltb}
use Rattle.calculus.specs.Items.{Items}
use Rattle.calculus.specs.Derivation.{Scope, size, clause_at}
use Rattle.lines.specs.declared.LineSet.{LineSet}
use Rattle.lines.specs.Set.{bit_at, member}
use Rattle.card.specs.Format.{rule_count, line_count, node_count, line_node}
use Rattle.card.specs.Fault.{Sound, clause_part}
use Rattle.card.specs.Decode.{clause_of, scope_of}
use Rattle.card.proofs.CardChecked.{sound_front}
use Rattle.card.proofs.SoundNodes.{sound_line_node}
use Rattle.scope.specs.Inner.Sets.{items}
use Rattle.scope.specs.Inner.Tables.{table_scope, TableEntered}
use Rattle.scope.proofs.SetsAreItems.{items_at_lem}
use Rattle.scope.proofs.TablesAreScopes.{scope_size, scope_clause, scope_linear}
use Rattle.lines.specs.Count.{number}
use Rattle.lines.proofs.CountLaws.{number_same, number_none, number_add}
use Rattle.bounds.specs.Inner.Count.{of_class, count}
use Rattle.bounds.specs.Inner.Bound.{Scoped}
use Rattle.bounds.specs.Inner.Table.{takes_in, class_at, classes, in_class, OfCard, Settled, class_of}
use Rattle.bounds.specs.Inner.Doom.{ScopeOfCard, line_stock, lent_stock, stock}
use Rattle.bounds.proofs.NodesBounded.{head_is}

-- the scope of the tables is of the card's family
pub stock_scoped : {bs nodes : List ℕ} {linear : List Bool} {n : ℕ} → ScopeOfCard bs nodes linear n
    → Scoped (OfCard bs) (scope_of bs).fits (table_scope bs nodes linear n)
unfolding table_scope scope_of
stock_scoped {bs} {nodes} {linear} {n} k = record {
  same_fits = refl;
  kin = λ e h.
      let l : e < n = omega (arith, scope_size bs nodes linear n) in
      rw (scope_clause bs nodes linear n e l, scope_linear bs nodes linear n e l) (k.kin e l);
}

none_right : (b : Bool) → (b && false) ≡ false
none_right true = refl
none_right false = refl

module _ {bs names t masks nodes : List ℕ} {linear : List Bool} {n : ℕ} (s : Sound bs) (z : Settled bs names t masks)
    (en : TableEntered bs nodes linear n) (k : ScopeOfCard bs nodes linear n) (c : ℕ) (q : c < classes names) (set : LineSet) where
  abbrev P : ℕ
  P = rule_count bs

  abbrev T : ℕ
  T = line_count bs

  abbrev es : Scope
  es = table_scope bs nodes linear n

  abbrev I : Items
  I = of_class es (class_of names c) (items P set)

  below : (e : ℕ) → e < P → I e ≡ false
  unfolding of_class items
  below e h = rw (lt-leb P e h) refl

  clause_of_lem : (i : ℕ) → clause_part bs (node_count bs) i ≡ true → class_of names c (clause_of bs i) ≡ in_class names i c
  unfolding class_of in_class
  clause_of_lem i p = ap (takes_in (class_at names c)) (sym (head_is s z i p))

  at_line : (i : ℕ) → i < T → I (P + i) ≡ (member set i && bit_at (get_or masks c 0) i)
  unfolding of_class
  at_line i h =
      ap₂ ◌&&◌ (items_at_lem P set (P + i) (omega arith) ∙ ap (member set) (omega arith))
      (ap (class_of names c) (scope_clause bs nodes linear n (P + i) (omega (arith, k.whole)) ∙ k.lines i h)
      ∙ clause_of_lem (line_node bs i) (sound_line_node s i h)
      ∙ sym ((z.masked c q).mask i (omega (arith, (sound_front bs s).lines))
      ∙ ap (λ b. b && in_class names (line_node bs i) c) (lt-ltb i T h)))

  past_lines : (i : ℕ) → T + i < 64 → (member set (T + i) && bit_at (get_or masks c 0) (T + i)) ≡ false
  past_lines i h =
      ap (λ b. member set (T + i) && b)
      ((z.masked c q).mask (T + i) h ∙ ap (λ b. b && in_class names (line_node bs (T + i)) c) (le-ltb (T + i) T (omega arith)))
      ∙ none_right (member set (T + i))

  at_lent : (i : ℕ) → i < n - (P + T) → I (P + (T + i)) ≡ (member set (T + i) && in_class names (get_or nodes (P + T + i) 0) c)
  unfolding of_class
  at_lent i h =
      let e : P + (T + i) ≡ P + T + i = omega arith in
      ap₂ ◌&&◌ (items_at_lem P set (P + (T + i)) (omega arith) ∙ ap (member set) (omega arith))
      (ap (λ x. class_of names c (clause_at es x)) e
      ∙ ap (class_of names c) (scope_clause bs nodes linear n (P + T + i) (omega arith))
      ∙ clause_of_lem (get_or nodes (P + T + i) 0) (en.clauses (P + T + i) (omega arith)))

  pub stock_counts : count es (class_of names c) (items P set) ≡ stock bs names masks nodes n set c
  unfolding count stock line_stock lent_stock
  stock_counts =
      let m = n - (P + T) in
      let J : Items = λ i. member set i && bit_at (get_or masks c 0) i in
      let w = k.whole in
      let f = (sound_front bs s).lines in
      let a : number I (size es) ≡ number I (P + (T + m)) = ap (number I) (scope_size bs nodes linear n ∙ omega arith) in
      let b = number_add I P (T + m) in
      let b0 = number_none I P below in
      let d = number_add (λ i. I (P + i)) T m in
      let d0 = number_same (λ i. I (P + i)) J T at_line in
      let d1 = number_same (λ i. I (P + (T + i))) (λ i. member set (T + i) && in_class names (get_or nodes (P + T + i) 0) c) m at_lent in
      let g : number J 64 ≡ number J (T + (64 - T)) = ap (number J) (omega arith) in
      let g0 = number_add J T (64 - T) in
      let g1 = number_none (λ i. J (T + i)) (64 - T) (λ i h. past_lines i (omega arith)) in
      omega arith
