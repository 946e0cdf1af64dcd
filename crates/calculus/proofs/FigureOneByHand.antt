-- Small cases of Figure 1, straight from the definitions: each falls if a rule is changed (see must-fail/).
use Prim.Native.Nat.{ℕ, zero, suc}
use mathlib.Core.Path.{◌≡◌, refl}
use mathlib.Core.Bool.{Bool, true, false, not, ◌&&◌, true≢false, false≢true}
use mathlib.Core.List.{List, [], ◌∷◌}
use lib.Dec.{eqb}
use Rattle.calculus.specs.Formula.{Goal, atomᴳ, oneᴳ, zeroᴳ, tensor, oplus, lolliᴳ, atomᴰ, lolliᴰ, withᴰ, matched, residual, usable}
use Rattle.calculus.specs.Items.{Items, ∅, ◌∪◌, ◌∩◌, ◌∖◌, only, Empty}
use Rattle.calculus.specs.Derivation.{Scope, size, extend, lend, entry_at, clause_at, linear_at, residual_at, Derives, res_1, res_⊤, res_⊗, res_&, res_⊕₁, res_⊕₂}
use Rattle.calculus.specs.Derivation.{res_⊸, res_atm_int, res_atm_lin}
use Rattle.calculus.specs.Steps.{steps, stands, surely, nesting, Turn, Need, plain, row, left, choice, under, turn_choice, turn_side, chosen, needs}

-- "the recipe with left a and right (b gives c) meets b, then a"
nearest_first : residual eqb 3 (lolliᴰ (atomᴳ 1) (lolliᴰ (atomᴳ 2) (atomᴰ 3))) ≡ tensor (tensor oneᴳ (atomᴳ 2)) (atomᴳ 1)
unfolding residual matched
nearest_first = refl

-- the tray of one line, name 1
abbrev one_line : Scope
one_line = record { entries = record { clause = atomᴰ 1; linear = true } ∷ []; fits = eqb }

minus_self : (b : Bool) → (b && not b) ≡ false
minus_self true = refl
minus_self false = refl

-- "a line or lent clause is gone": from the one line its name is derived, and nothing is left over
line_is_gone : Derives one_line (only 0) (atomᴳ 1)
unfolding entry_at clause_at linear_at residual_at residual matched only ◌∖◌
line_is_gone = res_atm_lin 0 refl refl (from_none _ (λ i. minus_self (eqb i 0)))
  where
    from_none : (I : Items) → ((i : ℕ) → I i ≡ false) → Derives one_line I oneᴳ
    from_none I h = res_1 (record { vacant = h })

no_zero : {es : Scope} {I : Items} → Derives es I zeroᴳ → ⊥
no_zero d = elim d [ ]

uses_line : {I : Items} → Derives one_line I (atomᴳ 1) → I 0 ≡ true
unfolding entry_at clause_at linear_at residual_at residual
uses_line (res_atm_int zero n d) = absurd (true≢false n)
uses_line (res_atm_int (suc e) n d) = absurd (no_zero d)
uses_line (res_atm_lin zero n h d) = h
uses_line (res_atm_lin (suc e) n h d) = absurd (no_zero d)

both_true : (a b : Bool) → a ≡ true → b ≡ true → (a && b) ≡ false → ⊥
both_true true true p q r = true≢false r
both_true true false p q r = false≢true q
both_true false b p q r = false≢true p

-- "the items are divided in two, one share for each part": no two needs share the one line
line_serves_once : {I : Items} → Derives one_line I (tensor (atomᴳ 1) (atomᴳ 1)) → ⊥
line_serves_once (res_⊗ {J} {K} s c d) = both_true (J 0) (K 0) (uses_line c) (uses_line d) (s.apart 0)

-- `b gives ((c gives a) menu a)`, of names 1, 2 and 0: one of the sides, then b
menu_residual : residual eqb 0 (lolliᴰ (atomᴳ 1) (withᴰ (lolliᴰ (atomᴳ 2) (atomᴰ 0)) (atomᴰ 0)))
    ≡ tensor (oplus (tensor oneᴳ (atomᴳ 2)) oneᴳ) (atomᴳ 1)
unfolding residual matched
menu_residual = refl

-- "A menu's entry may be used at a name when either side could"
either_side : usable eqb 1 (withᴰ (atomᴰ 0) (atomᴰ 1)) ≡ true
unfolding usable
either_side = refl

module _ (es : Scope) (I : Items) (G H : Goal) (e : Empty I) where
  -- "outer menus first": the right side of the left side
  abbrev two_choices : Derives es I (oplus (oplus G oneᴳ) H)
  two_choices = res_⊕₁ (res_⊕₂ (res_1 e))

  outer_first : steps two_choices ≡ 254 ∷ 255 ∷ []
  unfolding steps
  outer_first = refl

  -- "it adds no nesting"
  not_nested : nesting two_choices ≡ 0
  unfolding nesting
  not_nested = refl

  abbrev need : List Turn → ℕ → Need
  need p c = record { place = p; entry = c }

  -- "a place tells the side taken at each 'one of' above it"
  places : needs plain two_choices ≡ need [] 254 ∷ need (left ∷ []) 255 ∷ []
  unfolding needs under turn_choice turn_side chosen
  places = refl

  -- "choices at one name are told apart by their order"
  by_order : needs (row 0) two_choices ≡ need (choice 0 ∷ []) 254 ∷ need (choice 1 ∷ []) 255 ∷ []
  unfolding needs under turn_choice turn_side chosen
  by_order = refl

-- "So must a with goal 'a either way rest'": the line stands in the list and is not surely used; used on both sides it is
one_side : surely (res_& line_is_gone res_⊤) 0 ≡ false
unfolding surely ◌∩◌ ◌∪◌ ∅ only line_is_gone
one_side = refl

in_list : stands 0 (steps (res_& line_is_gone res_⊤)) ≡ true
unfolding stands steps line_is_gone
in_list = refl

both_sides : surely (res_& line_is_gone line_is_gone) 0 ≡ true
unfolding surely ◌∩◌ ◌∪◌ ∅ only line_is_gone
both_sides = refl

-- "lend or a choice what the goal taken does": `lend a to a` from no items, and the line on either side of a choice
abbrev no_entries : Scope
no_entries = record { entries = []; fits = eqb }

lent_line : Derives no_entries ∅ (lolliᴳ (atomᴰ 1) (atomᴳ 1))
unfolding size extend lend ∅ ◌∪◌ only
lent_line = res_⊸ refl line_is_gone

through_lend : surely lent_line 0 ≡ true
unfolding surely ◌∪◌ only lent_line line_is_gone
through_lend = refl

left_side : Derives one_line (only 0) (oplus (atomᴳ 1) oneᴳ)
left_side = res_⊕₁ line_is_gone

right_side : Derives one_line (only 0) (oplus oneᴳ (atomᴳ 1))
right_side = res_⊕₂ line_is_gone

through_choice : (surely left_side 0 && surely right_side 0) ≡ true
unfolding surely ◌∪◌ only left_side right_side line_is_gone
through_choice = refl
