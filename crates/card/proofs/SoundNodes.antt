-- Laws of a sound card's nodes: what a node's kind says of its parts, its height and its readings.
use Prim.Native.Nat.{ℕ, ◌+◌, ◌*◌, ◌<◌, ◌≤◌, max}
use native.Mathlib.Omega.{arith}
use mathlib.Core.Path.{◌≡◌, sym, ◌∙◌, ap, ap₂}
use mathlib.Core.Logic.{◌⊎◌}
use mathlib.Core.Bool.{Bool, true, false, ◌&&◌, ◌||◌}
use mathlib.Core.List.{List}
use lib.ListN.{length}
use lib.Dec.{leb, ltb, eqb}
use borrow.Author.Tests.{lt-ltb, ltb-true, leb-true, not-false}
use Rattle.calculus.specs.Formula.{Fits, tensor, with, oplus, lolliᴳ, lolliᴰ, withᴰ, usable}
use Rattle.card.specs.Format.{node_count, rule_count, line_count, goal_node, kind_at, left_at, right_at, rule_start, rule_node, line_start}
use Rattle.card.specs.Format.{line_node, line_byte, grow}
use Rattle.card.specs.Fault.{Sound, is_goal, is_clause, goal_part, clause_part, well_built, height_step, height_at, node_fault, goal_fault}
use Rattle.card.specs.Fault.{rule_fault, line_good, line_fault}
use Rattle.card.specs.Decode.{goal_at, clause_of}
use Rattle.card.proofs.FrontChecked.{both_left, both_right}
use Rattle.card.proofs.FaultsInOrder.{not_applied}
use Rattle.card.proofs.TablesGrow.{grow_at}
use Rattle.card.proofs.KindsByRow.{goal_kinds, clause_kinds}
use Rattle.card.proofs.CardChecked.{sound_front, sound_node, sound_goal, sound_rule, sound_line}
use Rattle.card.proofs.NodesBuilt.{parts_lower, height_two, built_1, built_4, built_5, built_6, built_7, built_8, built_10}
use Rattle.card.proofs.NodesDecoded.{reads_name, reads_rest, reads_both, reads_either, reads_one_of, reads_lend, reads_recipe, reads_menu}

-- Parts

module _ (bs : List ℕ) (n i : ℕ) where
  -- a part that reads as a goal: it is lower, and of a goal's kinds
  pub goal_lower : goal_part bs n i ≡ true → i < n
  unfolding goal_part
  goal_lower e = ltb-true _ _ (both_left (ltb i n) (is_goal (kind_at bs i)) e)

  pub goal_kind : goal_part bs n i ≡ true → (1 ≤ kind_at bs i) × ((kind_at bs i ≤ 6) ⊎ ((kind_at bs i ≡ 8) ⊎ (kind_at bs i ≡ 9)))
  unfolding goal_part
  goal_kind e = goal_kinds (kind_at bs i) (both_right (ltb i n) (is_goal (kind_at bs i)) e)

  -- a part that reads as a clause: it is lower, and of a clause's kinds
  pub clause_lower : clause_part bs n i ≡ true → i < n
  unfolding clause_part
  clause_lower e = ltb-true _ _ (both_left (ltb i n) (is_clause (kind_at bs i)) e)

  pub clause_kind : clause_part bs n i ≡ true
      → (kind_at bs i ≡ 1) ⊎ ((kind_at bs i ≡ 2) ⊎ ((kind_at bs i ≡ 7) ⊎ (kind_at bs i ≡ 10)))
  unfolding clause_part
  clause_kind e = clause_kinds (kind_at bs i) (both_right (ltb i n) (is_clause (kind_at bs i)) e)

  -- and the same of every higher node
  pub goal_above : (m : ℕ) → n ≤ m → goal_part bs n i ≡ true → goal_part bs m i ≡ true
  unfolding goal_part
  goal_above m h e = ap₂ ◌&&◌ (lt-ltb i m (omega (arith, goal_lower e))) (both_right (ltb i n) (is_goal (kind_at bs i)) e)

  pub clause_above : (m : ℕ) → n ≤ m → clause_part bs n i ≡ true → clause_part bs m i ≡ true
  unfolding clause_part
  clause_above m h e = ap₂ ◌&&◌ (lt-ltb i m (omega (arith, clause_lower e))) (both_right (ltb i n) (is_clause (kind_at bs i)) e)

-- Roots

module _ {bs : List ℕ} (s : Sound bs) where
  -- the bytes of the rules and of the lines stand on the card
  pub rule_here : (i : ℕ) → i < rule_count bs → rule_start bs i + 2 ≤ length bs
  rule_here i h = let f = sound_front bs s in omega arith

  pub line_here : (i : ℕ) → i < line_count bs → line_start bs i + 3 ≤ length bs
  line_here i h = let f = sound_front bs s in omega arith

  pub sound_root : goal_part bs (node_count bs) (goal_node bs) ≡ true
  unfolding goal_fault
  sound_root = not-false _ (not_applied _ _ _ (sound_goal bs s))

  pub sound_rule_node : (i : ℕ) → i < rule_count bs → clause_part bs (node_count bs) (rule_node bs i) ≡ true
  unfolding rule_fault
  sound_rule_node i h = not-false _ (not_applied _ _ _ (sound_rule bs s i h))

  pub sound_line_node : (i : ℕ) → i < line_count bs → clause_part bs (node_count bs) (line_node bs i) ≡ true
  unfolding line_fault line_good
  sound_line_node i h =
      both_left (clause_part bs (node_count bs) (line_node bs i)) (leb (line_byte bs i) 1)
      (not-false _ (not_applied _ _ _ (sound_line bs s i h)))

-- Heights

module _ (bs : List ℕ) (i : ℕ) where
  pub height_pos : 1 ≤ height_at bs i
  unfolding height_at height_step
  height_pos = omega arith

  -- the height of a well built node with two parts
  pub height_of_parts : well_built bs i ≡ true → 3 < kind_at bs i → (kind_at bs i ≡ 9 → ⊥)
      → height_at bs i ≡ max (height_at bs (left_at bs i)) (height_at bs (right_at bs i)) + 1
  unfolding height_at
  height_of_parts e k n =
      let p = parts_lower bs i e k n in
      height_two bs i e k n (grow (height_step bs) i)
      ∙ ap₂ (λ a b. max a b + 1) (grow_at (height_step bs) i (left_at bs i) 0 p.0) (grow_at (height_step bs) i (right_at bs i) 0 p.1)

-- A node of a sound card

two : (p q : Bool) → (p && q) ≡ true → (p ≡ true) × (q ≡ true)
two p q e = (both_left p q e, both_right p q e)

module _ {bs : List ℕ} (s : Sound bs) (i : ℕ) (h : i < node_count bs) where
  -- the node's bytes stand on the card
  pub node_here : 16 + 5 * i ≤ length bs
  node_here = let f = sound_front bs s in omega arith

  passed : (well_built bs i && leb (height_at bs i) 8) ≡ true
  unfolding node_fault
  passed = not-false _ (not_applied _ _ _ (sound_node bs s i h))

  pub sound_built : well_built bs i ≡ true
  sound_built = both_left (well_built bs i) (leb (height_at bs i) 8) passed

  pub height_low : height_at bs i ≤ 8
  height_low = leb-true _ _ (both_right (well_built bs i) (leb (height_at bs i) 8) passed)

  pub parts_below : 3 < kind_at bs i → (kind_at bs i ≡ 9 → ⊥) → (left_at bs i < i) × (right_at bs i < i)
  parts_below = parts_lower bs i sound_built

  pub height_parts : 3 < kind_at bs i → (kind_at bs i ≡ 9 → ⊥)
      → (height_at bs (left_at bs i) < height_at bs i) × (height_at bs (right_at bs i) < height_at bs i)
  height_parts k n =
      let e = height_of_parts bs i sound_built k n in
      (omega arith, omega arith)

  -- what each kind asks of its fields
  pub name_low : kind_at bs i ≡ 1 → left_at bs i ≤ 999
  name_low k = leb-true _ _ (both_left (leb (left_at bs i) 999) (eqb (right_at bs i) 0) (sym (built_1 bs i k) ∙ sound_built))

  pub both_parts : kind_at bs i ≡ 4 → (goal_part bs i (left_at bs i) ≡ true) × (goal_part bs i (right_at bs i) ≡ true)
  both_parts k = two _ _ (sym (built_4 bs i k) ∙ sound_built)

  pub either_parts : kind_at bs i ≡ 5 → (goal_part bs i (left_at bs i) ≡ true) × (goal_part bs i (right_at bs i) ≡ true)
  either_parts k = two _ _ (sym (built_5 bs i k) ∙ sound_built)

  pub lend_parts : kind_at bs i ≡ 6 → (clause_part bs i (left_at bs i) ≡ true) × (goal_part bs i (right_at bs i) ≡ true)
  lend_parts k = two _ _ (sym (built_6 bs i k) ∙ sound_built)

  pub recipe_parts : kind_at bs i ≡ 7 → (goal_part bs i (left_at bs i) ≡ true) × (clause_part bs i (right_at bs i) ≡ true)
  recipe_parts k = two _ _ (sym (built_7 bs i k) ∙ sound_built)

  pub one_of_parts : kind_at bs i ≡ 8 → (goal_part bs i (left_at bs i) ≡ true) × (goal_part bs i (right_at bs i) ≡ true)
  one_of_parts k = two _ _ (sym (built_8 bs i k) ∙ sound_built)

  pub menu_parts : kind_at bs i ≡ 10 → (clause_part bs i (left_at bs i) ≡ true) × (clause_part bs i (right_at bs i) ≡ true)
  menu_parts k = two _ _ (sym (built_10 bs i k) ∙ sound_built)

  -- what a node with parts reads as
  pub sound_both : kind_at bs i ≡ 4 → goal_at bs i ≡ tensor (goal_at bs (left_at bs i)) (goal_at bs (right_at bs i))
  sound_both k = let p = parts_below (omega arith) (λ e. omega (arith, e, k)) in reads_both bs i p.0 p.1 k

  pub sound_either : kind_at bs i ≡ 5 → goal_at bs i ≡ with (goal_at bs (left_at bs i)) (goal_at bs (right_at bs i))
  sound_either k = let p = parts_below (omega arith) (λ e. omega (arith, e, k)) in reads_either bs i p.0 p.1 k

  pub sound_lend : kind_at bs i ≡ 6 → goal_at bs i ≡ lolliᴳ (clause_of bs (left_at bs i)) (goal_at bs (right_at bs i))
  sound_lend k = let p = parts_below (omega arith) (λ e. omega (arith, e, k)) in reads_lend bs i p.0 p.1 k

  pub sound_recipe : kind_at bs i ≡ 7 → clause_of bs i ≡ lolliᴰ (goal_at bs (left_at bs i)) (clause_of bs (right_at bs i))
  sound_recipe k = let p = parts_below (omega arith) (λ e. omega (arith, e, k)) in reads_recipe bs i p.0 p.1 k

  pub sound_one_of : kind_at bs i ≡ 8 → goal_at bs i ≡ oplus (goal_at bs (left_at bs i)) (goal_at bs (right_at bs i))
  sound_one_of k = let p = parts_below (omega arith) (λ e. omega (arith, e, k)) in reads_one_of bs i p.0 p.1 k

  pub sound_menu : kind_at bs i ≡ 10 → clause_of bs i ≡ withᴰ (clause_of bs (left_at bs i)) (clause_of bs (right_at bs i))
  sound_menu k = let p = parts_below (omega arith) (λ e. omega (arith, e, k)) in reads_menu bs i p.0 p.1 k

  -- which names the clause at the node can be used for
  pub usable_recipe : kind_at bs i ≡ 7 → (fits : Fits) (a : ℕ) → usable fits a (clause_of bs i) ≡ usable fits a (clause_of bs (right_at bs i))
  unfolding usable
  usable_recipe k fits a = ap (usable fits a) (sound_recipe k)

  pub usable_menu : kind_at bs i ≡ 10 → (fits : Fits) (a : ℕ)
      → usable fits a (clause_of bs i) ≡ (usable fits a (clause_of bs (left_at bs i)) || usable fits a (clause_of bs (right_at bs i)))
  unfolding usable
  usable_menu k fits a = ap (usable fits a) (sound_menu k)

module _ (bs : List ℕ) (i : ℕ) where
  pub usable_name : kind_at bs i ≡ 1 → (fits : Fits) (a : ℕ) → usable fits a (clause_of bs i) ≡ fits (left_at bs i) a
  unfolding usable
  usable_name k fits a = ap (usable fits a) (reads_name bs i k).1

  pub usable_rest : kind_at bs i ≡ 2 → (fits : Fits) (a : ℕ) → usable fits a (clause_of bs i) ≡ false
  unfolding usable
  usable_rest k fits a = ap (usable fits a) (reads_rest bs i k).1
