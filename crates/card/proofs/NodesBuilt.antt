-- Laws of a well built node: what its kind asks of it, where its parts stand, and its height.
use Prim.Native.Nat.{ℕ, ◌+◌, ◌<◌, max}
use native.Mathlib.Omega.{arith}
use mathlib.Core.Path.{◌≡◌, refl, ap₂}
use mathlib.Core.Bool.{true, ◌&&◌}
use mathlib.Core.List.{List}
use lib.ListN.{get_or}
use lib.Dec.{leb, ltb, eqb}
use borrow.Author.Tests.{ltb-true}
use Rattle.card.specs.Format.{kind_at, left_at, right_at}
use Rattle.card.specs.declared.kinds.Field.{Field}
use Rattle.card.specs.declared.kinds.Field.TheVariants.{Unused, Name, GoalPart, ClausePart, Unknown}
use Rattle.card.specs.Kinds.{Kind, kinds, kind_of}
use Rattle.card.specs.Fault.{is_goal, is_clause, goal_part, clause_part, fits_field, well_built, part_height, height_step}
use Rattle.card.specs.Inner.Checks.{PartBelow}
use Rattle.card.proofs.FrontChecked.{both_left, both_right}
use Rattle.card.proofs.KindsByRow.{part_only, two_parts}

module _ (bs : List ℕ) (i : ℕ) where
  -- what each kind asks of its node
  pub built_1 : kind_at bs i ≡ 1 → well_built bs i ≡ (leb (left_at bs i) 999 && eqb (right_at bs i) 0)
  unfolding well_built fits_field kind_of kinds
  built_1 h = rw h refl

  pub built_2 : kind_at bs i ≡ 2 → well_built bs i ≡ (eqb (left_at bs i) 0 && eqb (right_at bs i) 0)
  unfolding well_built fits_field kind_of kinds
  built_2 h = rw h refl

  pub built_3 : kind_at bs i ≡ 3 → well_built bs i ≡ (eqb (left_at bs i) 0 && eqb (right_at bs i) 0)
  unfolding well_built fits_field kind_of kinds
  built_3 h = rw h refl

  pub built_4 : kind_at bs i ≡ 4 → well_built bs i ≡ (goal_part bs i (left_at bs i) && goal_part bs i (right_at bs i))
  unfolding well_built fits_field kind_of kinds
  built_4 h = rw h refl

  pub built_5 : kind_at bs i ≡ 5 → well_built bs i ≡ (goal_part bs i (left_at bs i) && goal_part bs i (right_at bs i))
  unfolding well_built fits_field kind_of kinds
  built_5 h = rw h refl

  pub built_6 : kind_at bs i ≡ 6 → well_built bs i ≡ (clause_part bs i (left_at bs i) && goal_part bs i (right_at bs i))
  unfolding well_built fits_field kind_of kinds
  built_6 h = rw h refl

  pub built_7 : kind_at bs i ≡ 7 → well_built bs i ≡ (goal_part bs i (left_at bs i) && clause_part bs i (right_at bs i))
  unfolding well_built fits_field kind_of kinds
  built_7 h = rw h refl

  pub built_8 : kind_at bs i ≡ 8 → well_built bs i ≡ (goal_part bs i (left_at bs i) && goal_part bs i (right_at bs i))
  unfolding well_built fits_field kind_of kinds
  built_8 h = rw h refl

  pub built_10 : kind_at bs i ≡ 10 → well_built bs i ≡ (clause_part bs i (left_at bs i) && clause_part bs i (right_at bs i))
  unfolding well_built fits_field kind_of kinds
  built_10 h = rw h refl

  goal_lower : (part : ℕ) → goal_part bs i part ≡ true → part < i
  unfolding goal_part
  goal_lower part e = ltb-true _ _ (both_left (ltb part i) (is_goal (kind_at bs part)) e)

  clause_lower : (part : ℕ) → clause_part bs i part ≡ true → part < i
  unfolding clause_part
  clause_lower part e = ltb-true _ _ (both_left (ltb part i) (is_clause (kind_at bs part)) e)

  -- "A part's node number is lower than that of the node holding it"
  part_below : (f : Field) (v : ℕ) → fits_field bs i f v ≡ true → PartBelow i f v
  unfolding fits_field PartBelow
  part_below Unused v e = tt
  part_below Name v e = tt
  part_below GoalPart v e = goal_lower v e
  part_below ClausePart v e = clause_lower v e
  part_below Unknown v e = tt

  -- what a field holds in which nothing fits but a part
  part_held : (f : Field) (v : ℕ) → part_only f ≡ true → fits_field bs i f v ≡ true → (v < i) × ((t : List ℕ) → part_height t f v ≡ get_or t v 0)
  unfolding fits_field part_height part_only
  part_held Unused v p e = absurd (let n : ◌≡◌ {A = ℕ} 0 1 = cc in omega arith)
  part_held Name v p e = absurd (let n : ◌≡◌ {A = ℕ} 0 1 = cc in omega arith)
  part_held GoalPart v p e = (goal_lower v e, λ t. refl)
  part_held ClausePart v p e = (clause_lower v e, λ t. refl)
  part_held Unknown v p e = absurd (let n : ◌≡◌ {A = ℕ} 0 1 = cc in omega arith)

  module _ (e : well_built bs i ≡ true) where
    abbrev row : Kind
    row = kind_of (kind_at bs i)

    -- the fields of a well built node are as its kind asks
    fits_left : fits_field bs i row.left (left_at bs i) ≡ true
    unfolding well_built
    fits_left = both_left _ (fits_field bs i row.right (right_at bs i)) e

    fits_right : fits_field bs i row.right (right_at bs i) ≡ true
    unfolding well_built
    fits_right = both_right (fits_field bs i row.left (left_at bs i)) _ e

    pub left_below : PartBelow i row.left (left_at bs i)
    left_below = part_below row.left (left_at bs i) fits_left

    pub right_below : PartBelow i row.right (right_at bs i)
    right_below = part_below row.right (right_at bs i) fits_right

    pub parts_lower : 3 < kind_at bs i → (kind_at bs i ≡ 9 → ⊥) → (left_at bs i < i) × (right_at bs i < i)
    parts_lower h n =
        let p = two_parts (kind_at bs i) h n in
        ((part_held row.left (left_at bs i) p.0 fits_left).0, (part_held row.right (right_at bs i) p.1 fits_right).0)

    -- the height of a node with two parts, from the table before it
    pub height_two : 3 < kind_at bs i → (kind_at bs i ≡ 9 → ⊥) → (t : List ℕ)
        → height_step bs t i ≡ max (get_or t (left_at bs i) 0) (get_or t (right_at bs i) 0) + 1
    unfolding height_step
    height_two h n t =
        let p = two_parts (kind_at bs i) h n in
        ap₂ (λ a b. max a b + 1) ((part_held row.left (left_at bs i) p.0 fits_left).1 t)
        ((part_held row.right (right_at bs i) p.1 fits_right).1 t)
