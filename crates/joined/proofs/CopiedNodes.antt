-- What a sound card's nodes, rules and lines are on a card that holds them: nodes are shifted, and what they read as is not.
use Prim.Native.Nat.{ℕ, zero, suc, ◌+◌, ◌<◌, ◌≤◌, max}
use native.Mathlib.Omega.{arith}
use mathlib.Core.Path.{◌≡◌, refl, sym, ◌∙◌, ap, ap₂}
use mathlib.Core.Bool.{true, false, ◌&&◌}
use mathlib.Core.List.{List}
use lib.ListN.{get_or}
use lib.Dec.{ltb}
use borrow.Author.Tests.{lt-ltb}
use Rattle.card.specs.Format.{node_count, rule_count, line_count, kind_at, left_at, right_at, rule_node, line_node, grow}
use Rattle.card.specs.declared.kinds.Field.{Field}
use Rattle.card.specs.declared.kinds.Field.TheVariants.{Unused, Name, GoalPart, ClausePart, Unknown}
use Rattle.card.specs.Kinds.{Kind, kind_of}
use Rattle.card.specs.Fault.{Sound, is_goal, is_clause, goal_part, clause_part, fits_field, well_built, part_height, height_step, height_at}
use Rattle.card.specs.Decode.{NodeReading, no_node_reading, held, read_by, read_step, read_at, goal_at, clause_of, rule_entry, line_entry}
use Rattle.card.specs.Inner.Checks.{PartBelow}
use Rattle.card.proofs.FrontChecked.{both_left, both_right}
use Rattle.card.proofs.TablesGrow.{grow_at}
use Rattle.card.proofs.NodesBuilt.{left_below, right_below}
use Rattle.card.proofs.SoundNodes.{goal_lower, clause_lower, sound_built, sound_rule_node, sound_line_node}
use Rattle.joined.specs.Joined.{shifted}
use Rattle.joined.specs.Inner.Copied.{Copied}

-- Two tables that grow alike, the one n further on, have the same values: it is enough that each value is made from equal ones.
pub grow_alike : {A : Type 0} (f g : List A → ℕ → A) (d : A) (n m : ℕ)
    → ((i : ℕ) → i < m → (t s : List A) → ((v : ℕ) → v < i → get_or t (n + v) d ≡ get_or s v d) → f t (n + i) ≡ g s i)
    → (i : ℕ) → i < m → f (grow f (n + i)) (n + i) ≡ g (grow g i) i
grow_alike f g d n m alike i = below (suc i) i (omega arith)
  where
    below : (k i : ℕ) → i < k → i < m → f (grow f (n + i)) (n + i) ≡ g (grow g i) i
    below zero i h l = absurd (omega arith)
    below (suc k) i h l =
        alike i l (grow f (n + i)) (grow g i)
        (λ v u. grow_at f (n + i) (n + v) d (omega arith) ∙ below k v (omega arith) (omega arith) ∙ sym (grow_at g i v d u))

module _ {c bs : List ℕ} {n p t : ℕ} (x : Copied c bs n p t) (s : Sound bs) where
  -- a part that reads as a goal, or as a clause, does so where it is copied
  pub goal_copied : (i m v : ℕ) → i ≤ node_count bs → n + i ≤ m → goal_part bs i v ≡ true → goal_part c m (n + v) ≡ true
  unfolding goal_part
  goal_copied i m v h k e =
      let low = goal_lower bs i v e in
      ap₂ ◌&&◌ (lt-ltb (n + v) m (omega arith))
      (ap is_goal (x.kind v (omega arith)) ∙ both_right (ltb v i) (is_goal (kind_at bs v)) e)

  pub clause_copied : (i m v : ℕ) → i ≤ node_count bs → n + i ≤ m → clause_part bs i v ≡ true → clause_part c m (n + v) ≡ true
  unfolding clause_part
  clause_copied i m v h k e =
      let low = clause_lower bs i v e in
      ap₂ ◌&&◌ (lt-ltb (n + v) m (omega arith))
      (ap is_clause (x.kind v (omega arith)) ∙ both_right (ltb v i) (is_clause (kind_at bs v)) e)

  -- "left, right"
  fits_copied : (i : ℕ) (f : Field) (v : ℕ) → i < node_count bs → fits_field bs i f v ≡ true → fits_field c (n + i) f (shifted n f v) ≡ true
  unfolding fits_field shifted
  fits_copied i Unused v h e = e
  fits_copied i Name v h e = e
  fits_copied i GoalPart v h e = goal_copied i (n + i) v (omega arith) (omega arith) e
  fits_copied i ClausePart v h e = clause_copied i (n + i) v (omega arith) (omega arith) e
  fits_copied i Unknown v h e = e

  module _ (i : ℕ) (h : i < node_count bs) where
    abbrev row : Kind
    row = kind_of (kind_at bs i)

    built : well_built bs i ≡ true
    built = sound_built s i h

    pub built_copied : well_built c (n + i) ≡ true
    unfolding well_built
    built_copied =
        rw (x.kind i h, x.left i h, x.right i h)
        (ap₂ ◌&&◌ (fits_copied i row.left (left_at bs i) h (both_left _ (fits_field bs i row.right (right_at bs i)) built))
        (fits_copied i row.right (right_at bs i) h (both_right (fits_field bs i row.left (left_at bs i)) _ built)))

  -- a part's height and reading, from tables that hold the same, the one n further on
  height_part : (i : ℕ) (a b : List ℕ) → ((v : ℕ) → v < i → get_or a (n + v) 0 ≡ get_or b v 0) → (f : Field) (v : ℕ) → PartBelow i f v
      → part_height a f (shifted n f v) ≡ part_height b f v
  unfolding part_height shifted PartBelow
  height_part i a b e Unused v l = refl
  height_part i a b e Name v l = refl
  height_part i a b e GoalPart v l = e v l
  height_part i a b e ClausePart v l = e v l
  height_part i a b e Unknown v l = refl

  held_part : (i : ℕ) (a b : List NodeReading) → ((v : ℕ) → v < i → get_or a (n + v) no_node_reading ≡ get_or b v no_node_reading)
      → (f : Field) (v : ℕ) → PartBelow i f v
      → held f (shifted n f v) (get_or a (shifted n f v) no_node_reading) ≡ held f v (get_or b v no_node_reading)
  unfolding held shifted PartBelow
  held_part i a b e Unused v l = refl
  held_part i a b e Name v l = refl
  held_part i a b e GoalPart v l = ap (λ (r : NodeReading). r.goal) (e v l)
  held_part i a b e ClausePart v l = ap (λ (r : NodeReading). r.clause) (e v l)
  held_part i a b e Unknown v l = refl

  -- THEOREM. A node is as high where it is copied.
  pub height_copied : (i : ℕ) → i < node_count bs → height_at c (n + i) ≡ height_at bs i
  unfolding height_at height_step
  height_copied = grow_alike (height_step c) (height_step bs) 0 n (node_count bs) alike
    where
      alike : (i : ℕ) → i < node_count bs → (a b : List ℕ) → ((v : ℕ) → v < i → get_or a (n + v) 0 ≡ get_or b v 0)
          → height_step c a (n + i) ≡ height_step bs b i
      alike i h a b e =
          rw (x.kind i h, x.left i h, x.right i h)
          (ap₂ (λ l r. max l r + 1)
          (height_part i a b e (row i h).left (left_at bs i) (left_below bs i (built i h)))
          (height_part i a b e (row i h).right (right_at bs i) (right_below bs i (built i h))))

  -- THEOREM. A node reads as the same formulas where it is copied.
  pub reads_copied : (i : ℕ) → i < node_count bs → read_at c (n + i) ≡ read_at bs i
  unfolding read_at read_step
  reads_copied = grow_alike (read_step c) (read_step bs) no_node_reading n (node_count bs) alike
    where
      alike : (i : ℕ) → i < node_count bs → (a b : List NodeReading)
          → ((v : ℕ) → v < i → get_or a (n + v) no_node_reading ≡ get_or b v no_node_reading)
          → read_step c a (n + i) ≡ read_step bs b i
      alike i h a b e =
          let k = row i h in
          rw (x.kind i h, x.left i h, x.right i h)
          (ap₂ (λ l r. record { goal = read_by k.goal no_node_reading.goal l r; clause = read_by k.clause no_node_reading.clause l r })
          (held_part i a b e k.left (left_at bs i) (left_below bs i (built i h)))
          (held_part i a b e k.right (right_at bs i) (right_below bs i (built i h))))

  pub goal_same : (i : ℕ) → i < node_count bs → goal_at c (n + i) ≡ goal_at bs i
  unfolding goal_at
  goal_same i h = ap (λ (r : NodeReading). r.goal) (reads_copied i h)

  pub clause_same : (i : ℕ) → i < node_count bs → clause_of c (n + i) ≡ clause_of bs i
  unfolding clause_of
  clause_same i h = ap (λ (r : NodeReading). r.clause) (reads_copied i h)

  -- THEOREM. A rule and a line are the same entries where they are copied.
  pub rule_same : (i : ℕ) → i < rule_count bs → rule_entry c (p + i) ≡ rule_entry bs i
  unfolding rule_entry
  rule_same i h =
      ap (λ d. record { clause = d; linear = false })
      (ap (clause_of c) (x.rule i h) ∙ clause_same (rule_node bs i) (clause_lower bs (node_count bs) (rule_node bs i) (sound_rule_node s i h)))

  pub line_same : (i : ℕ) → i < line_count bs → line_entry c (t + i) ≡ line_entry bs i
  unfolding line_entry
  line_same i h =
      ap (λ d. record { clause = d; linear = true })
      (ap (clause_of c) (x.line i h) ∙ clause_same (line_node bs i) (clause_lower bs (node_count bs) (line_node bs i) (sound_line_node s i h)))
