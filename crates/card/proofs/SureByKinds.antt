-- On a card without a node "either way", or without a node "rest", every line that stands in a list is surely used.
use Prim.Native.Nat.{ℕ, ◌+◌, ◌<◌}
use native.Mathlib.Omega.{arith}
use mathlib.Core.Path.{◌≡◌, refl, ap, ◌∙◌}
use mathlib.Core.Bool.{true}
use mathlib.Core.Logic.{◌⊎◌, inl, inr, ⊎_elim}
use mathlib.Core.List.{List}
use lib.ListN.{get_or}
use Rattle.calculus.specs.Derivation.{Entry, linear_at}
use Rattle.calculus.specs.Steps.{steps, stands, left_choice}
use Rattle.calculus.specs.Job.{Listed, surely_used}
use Rattle.calculus.specs.Inner.Plain.{weighᴳ, weighᴰ, Light}
use Rattle.calculus.proofs.PlainIsSure.{plain_sure, restless_sure}
use Rattle.card.specs.Format.{node_count, rule_count, line_count, goal_node, kind_at, left_at, right_at}
use Rattle.card.specs.Format.{grow}
use Rattle.card.specs.declared.kinds.Field.{Field}
use Rattle.card.specs.declared.kinds.Field.TheVariants.{Unused, Name, GoalPart, ClausePart, Unknown}
use Rattle.card.specs.Kinds.{Held, Kind, unknown, kinds, kind_of}
use Rattle.card.specs.Fault.{Sound}
use Rattle.card.specs.Inner.Checks.{PartBelow, NoKind}
use Rattle.card.specs.Decode.{held, read_by}
use Rattle.card.specs.Decode.{NodeReading, no_node_reading, read_step, read_at, goal_at, clause_of, line_entry, job_of}
use Rattle.card.proofs.CardChecked.{sound_front}
use Rattle.card.proofs.TablesGrow.{grow_at}
use Rattle.card.proofs.EachNode.{EachRow, ◌and◌, each_kind, each_node, each_clause}
use Rattle.card.proofs.NodesDecoded.{scope_size, line_at}
use Rattle.card.proofs.NodesBuilt.{left_below, right_below}
use Rattle.card.proofs.SoundNodes.{sound_built, goal_lower, sound_root}

-- What the rows of the table weigh, each & weighing w and each ⊤ t

module _ (w t : ℕ) where
  -- neither of a node's readings weighs anything
  record None (x : NodeReading) : Type 0 where
    goal : weighᴳ x.goal w t ≡ 0
    clause : weighᴰ x.clause w t ≡ 0

  -- the weight of what a field gives
  weight : (f : Field) → Held f → ℕ
  weight Unused u = 0
  weight Name n = 0
  weight GoalPart G = weighᴳ G w t
  weight ClausePart D = weighᴰ D w t
  weight Unknown u = 0

  -- what a kind's node reads as weighs nothing where its fields give nothing that does
  record RowLight (x : Kind) : Type 0 where
    none : (l : Held x.left) (r : Held x.right) → weight x.left l ≡ 0 → weight x.right r ≡ 0
        → None (record { goal = read_by x.goal no_node_reading.goal l r; clause = read_by x.clause no_node_reading.clause l r })

  -- so it is of every kind, kind 5 if & weighs nothing and kind 2 if ⊤ does
  abbrev LightFor : ℕ → Kind → Type 0
  LightFor k x = (k ≡ 5 → w ≡ 0) → (k ≡ 2 → t ≡ 0) → RowLight x

  unknown_light : RowLight unknown
  unfolding read_by weighᴳ weighᴰ
  unknown_light = record { none = λ l r p q. record { goal = refl; clause = refl } }

each_light : (w t : ℕ) → EachRow (LightFor w t) 0 kinds
unfolding EachRow kinds read_by weight weighᴳ weighᴰ ◌and◌
each_light w t =
    (λ e f. unknown_light w t)
    and (λ e f. record { none = λ l r p q. record { goal = refl; clause = refl } })
    and (λ e f. record { none = λ l r p q. record { goal = f refl; clause = refl } })
    and (λ e f. record { none = λ l r p q. record { goal = refl; clause = refl } })
    and (λ e f. record { none = λ l r p q. record { goal = omega arith; clause = refl } })
    and (λ e f. let z = e refl in record { none = λ l r p q. record { goal = omega arith; clause = refl } })
    and (λ e f. record { none = λ l r p q. record { goal = omega arith; clause = refl } })
    and (λ e f. record { none = λ l r p q. record { goal = refl; clause = omega arith } })
    and (λ e f. record { none = λ l r p q. record { goal = omega arith; clause = refl } })
    and (λ e f. record { none = λ l r p q. record { goal = refl; clause = refl } })
    and (λ e f. record { none = λ l r p q. record { goal = refl; clause = omega arith } })
    and tt

-- & weighs nothing or there is no node of kind 5, and likewise ⊤ and kind 2: then nothing on the card weighs anything
module _ {bs : List ℕ} (s : Sound bs) (w t : ℕ) (e : (w ≡ 0) ⊎ NoKind bs 5) (f : (t ≡ 0) ⊎ NoKind bs 2) where
  node_light : (i : ℕ) → i < node_count bs → ((k : ℕ) → k < i → None w t (read_at bs k)) → None w t (read_at bs i)
  unfolding read_at read_step held PartBelow weight kind_of
  node_light i h below =
      let b = sound_built s i h in
      let k = kind_of (kind_at bs i) in
      (each_kind (LightFor w t) (each_light w t) (λ k e f. unknown_light w t) (kind_at bs i)
      (λ q. ⊎_elim (λ z. z) (λ n. absurd (n.none i h q)) e) (λ q. ⊎_elim (λ z. z) (λ n. absurd (n.none i h q)) f)).none _ _
      (part k.left (left_at bs i) (left_below bs i b)) (part k.right (right_at bs i) (right_below bs i b))
    where
      part : (f : Field) (v : ℕ) → PartBelow i f v → weight w t f (held f v (get_or (grow (read_step bs) i) v no_node_reading)) ≡ 0
      part Unused v g = refl
      part Name v g = refl
      part GoalPart v g = ap (λ (x : NodeReading). weighᴳ x.goal w t) (grow_at (read_step bs) i v no_node_reading g) ∙ (below v g).goal
      part ClausePart v g = ap (λ (x : NodeReading). weighᴰ x.clause w t) (grow_at (read_step bs) i v no_node_reading g) ∙ (below v g).clause
      part Unknown v g = refl

  at_node : (i : ℕ) → i < node_count bs → None w t (read_at bs i)
  at_node = each_node bs (λ i. None w t) node_light

  goal_light : weighᴳ (job_of bs).goal w t ≡ 0
  unfolding job_of goal_at
  goal_light = (at_node (goal_node bs) (goal_lower bs (node_count bs) (goal_node bs) (sound_root s))).goal

  scope_light : Light w t (job_of bs).scope
  unfolding clause_of
  scope_light = record { light = each_clause bs s (λ D. weighᴰ D w t ≡ 0) (λ i h. (at_node i h).clause) }

-- THEOREM. Without a node of one of both kinds, every line that stands in the list is surely used.
module _ {bs l : List ℕ} (s : Sound bs) (x : Listed (job_of bs) l) (i : ℕ) (h : i < line_count bs) (t : stands (rule_count bs + i) l ≡ true) where
  low : rule_count bs + i < left_choice
  low = let f = sound_front bs s in omega (arith, f.rules, f.lines)

  linear : linear_at (job_of bs).scope (rule_count bs + i) ≡ true
  unfolding linear_at line_entry
  linear = ap (λ (y : Entry). y.linear) (line_at bs i h)

  listed : stands (rule_count bs + i) (steps x.derivation.tree) ≡ true
  listed = ap (stands (rule_count bs + i)) x.list ∙ t

  pub lines_sure : NoKind bs 5 ⊎ NoKind bs 2 → surely_used x (rule_count bs + i) ≡ true
  lines_sure (inl n) =
      plain_sure (rule_count bs + i) low (omega (arith, scope_size bs)) linear (scope_light s 1 0 (inr n) (inl refl))
      (goal_light s 1 0 (inr n) (inl refl)) x.derivation.tree listed
  lines_sure (inr n) =
      restless_sure (rule_count bs + i) low (omega (arith, scope_size bs)) linear (scope_light s 0 1 (inl refl) (inr n))
      (goal_light s 0 1 (inl refl) (inr n)) x.derivation.tree listed
