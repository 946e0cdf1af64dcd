-- "At most 103 stand in scope, so a number fits a byte": the entries of a sound card's derivations are below P + T + 103, and never meet a
-- choice.
use Prim.Native.Nat.{ℕ, suc, ◌+◌, ◌*◌, ◌≤◌, ◌<◌, max}
use native.Mathlib.Omega.{arith}
use mathlib.Core.Path.{◌≡◌, refl, sym, ap, ◌∙◌}
use mathlib.Core.Bool.{true, cond}
use mathlib.Core.List.{List, map}
use lib.ListN.{get_or}
use borrow.Author.Tests.{lt-ltb}
use Rattle.calculus.specs.Derivation.{size}
use Rattle.calculus.specs.Steps.{steps, entries_used, nesting, renumber, stands, left_choice}
use Rattle.calculus.specs.Job.{DerivableWithin}
use Rattle.calculus.specs.Inner.Height.{heightᴳ, heightᴰ, lends, Low}
use Rattle.calculus.specs.Inner.Renaming.{over}
use Rattle.calculus.proofs.RenamingKeeps.{over_steps}
use Rattle.calculus.proofs.StepsBounded.{lends_fewer, entries_below, over_same}
use Rattle.card.specs.Format.{node_count, rule_count, line_count, goal_node, kind_at, left_at, right_at}
use Rattle.card.specs.Format.{grow}
use Rattle.card.specs.declared.kinds.Field.{Field}
use Rattle.card.specs.declared.kinds.Field.TheVariants.{Unused, Name, GoalPart, ClausePart, Unknown}
use Rattle.card.specs.Kinds.{Held, Kind, unknown, kinds, kind_of}
use Rattle.card.specs.Fault.{Sound, part_height, height_step, height_at}
use Rattle.card.specs.Inner.Checks.{PartBelow}
use Rattle.card.specs.Decode.{held, read_by}
use Rattle.card.specs.Decode.{NodeReading, no_node_reading, read_step, read_at, goal_at, clause_of, job_of}
use Rattle.card.proofs.CardChecked.{sound_front}
use Rattle.card.proofs.TablesGrow.{grow_at}
use Rattle.card.proofs.EachNode.{EachRow, ◌and◌, each_kind, each_node, each_clause}
use Rattle.card.proofs.NodesDecoded.{scope_size}
use Rattle.card.proofs.NodesBuilt.{left_below, right_below}
use Rattle.card.proofs.SoundNodes.{height_low, sound_built, goal_lower, sound_root}

-- a node's readings are at most n high
record AtMost (n : ℕ) (x : NodeReading) : Type 0 where
  goal : heightᴳ x.goal ≤ n
  clause : heightᴰ x.clause ≤ n

-- how high what a field gives is
high : (f : Field) → Held f → ℕ
high Unused u = 0
high Name n = 0
high GoalPart G = heightᴳ G
high ClausePart D = heightᴰ D
high Unknown u = 0

-- what a kind's node reads as is at most 1 higher than what its fields give
record RowHigh (x : Kind) : Type 0 where
  at_most : (l : Held x.left) (r : Held x.right)
      → AtMost (suc (max (high x.left l) (high x.right r)))
      (record { goal = read_by x.goal no_node_reading.goal l r; clause = read_by x.clause no_node_reading.clause l r })

unknown_high : RowHigh unknown
unfolding read_by heightᴳ heightᴰ
unknown_high = record { at_most = λ l r. record { goal = omega arith; clause = omega arith } }

-- so it is of every row of the table
each_high : EachRow (λ k. RowHigh) 0 kinds
unfolding EachRow kinds read_by high heightᴳ heightᴰ ◌and◌
each_high =
    unknown_high
    and record { at_most = λ l r. record { goal = omega arith; clause = omega arith } }
    and record { at_most = λ l r. record { goal = omega arith; clause = omega arith } }
    and record { at_most = λ l r. record { goal = omega arith; clause = omega arith } }
    and record { at_most = λ l r. record { goal = omega arith; clause = omega arith } }
    and record { at_most = λ l r. record { goal = omega arith; clause = omega arith } }
    and record { at_most = λ l r. record { goal = omega arith; clause = omega arith } }
    and record { at_most = λ l r. record { goal = omega arith; clause = omega arith } }
    and record { at_most = λ l r. record { goal = omega arith; clause = omega arith } }
    and record { at_most = λ l r. record { goal = omega arith; clause = omega arith } }
    and record { at_most = λ l r. record { goal = omega arith; clause = omega arith } }
    and tt

at_more : {n m : ℕ} {x : NodeReading} → AtMost n x → n ≤ m → AtMost m x
at_more p h = let g = p.goal in let c = p.clause in record { goal = omega arith; clause = omega arith }

-- the readings of a sound card's nodes are as high as the nodes
module _ {bs : List ℕ} (s : Sound bs) where
  node_high : (i : ℕ) → i < node_count bs → ((k : ℕ) → k < i → AtMost (height_at bs k) (read_at bs k)) → AtMost (height_at bs i) (read_at bs i)
  unfolding read_at read_step height_at height_step held part_height PartBelow high kind_of
  node_high i h below =
      let e = sound_built s i h in
      let k = kind_of (kind_at bs i) in
      let p = part k.left (left_at bs i) (left_below bs i e) in
      let q = part k.right (right_at bs i) (right_below bs i e) in
      at_more ((each_kind (λ k. RowHigh) each_high (λ k. unknown_high) (kind_at bs i)).at_most _ _) (omega arith)
    where
      part : (f : Field) (v : ℕ) → PartBelow i f v
          → high f (held f v (get_or (grow (read_step bs) i) v no_node_reading)) ≤ part_height (grow (height_step bs) i) f v
      part Unused v g = omega arith
      part Name v g = omega arith
      part GoalPart v g =
          let same = ap (λ (x : NodeReading). heightᴳ x.goal) (grow_at (read_step bs) i v no_node_reading g) in
          omega (arith, same, (below v g).goal, grow_at (height_step bs) i v 0 g)
      part ClausePart v g =
          let same = ap (λ (x : NodeReading). heightᴰ x.clause) (grow_at (read_step bs) i v no_node_reading g) in
          omega (arith, same, (below v g).clause, grow_at (height_step bs) i v 0 g)
      part Unknown v g = omega arith

  at_8 : (i : ℕ) → i < node_count bs → AtMost 8 (read_at bs i)
  at_8 i h = at_more (each_node bs (λ i. AtMost (height_at bs i)) node_high i h) (height_low s i h)

  goal_high : heightᴳ (job_of bs).goal ≤ 8
  unfolding job_of goal_at
  goal_high = (at_8 (goal_node bs) (goal_lower bs (node_count bs) (goal_node bs) (sound_root s))).goal

  scope_low : Low (job_of bs).scope
  unfolding clause_of
  scope_low = record { low = each_clause bs s (λ D. heightᴰ D ≤ 8) (λ i h. (at_8 i h).clause) }

-- "At most 103 stand in scope": the entries of a derivation within limits are below P + T + 103.
pub entries_low : {bs : List ℕ} (s : Sound bs) (d : DerivableWithin (job_of bs))
    → size (job_of bs).scope + lends (job_of bs).goal + 6 * nesting d.derivation.tree ≤ rule_count bs + line_count bs + 103
unfolding job_of
entries_low {bs} s d =
    let n = d.limited.nested in
    let f = (sound_front bs s).depth in
    let g = lends_fewer (job_of bs).goal in
    let t = goal_high s in
    let c = scope_size bs in
    omega arith

-- P and T are at most 64, so no entry is above 230, and none is a choice.
pub entries_no_choice : {bs : List ℕ} → Sound bs → rule_count bs + line_count bs + 103 ≤ 231
entries_no_choice {bs} s = let f = sound_front bs s in omega (arith, f.rules, f.lines)

-- THEOREM. Every entry that a derivation of a sound card within limits uses is below P + T + 103, so at most 230.
pub entries_fit : {bs : List ℕ} → Sound bs → (d : DerivableWithin (job_of bs)) (e : ℕ) → stands e (entries_used d.derivation.tree) ≡ true
    → (e < rule_count bs + line_count bs + 103) × (e ≤ 230)
entries_fit {bs} s d e h =
    let low = (entries_below (rule_count bs + line_count bs + 103) (scope_low s) (goal_high s) d.derivation.tree (entries_low s d)).below e h in
    (low, omega (arith, low, entries_no_choice s))

-- THEOREM. Entries renumbered along a derivation of a sound card are its list's, and choices stay.
pub over_listed : {bs : List ℕ} → Sound bs → (f : ℕ → ℕ) (d : DerivableWithin (job_of bs))
    → over f d.derivation.tree ≡ map (renumber f) (steps d.derivation.tree)
unfolding renumber
over_listed {bs} s f d =
    over_same f (renumber f) (rule_count bs + line_count bs + 103)
    (λ e h. sym (ap (λ b. cond b (f e) e) (lt-ltb e left_choice (omega (arith, entries_no_choice s)))))
    (scope_low s) (goal_high s) d.derivation.tree (entries_low s d)
    ∙ over_steps (renumber f) refl refl d.derivation.tree
