-- Laws of refusal 6: a node's height from the table of those before it, and its two tests taken one after the other.
use Rattle.std.proofs.Common.{◌≡◌, ℕ, suc, ◌+◌, ◌<◌, max, Bool, true, false, not, ◌&&◌, List}
use Rattle.std.proofs.Common.{[], ◌∷◌, ◌++◌, length, take, set, refl, sym, ◌∙◌, ap, ap₂, arith}
use lib.Seq.{get_or-take, take-suc-set}
use Rattle.card.specs.Format.{kind_at, left_at, right_at, grow}
use Rattle.card.specs.declared.kinds.Field.{Field}
use Rattle.card.specs.declared.kinds.Field.TheVariants.{Unused, Name, GoalPart, ClausePart, Unknown}
use Rattle.card.specs.Kinds.{Kind, kind_of}
use Rattle.card.specs.Verdict.{Verdict, Where, sound, fault, refuse}
use Rattle.card.specs.Fault.{well_built, part_height, height_step, height_at}
use Rattle.card.specs.Inner.Checks.{PartBelow}
use Rattle.card.proofs.FaultsInOrder.{sound_or_faulty}
use Rattle.card.proofs.NodesBuilt.{left_below, right_below}
use Rattle.nodes.specs.Inner.Nodes.{HeightsTabled}

-- what is below n is below all that n is below
below_more : (f : Field) (v : ℕ) {n m : ℕ} → n < m → PartBelow n f v → PartBelow m f v
unfolding PartBelow
below_more Unused v h p = tt
below_more Name v h p = tt
below_more GoalPart v h p = omega arith
below_more ClausePart v h p = omega arith
below_more Unknown v h p = tt

module _ (bs : List ℕ) (i : ℕ) where
  -- the height of a part below the node, from any table that begins with the heights before the node
  height_same : (t : List ℕ) → HeightsTabled bs i t → (f : Field) (v : ℕ) → PartBelow i f v
      → part_height t f v ≡ part_height (grow (height_step bs) i) f v
  unfolding PartBelow part_height
  height_same t tab Unused v h = refl
  height_same t tab Name v h = refl
  height_same t tab GoalPart v h = sym (rw (← tab.heights) (get_or-take i t v 0 h))
  height_same t tab ClausePart v h = sym (rw (← tab.heights) (get_or-take i t v 0 h))
  height_same t tab Unknown v h = refl

  module _ (e : well_built bs i ≡ true) where
    abbrev row : Kind
    row = kind_of (kind_at bs i)

    -- the parts are below the node, so within an array of 512 heights; of values that are known to be the node's
    module _ (few : i < 512) {f : Field} {k v : ℕ} where
      pub left_within : f ≡ (kind_of k).left → k ≡ kind_at bs i → v ≡ left_at bs i → PartBelow 512 f v
      left_within p q r = below_more f v few (rw p (rw q (rw r (left_below bs i e))))

      pub right_within : f ≡ (kind_of k).right → k ≡ kind_at bs i → v ≡ right_at bs i → PartBelow 512 f v
      right_within p q r = below_more f v few (rw p (rw q (rw r (right_below bs i e))))

    -- the height from any table that begins with the heights before the node
    pub height_from : (t : List ℕ) → HeightsTabled bs i t
        → max (part_height t row.left (left_at bs i)) (part_height t row.right (right_at bs i)) + 1 ≡ height_at bs i
    unfolding height_at height_step
    height_from t tab =
        ap₂ (λ a b. max a b + 1) (height_same t tab row.left (left_at bs i) (left_below bs i e))
        (height_same t tab row.right (right_at bs i) (right_below bs i e))

  -- the table with one height more
  pub table_more : (t : List ℕ) → i < length t → take i t ≡ grow (height_step bs) i
      → take (suc i) (set t i (height_at bs i)) ≡ grow (height_step bs) (suc i)
  unfolding grow height_at
  table_more t h e = take-suc-set t i (height_at bs i) h ∙ ap (λ u. u ++ (height_at bs i ∷ [])) e

-- a refusal that asks for two things, taken apart: the first does not hold, or it holds and the second decides
module _ (n : ℕ) (w : Where) where
  pub first_missing : (a b : Bool) {m : ℕ} {u : Where} → fault m u ≡ refuse (not a) n w → refuse (not (a && b)) n w ≡ fault m u
  unfolding refuse
  first_missing true b e = absurd (sound_or_faulty refl (sym e))
  first_missing false b e = sym e

  pub second_asked : (a b : Bool) {v : Verdict} → refuse (not a) n w ≡ sound → v ≡ refuse (not b) n w → refuse (not (a && b)) n w ≡ v
  unfolding refuse
  second_asked true b e h = sym h
  second_asked false b e h = absurd (sound_or_faulty e refl)
