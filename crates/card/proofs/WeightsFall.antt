-- Weights of goals and clauses: at least 1, at most 255 on a sound card, and less for a formula's parts than for the formula.
use Prim.Native.Nat.{ℕ, zero, suc, ◌+◌, ◌*◌, ◌≤◌, ◌<◌}
use native.Mathlib.Nat.{add-mul, mul-lt-mul_of_pos_right}
use native.Mathlib.Omega.{arith}
use mathlib.Core.Path.{◌≡◌, refl, ap}
use mathlib.Core.Logic.{⊎_elim}
use mathlib.Core.Bool.{true}
use mathlib.Core.List.{List}
use Rattle.calculus.specs.Formula.{Goal, atomᴳ, topᴳ, oneᴳ, zeroᴳ, tensor, with, oplus, lolliᴳ}
use Rattle.card.specs.Format.{node_count, kind_at, left_at, right_at}
use Rattle.card.specs.Fault.{Sound, goal_part, clause_part, height_at}
use Rattle.card.specs.Decode.{goal_at, clause_of}
use Rattle.card.specs.Inner.Size.{weight, clause_weight}
use Rattle.card.proofs.NodesDecoded.{reads_name, reads_rest, reads_done, reads_never}
use Rattle.card.proofs.SoundNodes.{goal_lower, goal_kind, goal_above, clause_lower, clause_kind, clause_above, height_pos, height_low}
use Rattle.card.proofs.SoundNodes.{height_parts, both_parts, either_parts, one_of_parts, lend_parts, recipe_parts, menu_parts}
use Rattle.card.proofs.SoundNodes.{sound_both, sound_either, sound_one_of, sound_lend, sound_recipe, sound_menu}

pub weight_pos : (G : Goal) → 1 ≤ weight G
unfolding weight
weight_pos (atomᴳ a) = omega arith
weight_pos topᴳ = omega arith
weight_pos oneᴳ = omega arith
weight_pos zeroᴳ = omega arith
weight_pos (tensor G H) = omega arith
weight_pos (with G H) = omega arith
weight_pos (oplus G H) = omega arith
weight_pos (lolliᴳ D G) = omega arith

-- with the nesting left as a factor
pub weight_times : (G H : Goal) (n : ℕ) → weight G < weight H → weight G * (n + 1) < weight H * (n + 1)
weight_times G H n h = mul-lt-mul_of_pos_right h (omega arith)

pub weights_times : (F G H : Goal) (n : ℕ) → weight F + weight G < weight H
    → weight F * (n + 1) + weight G * (n + 1) < weight H * (n + 1)
weights_times F G H n h =
    let e = add-mul (weight F) (weight G) (n + 1) in
    let l : (weight F + weight G) * (n + 1) < weight H * (n + 1) = mul-lt-mul_of_pos_right h (omega arith) in
    omega arith

-- the parts of a node
module _ {bs : List ℕ} (s : Sound bs) (i : ℕ) (h : i < node_count bs) where
  weigh : {G : Goal} → goal_at bs i ≡ G → weight (goal_at bs i) ≡ weight G
  weigh e = ap weight e

  pub both_weight : kind_at bs i ≡ 4 → weight (goal_at bs (left_at bs i)) + weight (goal_at bs (right_at bs i)) < weight (goal_at bs i)
  unfolding weight
  both_weight k = let e = weigh (sound_both s i h k) in omega arith

  pub either_weight : kind_at bs i ≡ 5 → weight (goal_at bs (left_at bs i)) + weight (goal_at bs (right_at bs i)) < weight (goal_at bs i)
  unfolding weight
  either_weight k = let e = weigh (sound_either s i h k) in omega arith

  pub lend_weight : kind_at bs i ≡ 6 → weight (goal_at bs (right_at bs i)) < weight (goal_at bs i)
  unfolding weight
  lend_weight k = let e = weigh (sound_lend s i h k) in omega arith

  pub one_of_weight : kind_at bs i ≡ 8 → weight (goal_at bs (left_at bs i)) + weight (goal_at bs (right_at bs i)) < weight (goal_at bs i)
  unfolding weight
  one_of_weight k = let e = weigh (sound_one_of s i h k) in omega arith

  pub recipe_weight : kind_at bs i ≡ 7
      → weight (goal_at bs (left_at bs i)) + clause_weight (clause_of bs (right_at bs i)) < clause_weight (clause_of bs i)
  unfolding clause_weight
  recipe_weight k = let e = ap clause_weight (sound_recipe s i h k) in omega arith

  pub menu_weight : kind_at bs i ≡ 10
      → clause_weight (clause_of bs (left_at bs i)) + clause_weight (clause_of bs (right_at bs i)) < clause_weight (clause_of bs i)
  unfolding clause_weight
  menu_weight k = let e = ap clause_weight (sound_menu s i h k) in omega arith

-- a formula of height h
unfoldable cap : ℕ → ℕ
cap zero = 0
cap (suc h) = 1 + cap h + cap h

-- the kinds of goals, one by one
kinds : {C : Type 0} (k : ℕ) → 1 ≤ k → k ≤ 6 → (k ≡ 1 → C) → (k ≡ 2 → C) → (k ≡ 3 → C) → (k ≡ 4 → C) → (k ≡ 5 → C) → (k ≡ 6 → C) → C
kinds zero l h a b c d e f = absurd (omega arith)
kinds (suc zero) l h a b c d e f = a refl
kinds (suc (suc zero)) l h a b c d e f = b refl
kinds (suc (suc (suc zero))) l h a b c d e f = c refl
kinds (suc (suc (suc (suc zero)))) l h a b c d e f = d refl
kinds (suc (suc (suc (suc (suc zero))))) l h a b c d e f = e refl
kinds (suc (suc (suc (suc (suc (suc zero)))))) l h a b c d e f = f refl
kinds (suc (suc (suc (suc (suc (suc (suc k))))))) l h a b c d e f = absurd (omega arith)

module _ {bs : List ℕ} (s : Sound bs) where
  weight_step : (h i : ℕ) → goal_part bs (node_count bs) i ≡ true → height_at bs i ≤ suc h
      → ((j : ℕ) → goal_part bs i j ≡ true → height_at bs j < height_at bs i → weight (goal_at bs j) ≤ cap h)
      → weight (goal_at bs i) ≤ cap (suc h)
  unfolding weight cap
  weight_step h i g l part =
      let k = goal_kind bs (node_count bs) i g in
      ⊎_elim (λ six. kinds (kind_at bs i) k.0 six
      (λ q. let e = ap weight (reads_name bs i q).0 in omega arith)
      (λ q. let e = ap weight (reads_rest bs i q).0 in omega arith)
      (λ q. let e = ap weight (reads_done bs i q) in omega arith)
      (λ q.
      let e = ap weight (sound_both s i below q) in
      let p = both_parts s i below q in
      let t = height_parts s i below (omega arith) (λ e. omega (arith, e, q)) in
      let x = part (left_at bs i) p.0 t.0 in
      let y = part (right_at bs i) p.1 t.1 in omega arith)
      (λ q.
      let e = ap weight (sound_either s i below q) in
      let p = either_parts s i below q in
      let t = height_parts s i below (omega arith) (λ e. omega (arith, e, q)) in
      let x = part (left_at bs i) p.0 t.0 in
      let y = part (right_at bs i) p.1 t.1 in omega arith)
      (λ q.
      let e = ap weight (sound_lend s i below q) in
      let p = lend_parts s i below q in
      let t = height_parts s i below (omega arith) (λ e. omega (arith, e, q)) in
      let y = part (right_at bs i) p.1 t.1 in omega arith))
      (⊎_elim
      (λ q.
      let e = ap weight (sound_one_of s i below q) in
      let p = one_of_parts s i below q in
      let t = height_parts s i below (omega arith) (λ e. omega (arith, e, q)) in
      let x = part (left_at bs i) p.0 t.0 in
      let y = part (right_at bs i) p.1 t.1 in omega arith)
      (λ q. let e = ap weight (reads_never bs i q) in omega arith))
      k.1
    where
      below : i < node_count bs
      below = goal_lower bs (node_count bs) i g

  weight_cap : (h i : ℕ) → goal_part bs (node_count bs) i ≡ true → height_at bs i ≤ h → weight (goal_at bs i) ≤ cap h
  weight_cap zero i g l = let p = height_pos bs i in absurd (omega arith)
  weight_cap (suc h) i g l =
      let below = goal_lower bs (node_count bs) i g in
      weight_step h i g l (λ j q t. weight_cap h j (goal_above bs i j (node_count bs) (omega (arith, below)) q) (omega arith))

  pub weight_low : (i : ℕ) → goal_part bs (node_count bs) i ≡ true → weight (goal_at bs i) ≤ 255
  unfolding cap
  weight_low i g = weight_cap 8 i g (height_low s i (goal_lower bs (node_count bs) i g))

  clause_step : (h i : ℕ) → clause_part bs (node_count bs) i ≡ true → height_at bs i ≤ suc h
      → ((j : ℕ) → clause_part bs i j ≡ true → height_at bs j < height_at bs i → clause_weight (clause_of bs j) ≤ cap h)
      → clause_weight (clause_of bs i) ≤ cap (suc h)
  unfolding clause_weight cap
  clause_step h i g l part =
      ⊎_elim (λ q. let e = ap clause_weight (reads_name bs i q).1 in omega arith)
      (⊎_elim (λ q. let e = ap clause_weight (reads_rest bs i q).1 in omega arith)
      (⊎_elim
      (λ q.
      let e = ap clause_weight (sound_recipe s i below q) in
      let p = recipe_parts s i below q in
      let t = height_parts s i below (omega arith) (λ e. omega (arith, e, q)) in
      let x = weight_cap h (left_at bs i) (goal_above bs i (left_at bs i) (node_count bs) (omega (arith, below)) p.0) (omega (arith, t.0)) in
      let y = part (right_at bs i) p.1 t.1 in omega arith)
      (λ q.
      let e = ap clause_weight (sound_menu s i below q) in
      let p = menu_parts s i below q in
      let t = height_parts s i below (omega arith) (λ e. omega (arith, e, q)) in
      let x = part (left_at bs i) p.0 t.0 in
      let y = part (right_at bs i) p.1 t.1 in omega arith)))
      (clause_kind bs (node_count bs) i g)
    where
      below : i < node_count bs
      below = clause_lower bs (node_count bs) i g

  clause_cap : (h i : ℕ) → clause_part bs (node_count bs) i ≡ true → height_at bs i ≤ h → clause_weight (clause_of bs i) ≤ cap h
  clause_cap zero i g l = let p = height_pos bs i in absurd (omega arith)
  clause_cap (suc h) i g l =
      let below = clause_lower bs (node_count bs) i g in
      clause_step h i g l (λ j q t. clause_cap h j (clause_above bs i j (node_count bs) (omega (arith, below)) q) (omega arith))

  pub clause_low : (i : ℕ) → clause_part bs (node_count bs) i ≡ true → clause_weight (clause_of bs i) ≤ 255
  unfolding cap
  clause_low i g = clause_cap 8 i g (height_low s i (clause_lower bs (node_count bs) i g))
