-- The joined card of two sound cards that fit on one is sound.
use Prim.Native.Nat.{ℕ, zero, suc, ◌+◌, ◌-◌, ◌<◌, ◌≤◌, max}
use native.Mathlib.Omega.{arith}
use native.Mathlib.Nat.{zero-add}
use native.Mathlib.Decide.{dec_lt}
use mathlib.Core.Path.{◌≡◌, refl, sym, ◌∙◌, ap, ap₂, subst}
use mathlib.Core.Bool.{Bool, true, false, not, ◌&&◌, ◌||◌}
use mathlib.Core.List.{List}
use lib.ListN.{length}
use lib.Dec.{leb, ltb}
use borrow.Author.Tests.{le-leb, le-ltb, lt-ltb, eq-eqb, ltb-false, not-false}
use Rattle.calculus.proofs.SetLaws.{or_false}
use Rattle.card.specs.Format.{rule_count, line_count, node_count, goal_node, depth_limit, left_at, right_at, rule_node}
use Rattle.card.specs.Format.{line_node, line_byte, card_length}
use Rattle.card.specs.Verdict.{Verdict, Where, sound, refuse, ◌▹◌, first_of}
use Rattle.card.specs.Fault.{Sound, in_range, front_fault, goal_part, clause_part, well_built, height_at, node_fault, goal_fault, rule_fault, line_good}
use Rattle.card.specs.Fault.{line_fault, first_fault, is_goal, given}
use Rattle.card.specs.Kinds.{kinds, kind_of}
use Rattle.card.proofs.FrontChecked.{both_right}
use Rattle.card.proofs.FaultsInOrder.{refuse_false, not_applied, after_sound}
use Rattle.card.proofs.CardChecked.{sound_front, sound_line}
use Rattle.card.proofs.NodesBuilt.{built_4}
use Rattle.card.proofs.SoundNodes.{goal_lower, height_low, height_of_parts, sound_root, sound_rule_node, sound_line_node}
use Rattle.joined.specs.Joined.{joined_rules, joined_lines, joined_nodes, joined_card, joined_height, overfull}
use Rattle.joined.specs.Inner.Copied.{Copied}
use Rattle.joined.proofs.JoinedBytes.{joined_long, joined_field, joined_version, joined_rule_count, joined_line_count, joined_node_count}
use Rattle.joined.proofs.JoinedBytes.{joined_goal_node, joined_depth_lem, first_copied, second_copied, last_kind, last_left, last_right}
use Rattle.joined.proofs.CopiedNodes.{goal_copied, clause_copied, built_copied, height_copied}

-- what holds of the first m, and of the k behind them, holds of all; so it does with one more behind these
pub of_two : (P : ℕ → Type 0) (m k : ℕ) → ((i : ℕ) → i < m → P i) → ((i : ℕ) → i < k → P (m + i)) → (i : ℕ) → i < m + k → P i
of_two P m k here there i h = go (dec_lt i m)
  where
    go : Dec (i < m) → P i
    go (yes l) = here i l
    go (no u) = subst P (omega arith) (there (i - m) (omega arith))

of_both : (P : ℕ → Type 0) (m k : ℕ) → ((i : ℕ) → i < m → P (0 + i)) → ((i : ℕ) → i < k → P (m + i)) → (i : ℕ) → i < m + k → P i
of_both P m k here = of_two P m k (λ i h. subst P (zero-add i) (here i h))

and_last : (P : ℕ → Type 0) (m : ℕ) → ((i : ℕ) → i < m → P i) → P m → (i : ℕ) → i < m + 1 → P i
and_last P m before last i h = go (dec_lt i m)
  where
    go : Dec (i < m) → P i
    go (yes l) = before i l
    go (no u) = subst P (omega arith) last

-- checks that find nothing
none_found : (b : Bool) (n : ℕ) (w : Where) → b ≡ true → refuse (not b) n w ≡ sound
none_found b n w e = refuse_false (not b) n w (ap not e)

both_sound : (u v : Verdict) → u ≡ sound → v ≡ sound → u ▹ v ≡ sound
both_sound u v e f = after_sound u v e ∙ f

run_sound : (n : ℕ) (f : ℕ → Verdict) → ((i : ℕ) → i < n → f i ≡ sound) → first_of n f ≡ sound
unfolding first_of
run_sound zero f h = refl
run_sound (suc n) f h = both_sound (first_of n f) (f n) (run_sound n f (λ i l. h i (omega arith))) (h n (omega arith))

-- two cards that fit on one
module _ (a b : List ℕ) (fits : overfull a b ≡ false) where
  parted : (ltb 64 (joined_rules a b) ≡ false) × ((ltb 64 (joined_lines a b) || (ltb 512 (joined_nodes a b) || ltb 8 (joined_height a b))) ≡ false)
  unfolding overfull
  parted = or_false (ltb 64 (joined_rules a b)) _ fits

  pub few_rules : joined_rules a b ≤ 64
  few_rules = ltb-false 64 (joined_rules a b) parted.0

  from_lines : (ltb 64 (joined_lines a b) ≡ false) × ((ltb 512 (joined_nodes a b) || ltb 8 (joined_height a b)) ≡ false)
  from_lines = or_false (ltb 64 (joined_lines a b)) _ parted.1

  pub few_lines : joined_lines a b ≤ 64
  few_lines = ltb-false 64 (joined_lines a b) from_lines.0

  from_nodes : (ltb 512 (joined_nodes a b) ≡ false) × (ltb 8 (joined_height a b) ≡ false)
  from_nodes = or_false (ltb 512 (joined_nodes a b)) _ from_lines.1

  pub few_nodes : joined_nodes a b ≤ 512
  few_nodes = ltb-false 512 (joined_nodes a b) from_nodes.0

  pub goal_low : joined_height a b ≤ 8
  goal_low = ltb-false 8 (joined_height a b) from_nodes.1

-- "1 = must or 0 = may"
sound_line_byte : {bs : List ℕ} → Sound bs → (i : ℕ) → i < line_count bs → leb (line_byte bs i) 1 ≡ true
unfolding line_fault line_good
sound_line_byte {bs} s i h =
    both_right (clause_part bs (node_count bs) (line_node bs i)) (leb (line_byte bs i) 1)
    (not-false _ (not_applied _ _ _ (sound_line bs s i h)))

-- a copied node, rule and line pass their checks
module _ {c bs : List ℕ} {n p t : ℕ} (x : Copied c bs n p t) (s : Sound bs) (all : n + node_count bs ≤ node_count c) where
  node_passes : (i : ℕ) → i < node_count bs → node_fault c (n + i) ≡ sound
  unfolding node_fault
  node_passes i h =
      none_found _ 6 _
      (ap₂ ◌&&◌ (built_copied x s i h) (le-leb (height_at c (n + i)) 8 (omega (arith, height_copied x s i h, height_low s i h))))

  rule_passes : (i : ℕ) → i < rule_count bs → rule_fault c (p + i) ≡ sound
  unfolding rule_fault
  rule_passes i h =
      none_found _ 8 _
      (ap (clause_part c (node_count c)) (x.rule i h)
      ∙ clause_copied x s (node_count bs) (node_count c) (rule_node bs i) (omega arith) all (sound_rule_node s i h))

  line_passes : (i : ℕ) → i < line_count bs → line_fault c (t + i) ≡ sound
  unfolding line_fault line_good
  line_passes i h =
      none_found _ 9 _
      (ap₂ ◌&&◌
      (ap (clause_part c (node_count c)) (x.line i h)
      ∙ clause_copied x s (node_count bs) (node_count c) (line_node bs i) (omega arith) all (sound_line_node s i h))
      (ap (λ v. leb v 1) (x.byte i h) ∙ sound_line_byte s i h))

module _ (a b : List ℕ) (s : Sound a) (r : Sound b) (fits : overfull a b ≡ false) where
  abbrev J : List ℕ
  J = joined_card a b

  abbrev last : ℕ
  last = node_count a + node_count b

  front_sound : front_fault J ≡ sound
  unfolding front_fault in_range
  front_sound =
      both_sound _ _ (refuse_false _ 1 _ (le-ltb (length J) 11 (omega (arith, joined_long a b))))
      (both_sound _ _ (none_found _ 2 _ (eq-eqb _ _ (joined_field a b ∙ sym (joined_long a b))))
      (both_sound _ _ (none_found _ 3 _ (eq-eqb _ _ (joined_version a b)))
      (both_sound _ _ (none_found _ 4 _ ranged)
      (none_found _ 5 _ (eq-eqb (card_length J) (length J) whole)))))
    where
      whole : card_length J ≡ length J
      whole = omega (arith, joined_long a b, joined_node_count a b, joined_rule_count a b, joined_line_count a b)

      ranged : in_range J ≡ true
      ranged =
          ap₂ ◌&&◌ (le-leb (rule_count J) 64 (omega (arith, joined_rule_count a b, few_rules a b fits)))
          (ap₂ ◌&&◌ (le-leb (line_count J) 64 (omega (arith, joined_line_count a b, few_lines a b fits)))
          (ap₂ ◌&&◌ (le-leb 1 (node_count J) (omega (arith, joined_node_count a b)))
          (ap₂ ◌&&◌ (le-leb (node_count J) 512 (omega (arith, joined_node_count a b, few_nodes a b fits)))
          (le-leb (depth_limit J) 16 (omega (arith, joined_depth_lem a b, (sound_front a s).depth, (sound_front b r).depth))))))

  first_below : 0 + node_count a ≤ node_count J
  first_below = omega (arith, joined_node_count a b)

  second_below : node_count a + node_count b ≤ node_count J
  second_below = omega (arith, joined_node_count a b)

  -- the new goal's parts are the two goals
  pub first_goal : left_at J last ≡ 0 + goal_node a
  first_goal = last_left a b ∙ sym (zero-add (goal_node a))

  left_part : (m : ℕ) → last ≤ m → goal_part J m (left_at J last) ≡ true
  left_part m h =
      ap (goal_part J m) first_goal
      ∙ goal_copied (first_copied a b) s (node_count a) m (goal_node a) (omega arith) (omega arith) (sound_root s)

  right_part : (m : ℕ) → last ≤ m → goal_part J m (right_at J last) ≡ true
  right_part m h =
      ap (goal_part J m) (last_right a b)
      ∙ goal_copied (second_copied a b) r (node_count b) m (goal_node b) (omega arith) (omega arith) (sound_root r)

  pub last_built : well_built J last ≡ true
  last_built = built_4 J last (last_kind a b) ∙ ap₂ ◌&&◌ (left_part last (omega arith)) (right_part last (omega arith))

  last_high : height_at J last ≡ joined_height a b
  unfolding joined_height
  last_high =
      height_of_parts J last last_built (omega (arith, last_kind a b)) (λ e. omega (arith, e, last_kind a b))
      ∙ ap₂ (λ x y. max x y + 1)
      (ap (height_at J) first_goal
      ∙ height_copied (first_copied a b) s (goal_node a) (goal_lower a (node_count a) (goal_node a) (sound_root s)))
      (ap (height_at J) (last_right a b)
      ∙ height_copied (second_copied a b) r (goal_node b) (goal_lower b (node_count b) (goal_node b) (sound_root r)))

  last_passes : node_fault J last ≡ sound
  unfolding node_fault
  last_passes = none_found _ 6 _ (ap₂ ◌&&◌ last_built (le-leb (height_at J last) 8 (omega (arith, last_high, goal_low a b fits))))

  nodes_sound : (i : ℕ) → i < node_count J → node_fault J i ≡ sound
  nodes_sound i h =
      and_last (λ k. node_fault J k ≡ sound) last
      (of_both (λ k. node_fault J k ≡ sound) (node_count a) (node_count b)
      (node_passes (first_copied a b) s first_below) (node_passes (second_copied a b) r second_below))
      last_passes i (omega (arith, joined_node_count a b))

  goal_sound : goal_fault J ≡ sound
  unfolding goal_fault goal_part is_goal kind_of kinds given
  goal_sound = none_found _ 7 _ (ap (goal_part J (node_count J)) (joined_goal_node a b) ∙ here)
    where
      here : goal_part J (node_count J) last ≡ true
      here = ap₂ ◌&&◌ (lt-ltb last (node_count J) (omega (arith, joined_node_count a b))) (ap is_goal (last_kind a b))

  rules_sound : (i : ℕ) → i < rule_count J → rule_fault J i ≡ sound
  rules_sound i h =
      of_both (λ k. rule_fault J k ≡ sound) (rule_count a) (rule_count b)
      (rule_passes (first_copied a b) s first_below) (rule_passes (second_copied a b) r second_below)
      i (omega (arith, joined_rule_count a b))

  lines_sound : (i : ℕ) → i < line_count J → line_fault J i ≡ sound
  lines_sound i h =
      of_both (λ k. line_fault J k ≡ sound) (line_count a) (line_count b)
      (line_passes (first_copied a b) s first_below) (line_passes (second_copied a b) r second_below)
      i (omega (arith, joined_line_count a b))

  -- THEOREM. The joined card of two sound cards that fit on one is sound.
  pub joined_sound : Sound J
  unfolding first_fault
  joined_sound =
      record {
        faultless =
            both_sound _ _ front_sound
            (both_sound _ _ (run_sound (node_count J) (node_fault J) nodes_sound)
            (both_sound _ _ goal_sound
            (both_sound _ _ (run_sound (rule_count J) (rule_fault J) rules_sound)
            (run_sound (line_count J) (line_fault J) lines_sound))));
      }
