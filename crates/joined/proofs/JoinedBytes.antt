-- What stands where on the joined card.
use Prim.Native.Nat.{ℕ, ◌+◌, ◌*◌, ◌<◌}
use native.Mathlib.Omega.{arith}
use mathlib.Core.Path.{◌≡◌, refl, ◌∙◌, ap}
use mathlib.Core.List.{List, ◌++◌}
use lib.ListN.{length, length-append}
use Rattle.card.specs.Format.{byte_at, word_at, length_field, version, rule_count, line_count, node_count, goal_node, depth_limit, step_limit, node_start}
use Rattle.card.specs.Format.{rule_start, line_start, kind_at, left_at, right_at, rule_node, line_node, line_byte}
use Rattle.card.specs.Kinds.{kind_of}
use Rattle.card.specs.Sheet.{word}
use Rattle.joined.specs.Joined.{shifted, node_bytes, moved_node, moved_rule, moved_line, moved_nodes, moved_rules, moved_lines, joined_rules}
use Rattle.joined.specs.Joined.{joined_lines, joined_nodes, joined_length, joined_depth, joined_steps, joined_front, both_goals, all_nodes, all_rules}
use Rattle.joined.specs.Joined.{all_lines, joined_card}
use Rattle.joined.specs.Inner.Copied.{Copied}
use Rattle.joined.proofs.LaidInTurn.{behind, among, turn_at, word_read, length_node, length_moved_node, length_moved_rule, length_moved_line}
use Rattle.joined.proofs.LaidInTurn.{length_moved_nodes, length_moved_rules, length_moved_lines}

module _ (n : ℕ) (bs : List ℕ) where
  -- a node, a rule and a line where its bytes stand
  module _ (c : List ℕ) (i at : ℕ) where
    node_fields : ((j : ℕ) → j < 5 → byte_at c (at + j) ≡ byte_at (moved_node n bs i) j)
        → (byte_at c at ≡ kind_at bs i)
        × (word_at c (at + 1) ≡ shifted n (kind_of (kind_at bs i)).left (left_at bs i))
        × (word_at c (at + 3) ≡ shifted n (kind_of (kind_at bs i)).right (right_at bs i))
    unfolding moved_node node_bytes word
    node_fields h = (
      ap (byte_at c) (omega arith) ∙ h 0 (omega arith),
      word_read c (at + 1) _ (h 1 (omega arith)) (ap (byte_at c) (omega arith) ∙ h 2 (omega arith)),
      word_read c (at + 3) _ (h 3 (omega arith)) (ap (byte_at c) (omega arith) ∙ h 4 (omega arith)),
    )

    rule_field : ((j : ℕ) → j < 2 → byte_at c (at + j) ≡ byte_at (moved_rule n bs i) j) → word_at c at ≡ n + rule_node bs i
    unfolding moved_rule word
    rule_field h = word_read c at _ (ap (byte_at c) (omega arith) ∙ h 0 (omega arith)) (h 1 (omega arith))

    line_fields : ((j : ℕ) → j < 3 → byte_at c (at + j) ≡ byte_at (moved_line n bs i) j)
        → (word_at c at ≡ n + line_node bs i) × (byte_at c (at + 2) ≡ line_byte bs i)
    unfolding moved_line word
    line_fields h =
        (word_read c at _ (ap (byte_at c) (omega arith) ∙ h 0 (omega arith)) (h 1 (omega arith)), h 2 (omega arith))

  -- a card where the bytes of all its nodes, rules and lines stand
  copied_by : (c : List ℕ) (p t : ℕ)
      → ((i j : ℕ) → i < node_count bs → j < 5 → byte_at c (node_start (n + i) + j) ≡ byte_at (moved_node n bs i) j)
      → ((i j : ℕ) → i < rule_count bs → j < 2 → byte_at c (rule_start c (p + i) + j) ≡ byte_at (moved_rule n bs i) j)
      → ((i j : ℕ) → i < line_count bs → j < 3 → byte_at c (line_start c (t + i) + j) ≡ byte_at (moved_line n bs i) j)
      → Copied c bs n p t
  copied_by c p t node rule line =
      record {
        kind = λ i h. (node_fields c i (node_start (n + i)) (λ j k. node i j h k)).0;
        left = λ i h. (node_fields c i (node_start (n + i)) (λ j k. node i j h k)).1;
        right = λ i h. (node_fields c i (node_start (n + i)) (λ j k. node i j h k)).2;
        rule = λ i h. rule_field c i (rule_start c (p + i)) (λ j k. rule i j h k);
        line = λ i h. (line_fields c i (line_start c (t + i)) (λ j k. line i j h k)).0;
        byte = λ i h. (line_fields c i (line_start c (t + i)) (λ j k. line i j h k)).1;
      }

module _ (a b : List ℕ) where
  abbrev J : List ℕ
  J = joined_card a b

  abbrev n₁ : ℕ
  n₁ = node_count a

  -- the parts of the card
  abbrev nodes : List ℕ
  nodes = all_nodes a b

  abbrev rules : List ℕ
  rules = all_rules a b

  abbrev lines : List ℕ
  lines = all_lines a b

  pub length_front : length (joined_front a b) ≡ 11
  unfolding joined_front word
  length_front = refl

  length_both : length (both_goals a b) ≡ 5
  unfolding both_goals
  length_both = length_node 4 (goal_node a) (n₁ + goal_node b)

  length_two_nodes : length (moved_nodes 0 a ++ moved_nodes n₁ b) ≡ 5 * (n₁ + node_count b)
  length_two_nodes = omega (arith, length-append (moved_nodes 0 a) (moved_nodes n₁ b), length_moved_nodes 0 a, length_moved_nodes n₁ b)

  pub length_all_nodes : length nodes ≡ 5 * joined_nodes a b
  length_all_nodes =
      omega (arith, length-append (moved_nodes 0 a ++ moved_nodes n₁ b) (both_goals a b), length_two_nodes, length_both)

  length_all_rules : length rules ≡ 2 * joined_rules a b
  length_all_rules = omega (arith, length-append (moved_rules 0 a) (moved_rules n₁ b), length_moved_rules 0 a, length_moved_rules n₁ b)

  length_all_lines : length lines ≡ 3 * joined_lines a b
  length_all_lines = omega (arith, length-append (moved_lines 0 a) (moved_lines n₁ b), length_moved_lines 0 a, length_moved_lines n₁ b)

  pub to_nodes : length (joined_front a b ++ nodes) ≡ 11 + 5 * joined_nodes a b
  to_nodes = omega (arith, length-append (joined_front a b) nodes, length_front, length_all_nodes)

  pub to_rules : length (joined_front a b ++ nodes ++ rules) ≡ 11 + 5 * joined_nodes a b + 2 * joined_rules a b
  to_rules = omega (arith, length-append (joined_front a b ++ nodes) rules, to_nodes, length_all_rules)

  -- THEOREM. The joined card is as long as 01's formula asks.
  pub joined_long : length J ≡ joined_length a b
  unfolding joined_card
  joined_long = omega (arith, length-append (joined_front a b ++ nodes ++ rules) lines, to_rules, length_all_lines)

  -- a byte of the front, the nodes, the rules, the lines
  in_front : (j : ℕ) → j < 11 → byte_at J j ≡ byte_at (joined_front a b) j
  unfolding joined_card
  in_front j h =
      among (joined_front a b ++ nodes ++ rules) lines j (omega (arith, to_rules))
      ∙ among (joined_front a b ++ nodes) rules j (omega (arith, to_nodes))
      ∙ among (joined_front a b) nodes j (omega (arith, length_front))

  in_nodes : (j : ℕ) → j < 5 * joined_nodes a b → byte_at J (11 + j) ≡ byte_at nodes j
  unfolding joined_card
  in_nodes j h =
      among (joined_front a b ++ nodes ++ rules) lines (11 + j) (omega (arith, to_rules))
      ∙ among (joined_front a b ++ nodes) rules (11 + j) (omega (arith, to_nodes))
      ∙ behind (joined_front a b) nodes 11 j length_front

  in_rules : (j : ℕ) → j < 2 * joined_rules a b → byte_at J (11 + 5 * joined_nodes a b + j) ≡ byte_at rules j
  unfolding joined_card
  in_rules j h =
      among (joined_front a b ++ nodes ++ rules) lines (11 + 5 * joined_nodes a b + j) (omega (arith, to_rules))
      ∙ behind (joined_front a b ++ nodes) rules (11 + 5 * joined_nodes a b) j to_nodes

  in_lines : (j : ℕ) → byte_at J (11 + 5 * joined_nodes a b + 2 * joined_rules a b + j) ≡ byte_at lines j
  unfolding joined_card
  in_lines j = behind (joined_front a b ++ nodes ++ rules) lines (11 + 5 * joined_nodes a b + 2 * joined_rules a b) j to_rules

  -- the front's fields
  pub joined_field : length_field J ≡ joined_length a b
  unfolding joined_front word
  joined_field = word_read J 0 _ (in_front 0 (omega arith)) (in_front 1 (omega arith))

  pub joined_version : version J ≡ 1
  unfolding joined_front word
  joined_version = in_front 2 (omega arith)

  pub joined_rule_count : rule_count J ≡ joined_rules a b
  unfolding joined_front word
  joined_rule_count = in_front 3 (omega arith)

  pub joined_line_count : line_count J ≡ joined_lines a b
  unfolding joined_front word
  joined_line_count = in_front 4 (omega arith)

  pub joined_node_count : node_count J ≡ joined_nodes a b
  unfolding joined_front word
  joined_node_count = word_read J 5 _ (in_front 5 (omega arith)) (in_front 6 (omega arith))

  pub joined_goal_node : goal_node J ≡ n₁ + node_count b
  unfolding joined_front word
  joined_goal_node = word_read J 7 _ (in_front 7 (omega arith)) (in_front 8 (omega arith))

  pub joined_depth_lem : depth_limit J ≡ joined_depth a b
  unfolding joined_front word
  joined_depth_lem = in_front 9 (omega arith)

  pub joined_steps_lem : step_limit J ≡ joined_steps a b
  unfolding joined_front word
  joined_steps_lem = in_front 10 (omega arith)

  -- each card's nodes, rules and lines where they stand among all
  first_node : (i j : ℕ) → i < n₁ → j < 5 → byte_at J (node_start (0 + i) + j) ≡ byte_at (moved_node 0 a i) j
  first_node i j h k =
      ap (byte_at J) (omega arith)
      ∙ in_nodes (5 * i + j) (omega arith)
      ∙ among (moved_nodes 0 a ++ moved_nodes n₁ b) (both_goals a b) (5 * i + j) (omega (arith, length_two_nodes))
      ∙ among (moved_nodes 0 a) (moved_nodes n₁ b) (5 * i + j) (omega (arith, length_moved_nodes 0 a))
      ∙ turn_at 5 (moved_node 0 a) (length_moved_node 0 a) n₁ i j h k

  second_node : (i j : ℕ) → i < node_count b → j < 5 → byte_at J (node_start (n₁ + i) + j) ≡ byte_at (moved_node n₁ b i) j
  second_node i j h k =
      ap (byte_at J) (omega arith)
      ∙ in_nodes (5 * n₁ + (5 * i + j)) (omega arith)
      ∙ among (moved_nodes 0 a ++ moved_nodes n₁ b) (both_goals a b) (5 * n₁ + (5 * i + j)) (omega (arith, length_two_nodes))
      ∙ behind (moved_nodes 0 a) (moved_nodes n₁ b) (5 * n₁) (5 * i + j) (length_moved_nodes 0 a)
      ∙ turn_at 5 (moved_node n₁ b) (length_moved_node n₁ b) (node_count b) i j h k

  last_node : (j : ℕ) → j < 5 → byte_at J (node_start (n₁ + node_count b) + j) ≡ byte_at (both_goals a b) j
  last_node j k =
      ap (byte_at J) (omega arith)
      ∙ in_nodes (5 * (n₁ + node_count b) + j) (omega arith)
      ∙ behind (moved_nodes 0 a ++ moved_nodes n₁ b) (both_goals a b) (5 * (n₁ + node_count b)) j length_two_nodes

  first_rule : (i j : ℕ) → i < rule_count a → j < 2 → byte_at J (rule_start J (0 + i) + j) ≡ byte_at (moved_rule 0 a i) j
  first_rule i j h k =
      ap (byte_at J) (omega (arith, joined_node_count))
      ∙ in_rules (2 * i + j) (omega arith)
      ∙ among (moved_rules 0 a) (moved_rules n₁ b) (2 * i + j) (omega (arith, length_moved_rules 0 a))
      ∙ turn_at 2 (moved_rule 0 a) (length_moved_rule 0 a) (rule_count a) i j h k

  second_rule : (i j : ℕ) → i < rule_count b → j < 2 → byte_at J (rule_start J (rule_count a + i) + j) ≡ byte_at (moved_rule n₁ b i) j
  second_rule i j h k =
      ap (byte_at J) (omega (arith, joined_node_count))
      ∙ in_rules (2 * rule_count a + (2 * i + j)) (omega arith)
      ∙ behind (moved_rules 0 a) (moved_rules n₁ b) (2 * rule_count a) (2 * i + j) (length_moved_rules 0 a)
      ∙ turn_at 2 (moved_rule n₁ b) (length_moved_rule n₁ b) (rule_count b) i j h k

  first_line : (i j : ℕ) → i < line_count a → j < 3 → byte_at J (line_start J (0 + i) + j) ≡ byte_at (moved_line 0 a i) j
  first_line i j h k =
      ap (byte_at J) (omega (arith, joined_node_count, joined_rule_count))
      ∙ in_lines (3 * i + j)
      ∙ among (moved_lines 0 a) (moved_lines n₁ b) (3 * i + j) (omega (arith, length_moved_lines 0 a))
      ∙ turn_at 3 (moved_line 0 a) (length_moved_line 0 a) (line_count a) i j h k

  second_line : (i j : ℕ) → i < line_count b → j < 3 → byte_at J (line_start J (line_count a + i) + j) ≡ byte_at (moved_line n₁ b i) j
  second_line i j h k =
      ap (byte_at J) (omega (arith, joined_node_count, joined_rule_count))
      ∙ in_lines (3 * line_count a + (3 * i + j))
      ∙ behind (moved_lines 0 a) (moved_lines n₁ b) (3 * line_count a) (3 * i + j) (length_moved_lines 0 a)
      ∙ turn_at 3 (moved_line n₁ b) (length_moved_line n₁ b) (line_count b) i j h k

  -- THEOREM. Both cards stand on the joined card, the first as it is and the second behind it.
  pub first_copied : Copied J a 0 0 0
  first_copied = copied_by 0 a J 0 0 first_node first_rule first_line

  pub second_copied : Copied J b n₁ (rule_count a) (line_count a)
  second_copied = copied_by n₁ b J (rule_count a) (line_count a) second_node second_rule second_line

  -- the new last node
  pub last_kind : kind_at J (n₁ + node_count b) ≡ 4
  unfolding both_goals node_bytes word
  last_kind = ap (byte_at J) (omega arith) ∙ last_node 0 (omega arith)

  pub last_left : left_at J (n₁ + node_count b) ≡ goal_node a
  unfolding both_goals node_bytes word
  last_left =
      word_read J _ _ (last_node 1 (omega arith)) (ap (byte_at J) (omega arith) ∙ last_node 2 (omega arith))

  pub last_right : right_at J (n₁ + node_count b) ≡ n₁ + goal_node b
  unfolding both_goals node_bytes word
  last_right =
      word_read J _ _ (last_node 3 (omega arith)) (ap (byte_at J) (omega arith) ∙ last_node 4 (omega arith))
