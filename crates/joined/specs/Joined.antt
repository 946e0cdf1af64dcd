-- The joined card (02, #101): its bytes, and whether two cards have room on one.
use Rattle.std.specs.Prelude.{ℕ, zero, suc, ◌+◌, ◌*◌, max, min, Bool, ◌||◌, List, [], ◌∷◌, ◌++◌, ltb}
use Rattle.card.specs.Format.{rule_count, line_count, node_count, goal_node, depth_limit, step_limit, kind_at, left_at, right_at, rule_node}
use Rattle.card.specs.Format.{line_node, line_byte}
use Rattle.card.specs.declared.kinds.Field.{Field}
use Rattle.card.specs.declared.kinds.Field.TheVariants.{Unused, Name, GoalPart, ClausePart, Unknown}
use Rattle.card.specs.Kinds.{kind_of}
use Rattle.card.specs.Fault.{height_at}
use Rattle.card.specs.Sheet.{word}

-- "with node numbers shifted": by how a field reads, a part moves by n; a name and an unused field stay.
unfoldable pub shifted : ℕ → Field → ℕ → ℕ
shifted n Unused v = v
shifted n Name v = v
shifted n GoalPart v = n + v
shifted n ClausePart v = n + v
shifted n Unknown v = v

-- "nodes of 5 bytes (kind, left, right)"
unfoldable pub node_bytes : ℕ → ℕ → ℕ → List ℕ
node_bytes k l r = k ∷ (word l ++ word r)

-- node, rule and line i of a card, their node numbers shifted by n
unfoldable pub moved_node : ℕ → List ℕ → ℕ → List ℕ
moved_node n bs i =
    let k = kind_of (kind_at bs i) in
    node_bytes (kind_at bs i) (shifted n k.left (left_at bs i)) (shifted n k.right (right_at bs i))

unfoldable pub moved_rule : ℕ → List ℕ → ℕ → List ℕ
moved_rule n bs i = word (n + rule_node bs i)

unfoldable pub moved_line : ℕ → List ℕ → ℕ → List ℕ
moved_line n bs i = word (n + line_node bs i) ++ (line_byte bs i ∷ [])

-- f 0, then f 1, .., then f (m - 1)
unfoldable pub in_turn : ℕ → (ℕ → List ℕ) → List ℕ
in_turn zero f = []
in_turn (suc m) f = in_turn m f ++ f m

abbrev pub moved_nodes : ℕ → List ℕ → List ℕ
moved_nodes n bs = in_turn (node_count bs) (moved_node n bs)

abbrev pub moved_rules : ℕ → List ℕ → List ℕ
moved_rules n bs = in_turn (rule_count bs) (moved_rule n bs)

abbrev pub moved_lines : ℕ → List ℕ → List ℕ
moved_lines n bs = in_turn (line_count bs) (moved_line n bs)

module _ (first second : List ℕ) where
  -- the joined P, T and N, which counts "one new last node"; the length by 01's formula
  abbrev pub joined_rules : ℕ
  joined_rules = rule_count first + rule_count second

  abbrev pub joined_lines : ℕ
  joined_lines = line_count first + line_count second

  abbrev pub joined_nodes : ℕ
  joined_nodes = node_count first + node_count second + 1

  abbrev pub joined_length : ℕ
  joined_length = 11 + 5 * joined_nodes + 2 * joined_rules + 3 * joined_lines

  -- "Limits: d the greater, s the sum or 255 if lower."
  abbrev pub joined_depth : ℕ
  joined_depth = max (depth_limit first) (depth_limit second)

  abbrev pub joined_steps : ℕ
  joined_steps = min (step_limit first + step_limit second) 255

  -- bytes 0 to 10: length, version, P and T, N, the goal, which is the new last node, d and s
  abbrev pub joined_counts : List ℕ
  joined_counts = 1 ∷ joined_rules ∷ joined_lines ∷ []

  abbrev pub joined_limits : List ℕ
  joined_limits = joined_depth ∷ joined_steps ∷ []

  unfoldable pub joined_front : List ℕ
  joined_front =
      word joined_length ++ joined_counts ++ word joined_nodes ++ word (node_count first + node_count second) ++ joined_limits

  -- "one new last node, 'both' of the two goals": of the first's, and of the second's shifted
  unfoldable pub both_goals : List ℕ
  both_goals = node_bytes 4 (goal_node first) (node_count first + goal_node second)

  -- "A depot's joined card holds the first card's nodes, rules and lines, each followed by the second's with node numbers shifted, and one
  -- new last node": the first's are shifted by 0, the second's by the first's N.
  abbrev pub all_nodes : List ℕ
  all_nodes = moved_nodes 0 first ++ moved_nodes (node_count first) second ++ both_goals

  abbrev pub all_rules : List ℕ
  all_rules = moved_rules 0 first ++ moved_rules (node_count first) second

  abbrev pub all_lines : List ℕ
  all_lines = moved_lines 0 first ++ moved_lines (node_count first) second

  unfoldable pub joined_card : List ℕ
  joined_card = joined_front ++ all_nodes ++ all_rules ++ all_lines

  -- the new goal's height: 1 plus the greater of the parts' heights
  unfoldable pub joined_height : ℕ
  joined_height = max (height_at first (goal_node first)) (height_at second (goal_node second)) + 1

  -- 15: "if joined P, T or N passes its limit or the new goal is higher than 8"
  unfoldable pub overfull : Bool
  overfull = ltb 64 joined_rules || (ltb 64 joined_lines || (ltb 512 joined_nodes || ltb 8 joined_height))
