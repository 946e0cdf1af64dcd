-- One card's nodes, rules and lines among those of another.
use Rattle.std.specs.Prelude.{ℕ, ◌+◌, ◌<◌, ◌≡◌, List}
use Rattle.card.specs.Format.{rule_count, line_count, node_count, kind_at, left_at, right_at, rule_node, line_node, line_byte}
use Rattle.card.specs.Kinds.{kind_of}
use Rattle.joined.specs.Joined.{shifted}

-- On the card c the nodes of bs stand from n on, its rules from p on and its lines from t on, their node numbers shifted by n.
pub record Copied (c bs : List ℕ) (n p t : ℕ) : Type 0 where
  pub kind : (i : ℕ) → i < node_count bs → kind_at c (n + i) ≡ kind_at bs i
  pub left : (i : ℕ) → i < node_count bs → left_at c (n + i) ≡ shifted n (kind_of (kind_at bs i)).left (left_at bs i)
  pub right : (i : ℕ) → i < node_count bs → right_at c (n + i) ≡ shifted n (kind_of (kind_at bs i)).right (right_at bs i)
  pub rule : (i : ℕ) → i < rule_count bs → rule_node c (p + i) ≡ n + rule_node bs i
  pub line : (i : ℕ) → i < line_count bs → line_node c (t + i) ≡ n + line_node bs i
  pub byte : (i : ℕ) → i < line_count bs → line_byte c (t + i) ≡ line_byte bs i
