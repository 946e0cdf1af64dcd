-- Laws of bytes laid out in turn: their lengths, and what stands where.
use Prim.Native.Nat.{ℕ, zero, suc, ◌+◌, ◌*◌, ◌<◌, ◌/◌, ◌%◌}
use native.Mathlib.Omega.{arith}
use native.Mathlib.Nat.{eq-or-lt_of_le, mul-suc, mul-le-mul_left}
use mathlib.Core.Path.{◌≡◌, refl, sym, ◌∙◌, ap, ap₂}
use mathlib.Core.Logic.{⊎_elim}
use mathlib.Core.List.{List, ◌++◌}
use lib.ListN.{length, length-append, get_or-append}
use lib.Seq.{get_or-append-add}
use Rattle.card.specs.Format.{byte_at, word_at, node_count, rule_count, line_count}
use Rattle.card.specs.Sheet.{word}
use Rattle.joined.specs.Joined.{node_bytes, moved_node, moved_rule, moved_line, in_turn, moved_nodes, moved_rules, moved_lines}

-- what stands behind the first bytes, and among them
pub behind : (xs ys : List ℕ) (n i : ℕ) → length xs ≡ n → byte_at (xs ++ ys) (n + i) ≡ byte_at ys i
behind xs ys n i e = ap (λ (k : ℕ). byte_at (xs ++ ys) (k + i)) (sym e) ∙ get_or-append-add xs ys i 0

pub among : (xs ys : List ℕ) (i : ℕ) → i < length xs → byte_at (xs ++ ys) i ≡ byte_at xs i
among xs ys i h = get_or-append xs ys 0 i h

-- pieces of one length
module _ (c : ℕ) (f : ℕ → List ℕ) (even : (i : ℕ) → length (f i) ≡ c) where
  pub length_in_turn : (m : ℕ) → length (in_turn m f) ≡ c * m
  unfolding in_turn
  length_in_turn zero = omega arith
  length_in_turn (suc m) = omega (arith, length-append (in_turn m f) (f m), length_in_turn m, even m, mul-suc c m)

  -- byte j of piece i
  pub turn_at : (m i j : ℕ) → i < m → j < c → byte_at (in_turn m f) (c * i + j) ≡ byte_at (f i) j
  unfolding in_turn
  turn_at zero i j h k = absurd (omega arith)
  turn_at (suc m) i j h k =
      ⊎_elim
      (λ e. rw e (behind (in_turn m f) (f m) (c * m) j (length_in_turn m)))
      (λ l. among (in_turn m f) (f m) (c * i + j) (in_piece l) ∙ turn_at m i j l k)
      (eq-or-lt_of_le {n = i} {m = m} (omega arith))
    where
      in_piece : i < m → c * i + j < length (in_turn m f)
      in_piece l = omega (arith, length_in_turn m, mul-suc c i, mul-le-mul_left {m = suc i} {n = m} c l)

-- a number of two bytes is read back
word_back : (n : ℕ) → n / 256 * 256 + n % 256 ≡ n
word_back n = omega arith

pub word_read : (c : List ℕ) (at n : ℕ) → byte_at c at ≡ n / 256 → byte_at c (at + 1) ≡ n % 256 → word_at c at ≡ n
word_read c at n high low = ap₂ (λ x y. x * 256 + y) high low ∙ word_back n

-- the lengths of a number, a node, a rule and a line
pub length_word : (n : ℕ) → length (word n) ≡ 2
unfolding word
length_word n = refl

pub length_node : (k l r : ℕ) → length (node_bytes k l r) ≡ 5
unfolding node_bytes word
length_node k l r = refl

module _ (n : ℕ) (bs : List ℕ) where
  pub length_moved_node : (i : ℕ) → length (moved_node n bs i) ≡ 5
  unfolding moved_node node_bytes word
  length_moved_node i = refl

  pub length_moved_rule : (i : ℕ) → length (moved_rule n bs i) ≡ 2
  unfolding moved_rule word
  length_moved_rule i = refl

  pub length_moved_line : (i : ℕ) → length (moved_line n bs i) ≡ 3
  unfolding moved_line word
  length_moved_line i = refl

  -- and of all of a card's
  pub length_moved_nodes : length (moved_nodes n bs) ≡ 5 * node_count bs
  length_moved_nodes = length_in_turn 5 (moved_node n bs) length_moved_node (node_count bs)

  pub length_moved_rules : length (moved_rules n bs) ≡ 2 * rule_count bs
  length_moved_rules = length_in_turn 2 (moved_rule n bs) length_moved_rule (rule_count bs)

  pub length_moved_lines : length (moved_lines n bs) ≡ 3 * line_count bs
  length_moved_lines = length_in_turn 3 (moved_line n bs) length_moved_line (line_count bs)
