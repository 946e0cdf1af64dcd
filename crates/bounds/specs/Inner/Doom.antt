-- What the table says of an agenda, and when that leaves it no list. An agenda stands in an array of codes: node * 32 + nesting, the next
-- task last.
use Rattle.std.specs.Prelude.{ℕ, zero, suc, ◌+◌, ◌-◌, ◌/◌, ◌≤◌, ◌<◌, ◌≡◌, Bool, true, false, ◌&&◌, List, length, get_or}
use Rattle.lines.specs.declared.LineSet.{LineSet}
use Rattle.lines.specs.Set.{bit_at, member, join_s}
use Rattle.card.specs.Format.{rule_count, line_count, node_count, line_node}
use Rattle.card.specs.Fault.{goal_part}
use Rattle.card.specs.Decode.{clause_of}
use Rattle.lines.specs.Count.{number}
use Rattle.bounds.specs.Inner.Table.{NameCells, TableCells, OfCard, in_class, classes, low_at, high_at, least_at}

-- the first n tasks are goals of the card
pub record Coded (bs codes : List ℕ) (n : ℕ) : Type 0 where
  pub goals : (k : ℕ) → k < n → goal_part bs (node_count bs) (get_or codes k 0 / 32) ≡ true

-- the rows of the first n tasks are in the table, the nodes of the first n entries on the card
pub record Rowed (codes : List ℕ) (n : ℕ) : Type 0 where
  pub rows : (k : ℕ) → k < n → get_or codes k 0 / 32 ≤ 512
  pub small : (k : ℕ) → k < n → get_or codes k 0 < 65536

pub record Filed (nodes : List ℕ) (n : ℕ) : Type 0 where
  pub cells : (e : ℕ) → e < n → get_or nodes e 0 < 512

-- what adding up is handed
pub record Asked (t codes : List ℕ) (n : ℕ) : Type 0 where
  pub cells : TableCells t
  pub few : n ≤ 104
  pub rowed : Rowed codes n

-- what counting is handed
pub record Stores (names masks nodes : List ℕ) (n : ℕ) : Type 0 where
  pub cells : NameCells names
  pub masks_room : length masks ≡ 64
  pub filed : Filed nodes n

-- The entries in scope are clauses of rules, of lines and of lends; the lines stand behind the rules.
pub record ScopeOfCard (bs nodes : List ℕ) (linear : List Bool) (n : ℕ) : Type 0 where
  pub whole : rule_count bs + line_count bs ≤ n
  pub kin : (e : ℕ) → e < n → OfCard bs (clause_of bs (get_or nodes e 0)) (get_or linear e false)
  pub lines : (k : ℕ) → k < line_count bs → clause_of bs (get_or nodes (rule_count bs + k) 0) ≡ clause_of bs (line_node bs k)

-- a bound by row, of the first n tasks together
unfoldable pub task_sum : (ℕ → ℕ) → List ℕ → ℕ → ℕ
task_sum bound codes zero = 0
task_sum bound codes (suc n) = task_sum bound codes n + bound (get_or codes n 0 / 32)

unfoldable pub least_sum : List ℕ → List ℕ → ℕ → ℕ
least_sum t = task_sum (least_at t)

unfoldable pub low_sum : List ℕ → List ℕ → ℕ → ℕ → ℕ
low_sum t codes c = task_sum (λ i. low_at t i c) codes

unfoldable pub high_sum : List ℕ → List ℕ → ℕ → ℕ → ℕ
high_sum t codes c = task_sum (λ i. high_at t i c) codes

-- how many items of the class a line set has: lines, by the class's word, and the first n lent clauses
unfoldable pub line_stock : List ℕ → LineSet → ℕ → ℕ
line_stock masks s c = number (λ i. member s i && bit_at (get_or masks c 0) i) 64

-- k is the item lines + k, the entry first + k
unfoldable pub lent_stock : List ℕ → List ℕ → LineSet → ℕ → ℕ → ℕ → ℕ → ℕ
lent_stock names nodes s lines first c n = number (λ k. member s (lines + k) && in_class names (get_or nodes (first + k) 0) c) n

unfoldable pub stock : List ℕ → List ℕ → List ℕ → List ℕ → ℕ → LineSet → ℕ → ℕ
stock bs names masks nodes n s c =
    let first = rule_count bs + line_count bs in
    line_stock masks s c + lent_stock names nodes s (line_count bs) first c (n - first)

-- too few items of the class at hand, or too many strict
pub data Short (bs names t masks nodes codes : List ℕ) (len n : ℕ) (strict lax : LineSet) (c : ℕ) : Type 0 where
  few : stock bs names masks nodes n (join_s strict lax) c < low_sum t codes c len → Short bs names t masks nodes codes len n strict lax c
  many : high_sum t codes c len < 255 → high_sum t codes c len < stock bs names masks nodes n strict c
      → Short bs names t masks nodes codes len n strict lax c

pub record Unbalanced (bs names t masks nodes codes : List ℕ) (len n : ℕ) (strict lax : LineSet) : Type 0 where
  pub class : ℕ
  pub known : class < classes names
  pub uneven : Short bs names t masks nodes codes len n strict lax class

pub data Doomed (bs names t masks nodes codes : List ℕ) (len n : ℕ) (strict lax : LineSet) (room : ℕ) : Type 0 where
  long : room < least_sum t codes len → Doomed bs names t masks nodes codes len n strict lax room
  short : Unbalanced bs names t masks nodes codes len n strict lax → Doomed bs names t masks nodes codes len n strict lax room
