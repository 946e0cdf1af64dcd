-- A scope as two tables: each entry's node, and whether it is linear.
use Rattle.std.specs.Prelude.{ℕ, ◌<◌, ◌≤◌, ◌≡◌, Bool, true, false, List, length, get_or, set, take}
use Rattle.calculus.specs.Derivation.{Scope}
use Rattle.card.specs.Format.{rule_count, node_count, listing}
use Rattle.card.specs.Fault.{clause_part}
use Rattle.card.specs.Decode.{clause_of, scope_of}
use Rattle.scope.specs.declared.Tables.{Tables}

-- The scope that the first n entries of the tables stand for, with the card's test of heads.
unfoldable pub table_scope : List ℕ → List ℕ → List Bool → ℕ → Scope
table_scope bs nodes linear n = record {
  entries = listing n (λ e. record { clause = clause_of bs (get_or nodes e 0); linear = get_or linear e false });
  fits = (scope_of bs).fits;
}

-- The first n entries of the tables are clauses of the card, and the linear ones have a place in a line set.
pub record TableEntered (bs nodes : List ℕ) (linear : List Bool) (n : ℕ) : Type 0 where
  pub node_room : length nodes ≡ 256
  pub linear_room : length linear ≡ 256
  pub clauses : (e : ℕ) → e < n → clause_part bs (node_count bs) (get_or nodes e 0) ≡ true
  pub items : (e : ℕ) → e < n → get_or linear e false ≡ true → rule_count bs ≤ e

-- The first n of a table are kept, and its length.
pub record Kept {A : Type 0} (n : ℕ) (xs ys : List A) : Type 0 where
  pub size : length ys ≡ length xs
  pub same : take n ys ≡ take n xs

-- The tables with the entry e, of this node, linear or not.
abbrev pub put_t : Tables → ℕ → ℕ → Bool → Tables
put_t t e node linear = record { nodes = set t.nodes e node; linear = set t.linear e linear }
