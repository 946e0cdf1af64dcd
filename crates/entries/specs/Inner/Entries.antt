-- The tables of the search: each entry's node and heads.
use Rattle.std.specs.Prelude.{ℕ, ◌-◌, ◌<◌, ◌≤◌, ◌≡◌, Bool, true, cond, List, length, get_or, set, leb, ltb, eqb}
use Rattle.calculus.specs.Formula.{usable}
use Rattle.calculus.specs.Derivation.{Scope}
use Rattle.card.specs.Format.{rule_count, node_count, listing}
use Rattle.card.specs.Fault.{clause_part}
use Rattle.card.specs.Decode.{clause_of, scope_of}

-- A code of heads, in two bytes: that of a name is the name, 1000 stands for none, and what is more for the heads of the menu at the node
-- 1001 less.
unfoldable pub code_fits : List ℕ → ℕ → ℕ → Bool
code_fits bs c a = cond (ltb c 1001) (eqb c a) (usable (scope_of bs).fits a (clause_of bs (c - 1001)))

-- The heads of the clause at the node: of the names, which are at most 999, the code fits those that the clause can be used for.
pub record HeadCode (bs : List ℕ) (node c : ℕ) : Type 0 where
  pub small : c < 1513
  pub menu : 1001 ≤ c → clause_part bs (node_count bs) (c - 1001) ≡ true
  pub tells : (a : ℕ) → a ≤ 999 → code_fits bs c a ≡ usable (scope_of bs).fits a (clause_of bs node)

-- the table of heads, with the code of the node's heads written at the entry e
pub record Headed (bs heads heads' : List ℕ) (e node : ℕ) : Type 0 where
  pub code : ℕ
  pub written : heads' ≡ set heads e code
  pub is_head : HeadCode bs node code

-- The scope that the first n nodes of the table stand for: rules stay, all others are items.
unfoldable pub scope_in : List ℕ → List ℕ → ℕ → Scope
scope_in bs nodes n =
    record {
      entries = listing n (λ e. record { clause = clause_of bs (get_or nodes e 0); linear = leb (rule_count bs) e });
      fits = (scope_of bs).fits;
    }

-- The first n entries of the tables: clauses of the card, each with its heads.
pub record Entered (bs nodes heads : List ℕ) (n : ℕ) : Type 0 where
  pub node_room : length nodes ≡ 256
  pub head_room : length heads ≡ 256
  pub clauses : (e : ℕ) → e < n → clause_part bs (node_count bs) (get_or nodes e 0) ≡ true
  pub headed : (e : ℕ) → e < n → HeadCode bs (get_or nodes e 0) (get_or heads e 0)
