-- From bytes to formulas and to the job that a sound card asks.
use Rattle.std.specs.Prelude.{ℕ, ◌+◌, ◌-◌, true, false, ◌&&◌, List, ◌++◌, get_or, leb, ltb, eqb}
use Rattle.std.proofs.Math.Option.{Option, none, some}
use Rattle.calculus.specs.Formula.{Goal, Clause, zeroᴳ, topᴰ}
use Rattle.calculus.specs.Items.{Items}
use Rattle.calculus.specs.Derivation.{Entry, Scope}
use Rattle.calculus.specs.Job.{Job}
use Rattle.card.specs.Format.{rule_count, line_count, goal_node, depth_limit, step_limit, kind_at, left_at, right_at, rule_node}
use Rattle.card.specs.Format.{line_node, line_byte, listing, grow}
use Rattle.card.specs.declared.kinds.Field.{Field}
use Rattle.card.specs.declared.kinds.Field.TheVariants.{Unused, Name, GoalPart, ClausePart, Unknown}
use Rattle.card.specs.Kinds.{Held, kind_of}

-- A node's two readings. Of a kind that has but one, the other stands for nothing and is never asked of a sound card.
pub record NodeReading : Type 0 where
  pub goal : Goal
  pub clause : Clause

abbrev pub no_node_reading : NodeReading
no_node_reading = record { goal = zeroᴳ; clause = topᴰ }

-- what a field gives to its node's reading, from its value and what the node of that number reads as
unfoldable pub held : (f : Field) → ℕ → NodeReading → Held f
held Unused v x = tt
held Name v x = v
held GoalPart v x = x.goal
held ClausePart v x = x.clause
held Unknown v x = tt

-- as the kind's row says, where it says how
unfoldable pub read_by : {A B C : Type 0} → Option (A → B → C) → C → A → B → C
read_by none other x y = other
read_by (some read) other x y = read x y

-- "reads as": node i, from the readings of the nodes before it.
unfoldable pub read_step : List ℕ → List NodeReading → ℕ → NodeReading
read_step bs t i =
    let k = kind_of (kind_at bs i) in
    let l = held k.left (left_at bs i) (get_or t (left_at bs i) no_node_reading) in
    let r = held k.right (right_at bs i) (get_or t (right_at bs i) no_node_reading) in
    record { goal = read_by k.goal no_node_reading.goal l r; clause = read_by k.clause no_node_reading.clause l r }

unfoldable pub read_at : List ℕ → ℕ → NodeReading
read_at bs i = read_step bs (grow (read_step bs) i) i

unfoldable pub goal_at : List ℕ → ℕ → Goal
goal_at bs i = (read_at bs i).goal

unfoldable pub clause_of : List ℕ → ℕ → Clause
clause_of bs i = (read_at bs i).clause

-- "A rule stays; a line or lent clause is gone."
unfoldable pub rule_entry : List ℕ → ℕ → Entry
rule_entry bs i = record { clause = clause_of bs (rule_node bs i); linear = false }

unfoldable pub line_entry : List ℕ → ℕ → Entry
line_entry bs i = record { clause = clause_of bs (line_node bs i); linear = true }

-- The entries with these numbers are lines with this must/may byte.
unfoldable pub lines_with : List ℕ → ℕ → Items
lines_with bs b e =
    leb (rule_count bs) e && (ltb e (rule_count bs + line_count bs) && eqb (line_byte bs (e - rule_count bs)) b)

-- "rules from 0, lines from P"; a head fits the name that it is.
unfoldable pub scope_of : List ℕ → Scope
scope_of bs = record { entries = listing (rule_count bs) (rule_entry bs) ++ listing (line_count bs) (line_entry bs); fits = eqb }

-- What the card asks; 1 = must, 0 = may.
unfoldable pub job_of : List ℕ → Job
job_of bs =
    record {
      scope = scope_of bs;
      strict = lines_with bs 1;
      lax = lines_with bs 0;
      goal = goal_at bs (goal_node bs);
      depth = depth_limit bs;
      length_limit = step_limit bs;
    }
