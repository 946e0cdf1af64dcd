-- What the prunings ask of a branch, what they are stocked with, and what they tell.
use Rattle.std.specs.Prelude.{ℕ, ◌+◌, ◌-◌, ◌≤◌, ◌<◌, ◌≡◌, true, List, length, get_or, Option, IfSome}
use Rattle.card.specs.Format.{rule_count, line_count, node_count, kind_at, left_at}
use Rattle.card.specs.Fault.{Sound, clause_part}
use Rattle.card.specs.Decode.{job_of}
use Rattle.scope.specs.Inner.Sets.{items}
use Rattle.agenda.specs.Inner.Sought.{Place, None}
use Rattle.entries.specs.Inner.Entries.{scope_in}
use Rattle.entries.specs.Inner.Twins.{eligible}
use Rattle.entries.specs.Inner.Masks.{Seen}
use Rattle.branch.specs.declared.Branch.{Branch}
use Rattle.segment.specs.Inner.Tasks.{agenda_of, Laid}
use Rattle.dead.specs.Inner.Barren.{Honest}
use Rattle.bounds.specs.Inner.Table.{TableHeld, Settled}
use Rattle.prune.specs.declared.Table.{Table}

-- how many entries the job's scope has: the rules, then the lines
abbrev pub job_count : List ℕ → ℕ
job_count bs = rule_count bs + line_count bs

-- i is the left part of a lend
pub record LendPart (bs : List ℕ) (i : ℕ) : Type 0 where
  pub node : ℕ
  pub here : node < node_count bs
  pub lend : kind_at bs node ≡ 6
  pub part : i ≡ left_at bs node

-- The first n entries in scope: the job's, then left parts of lends.
pub record Rooted (bs nodes : List ℕ) (n : ℕ) : Type 0 where
  pub base : scope_in bs nodes (job_count bs) ≡ (job_of bs).scope
  pub lent : (e : ℕ) → job_count bs ≤ e → e < n → LendPart bs (get_or nodes e 0)

-- What every pruning is handed: a sound card, the entries in scope, an agenda with a next task, and a place within the step limit.
pub record PruneAsks (bs nodes agenda : List ℕ) (b : Branch) : Type 0 where
  pub sound : Sound bs
  pub node_room : length nodes ≡ 256
  pub clauses : (e : ℕ) → e < b.count → clause_part bs (node_count bs) (get_or nodes e 0) ≡ true
  pub whole : job_count bs ≤ b.count
  pub few : b.count ≤ 256
  pub some : 1 ≤ b.len
  pub laid : Laid bs agenda b.len b.count
  pub onward : b.at ≤ b.limit
  pub limit : b.limit ≤ 255
  pub rooted : Rooted bs nodes b.count

-- The table of bounds is the card's, and settled.
pub record SettledTable (bs : List ℕ) (t : Table) : Type 0 where
  pub held : TableHeld bs t.names.now t.cells.now
  pub settled : Settled bs t.names.now t.cells.now t.masks.now

-- What a later run is stocked with: a table of bounds that is settled, where there is one, and a memory of dead states of the job's scope.
pub record StockedWith (bs : List ℕ) (table : Option Table) (codes words : List ℕ) : Type 0 where
  pub settled : IfSome table (SettledTable bs)
  pub memory : Honest bs (job_of bs).scope codes words

-- Nothing is sought for the agenda in the branch, from any floor on.
pub record Doom (bs nodes agenda : List ℕ) (b : Branch) : Type 0 where
  pub none : (p : Place) → Seen bs b.seen p.done → p.strict ≡ items (rule_count bs) b.strict
      → p.lax ≡ items (rule_count bs) b.lax → p.room ≡ b.limit - b.at
      → None (eligible bs) (scope_in bs nodes b.count) (agenda_of bs agenda b.len) p
