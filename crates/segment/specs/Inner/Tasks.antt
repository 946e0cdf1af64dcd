-- Which agenda the tasks of an array are, how much there is still to do in it, and what changes of it promise.
use Rattle.std.specs.Prelude.{ℕ, zero, suc, ◌+◌, ◌-◌, ◌*◌, ◌/◌, ◌%◌, ◌≤◌, ◌<◌, ◌≡◌, ◌⊎◌, Bool, true, ◌||◌, List, [], ◌∷◌, length, get_or, set}
use Rattle.calculus.specs.Items.{Items}
use Rattle.calculus.specs.Derivation.{Scope}
use Rattle.card.specs.Format.{rule_count, node_count, kind_at, left_at, right_at}
use Rattle.card.specs.Fault.{goal_part, clause_part, height_at}
use Rattle.card.specs.Decode.{goal_at, clause_of}
use Rattle.card.specs.Inner.Size.{weight}
use Rattle.scope.specs.Inner.Sets.{items}
use Rattle.agenda.specs.Inner.Agenda.{Agenda, Task, task, pushed, core}
use Rattle.agenda.specs.Inner.Sought.{Place, holding, None, Least}
use Rattle.branch.specs.declared.Branch.{Branch}
use Rattle.branch.specs.Inner.Values.{Counted}
use Rattle.segment.specs.declared.tasks.Pushed.{Pushed}

-- a task in two bytes: the goal's node and the nesting left
unfoldable pub node_of : ℕ → ℕ
node_of c = c / 32

unfoldable pub nest_of : ℕ → ℕ
nest_of c = c % 32

unfoldable pub task_of : List ℕ → ℕ → Task
task_of bs c = task (goal_at bs (node_of c)) (nest_of c)

-- The first n tasks, the last one next.
unfoldable pub agenda_of : List ℕ → List ℕ → ℕ → Agenda
agenda_of bs codes zero = []
agenda_of bs codes (suc n) = task_of bs (get_or codes n 0) ∷ agenda_of bs codes n

-- how much there is still to do: a goal's size by the nesting left to it, and that of all tasks
unfoldable pub task_weight : List ℕ → ℕ → ℕ
task_weight bs c = weight (goal_at bs (node_of c)) * (nest_of c + 1)

unfoldable pub total : List ℕ → List ℕ → ℕ → ℕ
total bs codes zero = 0
total bs codes (suc n) = task_weight bs (get_or codes n 0) + total bs codes n

-- The task at place i is a goal of the card; what it may grow to has room in the array, and the clauses lent below it in the tables.
pub record Fit (bs : List ℕ) (count i c : ℕ) : Type 0 where
  pub is_goal_part : goal_part bs (node_count bs) (node_of c) ≡ true
  pub stacked : i + height_at bs (node_of c) + 6 * nest_of c ≤ 104
  pub deep : count + height_at bs (node_of c) + 6 * nest_of c ≤ rule_count bs + 168

-- The first len tasks, with so many entries in scope.
pub record Laid (bs codes : List ℕ) (len count : ℕ) : Type 0 where
  pub room : length codes ≡ 104
  pub fits : (i : ℕ) → i < len → Fit bs count i (get_or codes i 0)

-- a ⊗ at place i with room for both parts, and the two parts in its place
pub record Splitting (bs codes : List ℕ) (i : ℕ) : Type 0 where
  pub room : length codes ≡ 104
  pub within : i + 1 < 104
  pub is_goal_part : goal_part bs (node_count bs) (node_of (get_or codes i 0)) ≡ true
  pub is_tensor : kind_at bs (node_of (get_or codes i 0)) ≡ 4

unfoldable pub halves : List ℕ → List ℕ → ℕ → List ℕ
halves bs codes i =
    let c = get_or codes i 0 in
    set (set codes i (right_at bs (node_of c) * 32 + nest_of c)) (i + 1) (left_at bs (node_of c) * 32 + nest_of c)

-- the place p with the branch's items
abbrev pub items_at : ℕ → Branch → Place → Place
items_at P b p = holding p (items P b.strict) (items P b.lax) p.room

-- What is told of the agenda after is told of the agenda before, with its slack; nothing else of the branch has changed, and its count holds.
pub record Unwound (bs codes codes' : List ℕ) (b b' : Branch) : Type 0 where
  pub laid : Laid bs codes' b'.len b'.count
  pub same_at : b'.at ≡ b.at
  pub same_count : b'.count ≡ b.count
  pub same_limit : b'.limit ≡ b.limit
  pub same_used : b'.used ≡ b.used
  pub same_seen : b'.seen ≡ b.seen
  pub same_hand : (P i : ℕ) → (items P b'.strict i || items P b'.lax i) ≡ (items P b.strict i || items P b.lax i)
  pub no_heavier : total bs codes' b'.len ≤ total bs codes b.len
  pub none : (P : ℕ) (eligible : List ℕ → ℕ → Bool) (es : Scope) (p : Place)
      → None eligible es (agenda_of bs codes' b'.len) (items_at P b' p) → None eligible es (agenda_of bs codes b.len) (items_at P b p)
  pub least : (P : ℕ) (eligible : List ℕ → ℕ → Bool) (es : Scope) (p : Place) (l : List ℕ) (U : Items) (v : Bool)
      → Least eligible es (agenda_of bs codes' b'.len) (items_at P b' p) l U v
      → (w : Bool) × Least eligible es (agenda_of bs codes b.len) (items_at P b p) l U w × ((b'.slack || v) ≡ (b.slack || w))
  pub counted : Counted b'

-- the next task, if there is one, is a name, &, ⊸, ⊕ or 0
pub record OpenTask (bs codes : List ℕ) (b : Branch) : Type 0 where
  pub some : 1 ≤ b.len
  pub kind : (kind_at bs (node_of (get_or codes (b.len - 1) 0)) ≡ 1) ⊎ (4 < kind_at bs (node_of (get_or codes (b.len - 1) 0)))

unfoldable pub Opened : List ℕ → List ℕ → Branch → Type 0
Opened bs codes b = (b.len ≡ 0) ⊎ OpenTask bs codes b

-- a clause's conditions, put behind the first len tasks, up to its core: a clause of the card that is no recipe
pub record Pushing (bs codes codes' : List ℕ) (len clause nest : ℕ) (r : Pushed) : Type 0 where
  pub room : length codes' ≡ 104
  pub tasks : agenda_of bs codes' r.len ≡ pushed nest (clause_of bs clause) (agenda_of bs codes len)
  pub core_node : clause_part bs (node_count bs) r.core ≡ true
  pub core_kind : kind_at bs r.core ≡ 7 → ⊥
  pub is_core : clause_of bs r.core ≡ core (clause_of bs clause)
  pub no_higher : r.len + height_at bs r.core ≤ len + height_at bs clause
  pub lower : height_at bs r.core ≤ height_at bs clause
  pub laid : (count : ℕ) → Laid bs codes len count → len + height_at bs clause + 6 * nest ≤ 105
      → count + height_at bs clause + 6 * nest ≤ rule_count bs + 169 → Laid bs codes' r.len count
