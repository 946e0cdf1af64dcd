-- What each function of the engine asks and tells.
use Rattle.std.specs.Prelude.{ℕ, ◌+◌, ◌-◌, ◌*◌, ◌≤◌, ◌<◌, ◌≡◌, ◌⊎◌, Bool, true, false, ◌||◌, List, [], ◌∷◌, length, get_or, take, set}
use Rattle.std.proofs.Math.Seq.{slice}
use Rattle.calculus.specs.Formula.{Goal, residual, usable}
use Rattle.calculus.specs.Items.{Items, ◌∪◌}
use Rattle.calculus.specs.Derivation.{Scope}
use Rattle.calculus.specs.Steps.{left_choice, right_choice}
use Rattle.calculus.specs.Inner.Summary.{Bounded}
use Rattle.card.specs.Format.{rule_count, line_count, node_count, kind_at, left_at}
use Rattle.card.specs.Fault.{Sound, goal_part, clause_part, height_at}
use Rattle.card.specs.Decode.{goal_at, clause_of, scope_of}
use Rattle.lines.specs.Set.{empty_s}
use Rattle.scope.specs.Inner.Sets.{items}
use Rattle.scope.specs.Inner.Tables.{Kept}
use Rattle.entries.specs.Inner.Entries.{scope_in, Entered}
use Rattle.entries.specs.Inner.Twins.{eligible}
use Rattle.entries.specs.Inner.Masks.{Waiting, Seen}
use Rattle.agenda.specs.Inner.Agenda.{Agenda, task}
use Rattle.agenda.specs.Inner.Order.{Next}
use Rattle.agenda.specs.Inner.Sought.{Place, None, Least}
use Rattle.branch.specs.declared.Branch.{Branch}
use Rattle.branch.specs.declared.Way.{Way}
use Rattle.branch.specs.declared.Floor.{Floor}
use Rattle.branch.specs.declared.Outcome.{Outcome}
use Rattle.branch.specs.declared.Outcome.TheVariants.{Solved as IsSolved, Stuck as IsStuck, Tired as IsTired}
use Rattle.branch.specs.Inner.Values.{Counted, Answer, Solved, Stuck, Tired, using_b, chose_b, past_f, followed}
use Rattle.segment.specs.Inner.Tasks.{node_of, nest_of, agenda_of, Laid}
use Rattle.prune.specs.Inner.Prune.{Rooted}
use Rattle.choice.specs.Inner.Choice.{takable_by, given_at, from_at, keeps_by}
use Rattle.moves.specs.Inner.Moves.{side_at}

-- Where a branch stands.
unfoldable pub place_at : ℕ → Floor → Branch → List ℕ → Place
place_at P f b tape =
    record {
      done = take b.at tape;
      given = given_at f b.at tape;
      from = from_at f b.at;
      strict = items P b.strict;
      lax = items P b.lax;
      room = b.limit - b.at;
    }

-- What every function of the engine asks: a sound card, tables and tape in order, room, and a branch whose running count is what a scan of
-- its strict items finds.
pub record Ready (bs waits tape nodes heads : List ℕ) (f : Floor) (b : Branch) : Type 0 where
  pub sound : Sound bs
  pub waiting : Waiting bs waits
  pub tape_room : length tape ≡ 255
  pub entered : Entered bs nodes heads b.count
  pub scoped : rule_count bs + line_count bs ≤ b.count
  pub few : b.count ≤ rule_count bs + 168
  pub at : b.at ≤ b.limit
  pub limit : b.limit ≤ 255
  pub fixed : f.fixed ≤ 255
  pub from : f.from ≤ 256
  pub bounded : Bounded (scope_in bs nodes b.count) (items (rule_count bs) b.strict ∪ items (rule_count bs) b.lax)
  pub seen : Seen bs b.seen (take b.at tape)
  pub counted : Counted b

-- the node of the next task's goal, and the nesting left to it
abbrev pub top_node : List ℕ → Branch → ℕ
top_node codes b = node_of (get_or codes (b.len - 1) 0)

abbrev pub top_nest : List ℕ → Branch → ℕ
top_nest codes b = nest_of (get_or codes (b.len - 1) 0)

-- the next task is a name
pub record NameNext (bs codes : List ℕ) (b : Branch) : Type 0 where
  pub laid : Laid bs codes b.len b.count
  pub some : 1 ≤ b.len
  pub kind : kind_at bs (top_node codes b) ≡ 1

-- and a step may be taken for it
pub record NameOpen (bs codes : List ℕ) (b : Branch) : Type 0 where
  pub next : NameNext bs codes b
  pub deep : 1 ≤ top_nest codes b
  pub room : b.at < b.limit

-- and the entry can be used for it
pub record CanUse (bs waits heads codes : List ℕ) (b : Branch) (e : ℕ) : Type 0 where
  pub step : NameOpen bs codes b
  pub inside : e < b.count
  pub takable : takable_by bs waits heads b (left_at bs (top_node codes b)) e ≡ true

-- the next task is & or ⊸
pub record PartNext (bs codes : List ℕ) (b : Branch) : Type 0 where
  pub laid : Laid bs codes b.len b.count
  pub some : 1 ≤ b.len
  pub kind : 4 < kind_at bs (top_node codes b)
  pub no_choice : kind_at bs (top_node codes b) ≤ 7

-- the next task is ⊕ or 0
pub record OneOfNext (bs codes : List ℕ) (b : Branch) : Type 0 where
  pub laid : Laid bs codes b.len b.count
  pub some : 1 ≤ b.len
  pub kind : 7 < kind_at bs (top_node codes b)

-- The node is a goal of the card, & or ⊸, with room for what it may grow to.
pub record GoalReady (bs : List ℕ) (goal n : ℕ) (b : Branch) : Type 0 where
  pub is_goal_part : goal_part bs (node_count bs) goal ≡ true
  pub kind : 4 < kind_at bs goal
  pub no_choice : kind_at bs goal ≤ 7
  pub nested : n < 32
  pub stacked : height_at bs goal + 6 * n ≤ 104
  pub deep : b.count + height_at bs goal + 6 * n ≤ rule_count bs + 168

-- a segment of one task that has used nothing yet
pub record Fresh (b : Branch) : Type 0 where
  pub len : b.len ≡ 1
  pub used : b.used ≡ empty_s
  pub slack : b.slack ≡ false

-- the list on the tape from the branch's place up to a way's
abbrev pub found : Branch → Way → List ℕ → List ℕ
found b w tape = slice b.at w.at tape

-- A way found: the list on the tape is the least; items, slack and lines seen are its own and those before; and whether it keeps to the
-- given steps.
pub record Solves (bs : List ℕ) (es : Scope) (A : Agenda) (f : Floor) (b : Branch) (tape tape' : List ℕ) (w : Way) : Type 0 where
  pub onward : b.at ≤ w.at
  pub bounded : w.at ≤ b.limit
  pub items_used : Items
  pub slack_left : Bool
  pub least : Least (eligible bs) es A (place_at (rule_count bs) f b tape) (found b w tape') items_used slack_left
  pub used : items (rule_count bs) w.used ≡ items (rule_count bs) b.used ∪ items_used
  pub slack : w.slack ≡ (b.slack || slack_left)
  pub seen : Seen bs w.seen (take w.at tape')
  pub past : Next (found b w tape') (given_at f b.at tape) (from_at f b.at) (given_at (past_f f w.kept) w.at tape')
      (from_at (past_f f w.kept) w.at)

-- What each answer says.
unfoldable pub Told : List ℕ → Scope → Agenda → Floor → Branch → List ℕ → List ℕ → Answer → Type 0
Told bs es A f b tape tape' (Solved w) = Solves bs es A f b tape tape' w
Told bs es A f b tape tape' Stuck = None (eligible bs) es A (place_at (rule_count bs) f b tape)
Told bs es A f b tape tape' Tired = Unit {0}

-- What every function of the engine promises: what it tells of an agenda; the steps before the branch and the entries in scope are kept.
-- Behind them tape and tables are free: as many places as before.
pub record Searches (bs : List ℕ) (A : Agenda) (f : Floor) (b : Branch) (tape tape' nodes nodes' heads heads' : List ℕ) (r : Answer)
    : Type 0 where
  pub told : Told bs (scope_in bs nodes b.count) A f b tape tape' r
  pub tape_kept : Kept b.at tape tape'
  pub node_kept : Kept b.count nodes nodes'
  pub head_kept : Kept b.count heads heads'

-- of the agenda in an array; of a goal alone
abbrev pub Solving : List ℕ → List ℕ → Floor → Branch → List ℕ → List ℕ → List ℕ → List ℕ → List ℕ → List ℕ → Answer → Type 0
Solving bs codes f b tape tape' nodes nodes' heads heads' r =
    Searches bs (agenda_of bs codes b.len) f b tape tape' nodes nodes' heads heads' r

abbrev pub Alone : List ℕ → ℕ → ℕ → Floor → Branch → List ℕ → List ℕ → List ℕ → List ℕ → List ℕ → List ℕ → Answer → Type 0
Alone bs goal n f b tape tape' nodes nodes' heads heads' r =
    Searches bs (task (goal_at bs goal) n ∷ []) f b tape tape' nodes nodes' heads heads' r

-- What is walked at a part: the goal at a node, or what is left of the clause at it that is used for a name.
unfoldable pub part_goal : List ℕ → Bool → ℕ → ℕ → Goal
part_goal bs false name node = goal_at bs node
part_goal bs true name node = residual (scope_of bs).fits name (clause_of bs node)

-- of a part before the tasks of the agenda
abbrev pub Entering : List ℕ → List ℕ → Bool → ℕ → ℕ → ℕ → Floor → Branch → List ℕ → List ℕ → List ℕ → List ℕ → List ℕ → List ℕ
    → Answer → Type 0
Entering bs codes meets part name n f b tape tape' nodes nodes' heads heads' r =
    Searches bs (task (part_goal bs meets name part) n ∷ agenda_of bs codes b.len) f b tape tape' nodes nodes' heads heads' r

-- of what is left once the entry e is used, before the rest
pub record Using (bs codes : List ℕ) (e : ℕ) (f : Floor) (b : Branch) (tape tape' nodes nodes' heads heads' : List ℕ) (r : Answer)
    : Type 0 where
  pub searched : Searches bs
      (task (part_goal bs true (left_at bs (top_node codes b)) (get_or nodes e 0)) (top_nest codes b - 1) ∷ agenda_of bs codes (b.len - 1)) f
      (using_b b (rule_count bs) (line_count bs) e (b.len - 1)) (set tape b.at e) tape' nodes nodes' heads heads' r

-- The part is a goal of the card, or a clause of it that can be used for the name, with room for what it may grow to.
unfoldable pub PartGood : List ℕ → Bool → ℕ → ℕ → Branch → Type 0
PartGood bs false part n b =
    (goal_part bs (node_count bs) part ≡ true) × (b.len + height_at bs part + 6 * n ≤ 104)
    × (b.count + height_at bs part + 6 * n ≤ rule_count bs + 168)
PartGood bs true part n b =
    (clause_part bs (node_count bs) part ≡ true) × (b.len + height_at bs part + 6 * n ≤ 105)
    × (b.count + height_at bs part + 6 * n ≤ rule_count bs + 169)

pub record PartReady (bs codes : List ℕ) (meets : Bool) (part name n : ℕ) (b : Branch) : Type 0 where
  pub laid : Laid bs codes b.len b.count
  pub nested : n < 32
  pub good : PartGood bs meets part n b
  pub fitting : meets ≡ true → usable (scope_of bs).fits name (clause_of bs part) ≡ true

-- the node is ⊕, or a menu
unfoldable pub choice_kind : Bool → ℕ
choice_kind false = 8
choice_kind true = 10

pub record ChoiceReady (bs codes : List ℕ) (meets : Bool) (node name n : ℕ) (b : Branch) : Type 0 where
  pub laid : Laid bs codes b.len b.count
  pub nested : n < 32
  pub good : PartGood bs meets node n b
  pub kind : kind_at bs node ≡ choice_kind meets

-- a choice, and a step may be taken for it
pub record ChoiceStep (c : ℕ) (b : Branch) : Type 0 where
  pub choice : (c ≡ left_choice) ⊎ (c ≡ right_choice)
  pub room : b.at < b.limit

-- Of one side, where `first` is the least step to be taken: below it nothing is found; else what is told past the choice.
pub record Siding (bs codes : List ℕ) (meets : Bool) (node name n c first : ℕ) (f : Floor) (b : Branch)
    (tape tape' nodes nodes' heads heads' : List ℕ) (r : Answer) : Type 0 where
  pub tape_kept : Kept b.at tape tape'
  pub node_kept : Kept b.count nodes nodes'
  pub head_kept : Kept b.count heads heads'
  pub below : c < first → (r ≡ Stuck) × (tape' ≡ tape)
  pub past : first ≤ c → (s : Answer) × (r ≡ followed (keeps_by f b.at first c) s)
      × Searches bs (task (part_goal bs meets name (side_at bs node c)) n ∷ agenda_of bs codes b.len) (past_f f (keeps_by f b.at first c))
      (chose_b b) (set tape b.at c) tape' nodes nodes' heads heads' s

-- What the prunings ask of the entries in scope, and what they are stocked with.
pub record Equipped (bs nodes : List ℕ) (n : ℕ) (Stock : Type 0) : Type 0 where
  pub rooted : Rooted bs nodes n
  pub stocked : Stock

-- Only a run that may gives up.
unfoldable pub Weary : Outcome → Type 0 → Type 0
Weary IsSolved may = Unit {0}
Weary IsStuck may = Unit {0}
Weary IsTired may = may

-- What a call leaves: prunings stocked as before.
pub record Stays (Stock may : Type 0) (r : Outcome) : Type 0 where
  pub stocked : Stock
  pub weary : Weary r may
