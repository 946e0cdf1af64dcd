-- What a walk asks, and what it tells of the given steps in terms of traces.
use Rattle.std.specs.Prelude.{Result, Ok, Err, ℕ, ◌+◌, ◌*◌, ◌≤◌, ◌<◌, ◌≡◌, ◌⊎◌, Bool, true, List, [], ◌∷◌, ◌++◌, length, get_or, take, drop}
use Rattle.calculus.specs.Formula.{atomᴳ, usable}
use Rattle.calculus.specs.Derivation.{Scope}
use Rattle.calculus.specs.Steps.{left_choice, right_choice}
use Rattle.calculus.specs.Walk.{Walk, stops, choice_walk}
use Rattle.calculus.specs.Wanted.{Part, goal, meet}
use Rattle.calculus.specs.Items.{Items}
use Rattle.calculus.specs.Inner.Trace.{part_walk, Gathered}
use Rattle.calculus.specs.Inner.Surely.{Traced}
use Rattle.lines.specs.declared.LineSet.{LineSet}
use Rattle.card.specs.declared.faults.Refusal.{Refusal}
use Rattle.card.specs.Verdict.{where_of, step, number_of}
use Rattle.card.specs.Format.{rule_count, line_count, node_count, left_at, right_at}
use Rattle.card.specs.Fault.{Sound, goal_part, clause_part, height_at}
use Rattle.card.specs.Decode.{goal_at, clause_of, scope_of}
use Rattle.scope.specs.Inner.Sets.{items, strict_of, LinesOf}
use Rattle.scope.specs.declared.Tables.{Tables}
use Rattle.scope.specs.Inner.Tables.{table_scope, TableEntered, Kept}
use Rattle.summary.specs.declared.Position.{Position}
use Rattle.summary.specs.declared.Summary.{Summary}
use Rattle.summary.specs.Inner.Values.{MetCounted}

-- the given steps from a place on
unfoldable pub from : List ℕ → Position → ℕ → List ℕ
from steps b at = drop at (take b.given steps)

-- a summary in the calculus' terms, with the list walked
unfoldable pub gathered : ℕ → Summary → List ℕ → Gathered
gathered P w l = record { list = l; used = items P w.used; slack = w.slack; alive = w.alive }

-- The walk of the part p ended with the summary w; no must line was met without a step, and of the lines just those in `sure` are surely
-- used.
pub record EndsWith (strict : LineSet) (steps : List ℕ) (b : Position) (es : Scope) (p : Part) (w : Summary) : Type 0 where
  pub onward : b.at ≤ w.at
  pub bounded : w.at ≤ b.given
  pub list : List ℕ
  pub along : list ++ from steps b w.at ≡ from steps b b.at
  pub surely : Items
  pub traced : Traced b.depth es p (gathered b.rules w list) surely
  pub counted : MetCounted strict b.met w
  pub pace : w.met + b.at ≤ b.met + w.at
  pub sure : LinesOf b.rules w.sure surely

-- The walk of the part p stops, with the refusal's number at the step that is its place.
pub record StopsWith (steps : List ℕ) (b : Position) (es : Scope) (p : Part) (f : Refusal) : Type 0 where
  pub index : ℕ
  pub place : where_of f.place ≡ step index
  pub walk : part_walk b.depth p es b.at (from steps b b.at) ≡ stops (number_of f.fault) index

-- What each answer says.
unfoldable pub Tells : LineSet → List ℕ → Position → Scope → Part → Result Summary Refusal → Type 0
Tells strict steps b es p (Ok w) = EndsWith strict steps b es p w
Tells strict steps b es p (Err f) = StopsWith steps b es p f

-- What every function of the walk asks: a sound card, steps and tables in order, room, and no more must lines met than steps.
pub record WalkReady (bs steps : List ℕ) (t : Tables) (b : Position) : Type 0 where
  pub sound : Sound bs
  pub rules : b.rules ≡ rule_count bs
  pub given : b.given ≤ length steps
  pub short : b.given ≤ 255
  pub at : b.at ≤ b.given
  pub entered : TableEntered bs t.nodes t.linear b.count
  pub scoped : rule_count bs + line_count bs ≤ b.count
  pub few : b.count ≤ rule_count bs + 168
  pub met : b.met ≤ b.at

-- The node is a goal of the card, and no more clauses can be lent below it than there is room for.
pub record GoalWalkReady (bs : List ℕ) (b : Position) (node : ℕ) : Type 0 where
  pub is_goal_part : goal_part bs (node_count bs) node ≡ true
  pub deep : b.count + height_at bs node + 6 * b.depth ≤ b.rules + 168

-- The node is a clause of the card that can be used for the name, and the same of the room.
pub record ClauseReady (bs : List ℕ) (b : Position) (name node : ℕ) : Type 0 where
  pub clause_node : clause_part bs (node_count bs) node ≡ true
  pub fitting : usable (scope_of bs).fits name (clause_of bs node) ≡ true
  pub deep : b.count + 7 + 6 * b.depth ≤ b.rules + 168

-- There is a step left, and it is e.
pub record StepIs (steps : List ℕ) (b : Position) (e : ℕ) : Type 0 where
  pub room : b.at < b.given
  pub next : from steps b b.at ≡ e ∷ from steps b (b.at + 1)
  pub small : e < 256

-- There is no step left, and the refusal is 18, there.
pub record NoStep (steps : List ℕ) (b : Position) (f : Refusal) : Type 0 where
  pub none : from steps b b.at ≡ []
  pub place : where_of f.place ≡ step b.at
  pub number : number_of f.fault ≡ 18

-- What the test for a step answers.
unfoldable pub StepGiven : List ℕ → Position → Result ℕ Refusal → Type 0
StepGiven steps b (Ok e) = StepIs steps b e
StepGiven steps b (Err f) = NoStep steps b f

-- The next step is the entry e in scope, and it can be used for the name.
pub record StepUsable (bs steps : List ℕ) (t : Tables) (b : Position) (name e : ℕ) : Type 0 where
  pub deep : 1 ≤ b.depth
  pub room : b.at < b.given
  pub inside : e < b.count
  pub next : from steps b b.at ≡ e ∷ from steps b (b.at + 1)
  pub fitting : usable (scope_of bs).fits name (clause_of bs (get_or t.nodes e 0)) ≡ true

-- What the test of the next step answers.
unfoldable pub Stepping : List ℕ → List ℕ → Tables → Position → ℕ → Result ℕ Refusal → Type 0
Stepping bs steps t b name (Ok e) = StepUsable bs steps t b name e
Stepping bs steps t b name (Err f) = StopsWith steps b (table_scope bs t.nodes t.linear b.count) (goal (atomᴳ name)) f

-- The choice c takes the part m of the node, which is one that may be taken.
abbrev pub SideChosen : List ℕ → ℕ → Bool → Bool → ℕ → ℕ → Type 0
SideChosen bs node first second c m =
    ((c ≡ left_choice) × ((first ≡ true) × (m ≡ left_at bs node)))
    ⊎ ((c ≡ right_choice) × ((second ≡ true) × (m ≡ right_at bs node)))

-- The next step is such a choice.
pub record CanChoose (bs steps : List ℕ) (b : Position) (node : ℕ) (first second : Bool) (m : ℕ) : Type 0 where
  pub choice : ℕ
  pub room : b.at < b.given
  pub next : from steps b b.at ≡ choice ∷ from steps b (b.at + 1)
  pub chosen : SideChosen bs node first second choice m

-- The next step is no such choice, whatever the parts are walked as.
pub record CannotChoose (steps : List ℕ) (b : Position) (first second : Bool) (f : Refusal) : Type 0 where
  pub place : where_of f.place ≡ step b.at
  pub walk : (x y : ℕ → List ℕ → Walk) → choice_walk first second x y b.at (from steps b b.at) ≡ stops (number_of f.fault) b.at

-- What the test of the next step answers at a choice.
unfoldable pub SideTaking : List ℕ → List ℕ → Position → ℕ → Bool → Bool → Result ℕ Refusal → Type 0
SideTaking bs steps b node first second (Ok m) = CanChoose bs steps b node first second m
SideTaking bs steps b node first second (Err f) = CannotChoose steps b first second f

-- What every function of the walk promises: what it tells of the part, and that the entries in scope are kept. Behind them the tables are
-- free: as many places as before.
pub record PartWalks (bs steps : List ℕ) (t t' : Tables) (b : Position) (p : Part) (r : Result Summary Refusal) : Type 0 where
  pub tells : Tells (strict_of bs) steps b (table_scope bs t.nodes t.linear b.count) p r
  pub node_kept : Kept b.count t.nodes t'.nodes
  pub linear_kept : Kept b.count t.linear t'.linear

-- the walk of a goal node, of the use of an entry for a name, and of a clause node in use
abbrev pub GoalWalks : List ℕ → List ℕ → Tables → Tables → Position → ℕ → Result Summary Refusal → Type 0
GoalWalks bs steps t t' b node r = PartWalks bs steps t t' b (goal (goal_at bs node)) r

abbrev pub UseWalks : List ℕ → List ℕ → Tables → Tables → Position → ℕ → Result Summary Refusal → Type 0
UseWalks bs steps t t' b name r = PartWalks bs steps t t' b (goal (atomᴳ name)) r

abbrev pub ClauseWalks : List ℕ → List ℕ → Tables → Tables → Position → ℕ → ℕ → Result Summary Refusal → Type 0
ClauseWalks bs steps t t' b name node r =
    PartWalks bs steps t t' b (meet name (clause_of bs node)) r
