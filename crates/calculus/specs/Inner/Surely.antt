-- What is surely used, read off a list: along the goal, as a function, and of a trace.
use Rattle.std.specs.Prelude.{ℕ, zero, suc, ◌≡◌, Bool, cond, List, [], ◌∷◌, eqb}
use Rattle.calculus.specs.Formula.{Goal, atomᴳ, topᴳ, oneᴳ, zeroᴳ, tensor, with, oplus, lolliᴳ}
use Rattle.calculus.specs.Items.{Items, ∅, ◌∪◌, ◌∩◌, only}
use Rattle.calculus.specs.Derivation.{Scope, linear_at, residual_at, lend}
use Rattle.calculus.specs.Steps.{left_choice}
use Rattle.calculus.specs.Job.{Job}
use Rattle.calculus.specs.Wanted.{Part}
use Rattle.calculus.specs.Inner.Trace.{Gathered, Trace, trace_1, trace_⊤, trace_0, trace_⊗, trace_&, trace_⊸, trace_side, trace_rule}
use Rattle.calculus.specs.Inner.Trace.{trace_item, trace_head, trace_recipe}

-- the items surely used, and the steps that follow
pub record Sure : Type 0 where
  pub used : Items
  pub rest : List ℕ

abbrev pub sure : Items → List ℕ → Sure
sure U l = record { used = U; rest = l }

-- two parts one after the other
unfoldable pub surely_in_turn : (Items → Items → Items) → Sure → (List ℕ → Sure) → Sure
surely_in_turn op x f = sure (op x.used (f x.rest).used) (f x.rest).rest

-- the side that the next step takes
unfoldable pub taken : (List ℕ → Sure) → (List ℕ → Sure) → List ℕ → Sure
taken f g [] = sure ∅ []
taken f g (c ∷ l) = cond (eqb c left_choice) (f l) (g l)

-- a use of e, from its conditions
unfoldable pub used_first : Bool → ℕ → Sure → Sure
used_first linear e x = sure (cond linear (only e ∪ x.used) x.used) x.rest

-- a goal, by how a name is read
unfoldable pub goal_surely : (Scope → ℕ → List ℕ → Sure) → Goal → Scope → List ℕ → Sure
goal_surely name (atomᴳ a) es l = name es a l
goal_surely name topᴳ es l = sure ∅ l
goal_surely name oneᴳ es l = sure ∅ l
goal_surely name zeroᴳ es l = sure ∅ l
goal_surely name (tensor G H) es l = surely_in_turn ◌∪◌ (goal_surely name G es l) (goal_surely name H es)
goal_surely name (with G H) es l = surely_in_turn ◌∩◌ (goal_surely name G es l) (goal_surely name H es)
goal_surely name (oplus G H) es l = taken (goal_surely name G es) (goal_surely name H es) l
goal_surely name (lolliᴳ D G) es l = goal_surely name G (lend es D) l

-- a name, by what the entry that is the next step leaves to derive
unfoldable pub entry_surely : (Goal → Scope → List ℕ → Sure) → Scope → ℕ → List ℕ → Sure
entry_surely inner es a [] = sure ∅ []
entry_surely inner es a (e ∷ l) = used_first (linear_at es e) e (inner (residual_at es a e) es l)

-- with nesting n left
unfoldable pub name_surely : ℕ → Scope → ℕ → List ℕ → Sure
name_surely zero = λ es a l. sure ∅ l
name_surely (suc n) = entry_surely (goal_surely (name_surely n))

-- what a list of a job surely uses
unfoldable pub surely_of : Job → List ℕ → Items
surely_of j l = (goal_surely (name_surely j.depth) j.goal j.scope l).used

-- what a walk surely uses
unfoldable pub surely_in : {n : ℕ} {es : Scope} {p : Part} {w : Gathered} → Trace n es p w → Items
surely_in (trace_1 e) = ∅
surely_in (trace_⊤ e) = ∅
surely_in (trace_0 e) = ∅
surely_in (trace_⊗ s x y) = surely_in x ∪ surely_in y
surely_in (trace_& s x y) = surely_in x ∩ surely_in y
surely_in (trace_⊸ s x) = surely_in x
surely_in (trace_side o s x) = surely_in x
surely_in (trace_rule r s x) = surely_in x
surely_in (trace_item {e} r s x) = only e ∪ surely_in x
surely_in (trace_head f e) = ∅
surely_in (trace_recipe s x y) = surely_in x ∪ surely_in y

-- Traced n es p w U: walking the list of w at the part p gathers w and surely uses U.
pub record Traced (n : ℕ) (es : Scope) (p : Part) (w : Gathered) (U : Items) : Type 0 where
  pub trace : Trace n es p w
  pub sure : surely_in trace ≡ U
