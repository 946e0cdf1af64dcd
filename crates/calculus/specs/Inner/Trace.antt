-- Traces: the walk of a list along a goal that does not mind items. It goes by clauses, gathers what the list takes, and tells whether the
-- items divided as the rules ask; it never breaks off because they did not.
use Rattle.std.specs.Prelude.{ℕ, suc, ◌≤◌, ◌≡◌, ◌↔◌, Bool, true, false, ◌&&◌, ◌||◌, List, [], ◌∷◌, ◌++◌, length}
use Rattle.calculus.specs.Formula.{Goal, Clause, atomᴳ, topᴳ, oneᴳ, zeroᴳ, tensor, with, lolliᴳ, atomᴰ, lolliᴰ}
use Rattle.calculus.specs.Items.{Items, ◌∪◌, Empty, Within}
use Rattle.calculus.specs.Derivation.{Scope, size, clause_at, linear_at, lend}
use Rattle.calculus.specs.Job.{Job}
use Rattle.calculus.specs.Walk.{Walk, goal_walk, clause_walk, name_within}
use Rattle.calculus.specs.Wanted.{Part, goal, meet, Side}
use Rattle.calculus.specs.Inner.Summary.{Same, Joins, Without, Plus, spare, Covers}

-- the walk of a part, with nesting n left
unfoldable pub part_walk : ℕ → Part → Scope → ℕ → List ℕ → Walk
part_walk n (goal G) = goal_walk (name_within n) G
part_walk n (meet a D) = clause_walk (name_within n) a D

-- What a walk gathers: its list, the outer items that it takes, whether there is slack, and whether all items divided.
pub record Gathered : Type 0 where
  pub list : List ℕ
  pub used : Items
  pub slack : Bool
  pub alive : Bool

-- the Boolean says whether P holds
abbrev pub Says : Bool → Type 0 → Type 0
Says b P = (b ≡ true) ↔ P

-- no item is in both
pub record Apart (U W : Items) : Type 0 where
  pub apart : (i : ℕ) → (U i && W i) ≡ false

-- w at a part that takes no step: 1, ⊤, or a head
pub record Ends (w : Gathered) (slack : Bool) : Type 0 where
  pub no_list : w.list ≡ []
  pub unused : Empty w.used
  pub slack_is : w.slack ≡ slack
  pub is_alive : w.alive ≡ true

-- w at 0: it takes no step, and never divides
pub record Fails (w : Gathered) : Type 0 where
  pub no_list : w.list ≡ []
  pub unused : Empty w.used
  pub slack_is : w.slack ≡ false
  pub is_dead : w.alive ≡ false

-- w at a ⊗, from x and y at its parts: their shares are apart
pub record Tensors (w x y : Gathered) : Type 0 where
  pub lists : w.list ≡ x.list ++ y.list
  pub joined : Joins w.used x.used y.used
  pub slacks : w.slack ≡ (x.slack || y.slack)
  pub alives : Says w.alive ((x.alive ≡ true) × (y.alive ≡ true) × Apart x.used y.used)

-- w at a &, from x and y at its parts: each side covers the other
pub record Withs (es : Scope) (w x y : Gathered) : Type 0 where
  pub lists : w.list ≡ x.list ++ y.list
  pub joined : Joins w.used x.used y.used
  pub slacks : w.slack ≡ (x.slack && y.slack)
  pub alives : Says w.alive ((x.alive ≡ true) × (y.alive ≡ true)
      × Covers (spare es x.slack) x.used y.used × Covers (spare es y.slack) y.used x.used)

-- w at a ⊸, from x at its goal: without slack the lent clause is taken
pub record Lends (es : Scope) (w x : Gathered) : Type 0 where
  pub lists : w.list ≡ x.list
  pub rest : Without w.used x.used (size es)
  pub slacks : w.slack ≡ x.slack
  pub alives : Says w.alive ((x.alive ≡ true) × ((spare es x.slack (size es) || x.used (size es)) ≡ true))

-- w at a name for which the rule e is used, from x at its conditions; and at a choice e, from x at the side taken
pub record UsesRule (e : ℕ) (w x : Gathered) : Type 0 where
  pub lists : w.list ≡ e ∷ x.list
  pub same : Same w.used x.used
  pub slacks : w.slack ≡ x.slack
  pub alives : w.alive ≡ x.alive

-- the same with a line or lent clause e: it is gone, so its conditions do not take it again
pub record UsesItem (e : ℕ) (w x : Gathered) : Type 0 where
  pub lists : w.list ≡ e ∷ x.list
  pub more : Plus w.used x.used e
  pub slacks : w.slack ≡ x.slack
  pub alives : Says w.alive ((x.alive ≡ true) × (x.used e ≡ false))

-- Trace n es p w: walking the list of w at the part p in the scope es, with nesting n left, gathers w.
pub data Trace : ℕ → Scope → Part → Gathered → Type 0 where
  trace_1 : {n : ℕ} {es : Scope} {w : Gathered} → Ends w false → Trace n es (goal oneᴳ) w
  trace_⊤ : {n : ℕ} {es : Scope} {w : Gathered} → Ends w true → Trace n es (goal topᴳ) w
  trace_0 : {n : ℕ} {es : Scope} {w : Gathered} → Fails w → Trace n es (goal zeroᴳ) w
  trace_⊗ : {n : ℕ} {es : Scope} {G H : Goal} {w x y : Gathered} → Tensors w x y
      → Trace n es (goal G) x → Trace n es (goal H) y → Trace n es (goal (tensor G H)) w
  trace_& : {n : ℕ} {es : Scope} {G H : Goal} {w x y : Gathered} → Withs es w x y
      → Trace n es (goal G) x → Trace n es (goal H) y → Trace n es (goal (with G H)) w
  trace_⊸ : {n : ℕ} {es : Scope} {D : Clause} {G : Goal} {w x : Gathered} → Lends es w x
      → Trace n (lend es D) (goal G) x → Trace n es (goal (lolliᴳ D G)) w
  trace_side : {n c : ℕ} {es : Scope} {p q : Part} {w x : Gathered} → Side es p c q → UsesRule c w x
      → Trace n es q x → Trace n es p w
  trace_rule : {n : ℕ} {es : Scope} {a e : ℕ} {w x : Gathered} → linear_at es e ≡ false → UsesRule e w x
      → Trace n es (meet a (clause_at es e)) x → Trace (suc n) es (goal (atomᴳ a)) w
  trace_item : {n : ℕ} {es : Scope} {a e : ℕ} {w x : Gathered} → linear_at es e ≡ true → UsesItem e w x
      → Trace n es (meet a (clause_at es e)) x → Trace (suc n) es (goal (atomᴳ a)) w
  -- the head is reached, and fits
  trace_head : {n : ℕ} {es : Scope} {a b : ℕ} {w : Gathered} → es.fits b a ≡ true → Ends w false → Trace n es (meet a (atomᴰ b)) w
  -- the conditions nearer the head, then this one
  trace_recipe : {n : ℕ} {es : Scope} {a : ℕ} {G : Goal} {D : Clause} {w x y : Gathered} → Tensors w x y
      → Trace n es (meet a D) x → Trace n es (goal G) y → Trace n es (meet a (lolliᴰ G D)) w

-- Two walks, with what follows each list, agree.
pub record Agreed (w x : Gathered) (r t : List ℕ) : Type 0 where
  pub lists : w.list ≡ x.list
  pub rests : r ≡ t
  pub items : Same w.used x.used
  pub slacks : w.slack ≡ x.slack
  pub alives : w.alive ≡ x.alive

-- The walk of l ends, its items divide, it takes none but lines, and there is slack or it takes all strict ones; l keeps to the step limit.
pub record Accounts (j : Job) (l : List ℕ) : Type 0 where
  pub gathered : Gathered
  pub trace : Trace j.depth j.scope (goal j.goal) gathered
  pub list : gathered.list ≡ l
  pub alive : gathered.alive ≡ true
  pub within : Within gathered.used (j.strict ∪ j.lax)
  pub all_strict : Covers (spare j.scope gathered.slack) gathered.used j.strict
  pub counted : length l ≤ j.length_limit
