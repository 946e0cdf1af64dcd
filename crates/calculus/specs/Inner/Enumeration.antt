-- All lists of a job, to be computed where it is small; and a test whether a list is the first of them.
use Rattle.std.specs.Prelude.{ℕ, zero, suc, Bool, true, false, not, ◌&&◌, ◌||◌, length, eqb, leb, ltb}
use mathlib.Core.List.{List, [], ◌∷◌, ◌++◌, map, flat_map}
use Rattle.calculus.specs.Formula.{Goal, atomᴳ, topᴳ, oneᴳ, zeroᴳ, tensor, with, oplus, lolliᴳ}
use Rattle.calculus.specs.Items.{Items, ∅, ◌∪◌, ◌∖◌, only}
use Rattle.calculus.specs.Derivation.{Scope, size, linear_at, residual_at, lend}
use Rattle.calculus.specs.Steps.{left_choice, right_choice}
use Rattle.calculus.specs.Job.{Job}

-- A list, the outer items that it takes, and whether there is slack.
pub record Taking : Type 0 where
  pub list : List ℕ
  pub used : Items
  pub slack : Bool

abbrev pub taking : List ℕ → Items → Bool → Taking
taking l U v = record { list = l; used = U; slack = v }

-- x if the test is passed
unfoldable pub kept : {A : Type 0} → Bool → A → List A
kept true x = x ∷ []
kept false x = []

-- all that f makes of the elements of two lists
unfoldable pub pairs : {A B : Type 0} → (A → A → List B) → List A → List A → List B
pairs f xs ys = flat_map (λ x. flat_map (f x) ys) xs

-- the numbers below n
unfoldable pub below : ℕ → List ℕ
below zero = []
below (suc n) = n ∷ below n

-- all of them are in I
unfoldable pub all : ℕ → Items → Bool
all zero I = true
all (suc n) I = I n && all n I

-- no item of the scope is in both
unfoldable pub apart : Scope → Items → Items → Bool
apart es U W = all (size es) (λ i. not (U i && W i))

-- every item of the scope that is in I is in U, or there is slack
unfoldable pub covering : Scope → Bool → Items → Items → Bool
covering es v U I = all (size es) (λ i. not (I i) || (v || U i))

-- What is made of the takings at the parts of a goal, as in `Sum`: ⊗, &, ⊸, and the use of a rule or an item e.
unfoldable pub tensored : Scope → Taking → Taking → List Taking
tensored es x y =
    kept (apart es x.used y.used) (taking (x.list ++ y.list) (x.used ∪ y.used) (x.slack || y.slack))

unfoldable pub sided : Scope → Taking → Taking → List Taking
sided es x y =
    kept (covering es x.slack x.used y.used && covering es y.slack y.used x.used)
    (taking (x.list ++ y.list) (x.used ∪ y.used) (x.slack && y.slack))

unfoldable pub lent : Scope → Taking → List Taking
lent es x = kept (x.slack || x.used (size es)) (taking x.list (x.used ∖ only (size es)) x.slack)

unfoldable pub taking_use : Bool → ℕ → Taking → List Taking
taking_use false e x = taking (e ∷ x.list) x.used x.slack ∷ []
taking_use true e x = kept (not (x.used e)) (taking (e ∷ x.list) (x.used ∪ only e) x.slack)

-- the same behind a choice
unfoldable pub side_taken : ℕ → Taking → Taking
side_taken c x = taking (c ∷ x.list) x.used x.slack

-- the takings at a goal, where `names` has those at a name
unfoldable pub takings : (ℕ → Scope → List Taking) → Goal → Scope → List Taking
takings names (atomᴳ a) es = names a es
takings names topᴳ es = taking [] ∅ true ∷ []
takings names oneᴳ es = taking [] ∅ false ∷ []
takings names zeroᴳ es = []
takings names (tensor G H) es = pairs (tensored es) (takings names G es) (takings names H es)
takings names (with G H) es = pairs (sided es) (takings names G es) (takings names H es)
takings names (oplus G H) es = map (side_taken left_choice) (takings names G es) ++ map (side_taken right_choice) (takings names H es)
takings names (lolliᴳ D G) es = flat_map (lent es) (takings names G (lend es D))

-- those at a name with nesting n left: every entry is tried
unfoldable pub named : ℕ → ℕ → Scope → List Taking
named zero a es = []
named (suc n) a es =
    flat_map (λ e. flat_map (taking_use (linear_at es e) e) (takings (named n) (residual_at es a e) es)) (below (size es))

-- it takes no items but the job's, all strict ones unless there is slack, and no more steps than the limit
unfoldable pub fitting : Job → Taking → Bool
fitting j x =
    covering j.scope false (j.strict ∪ j.lax) x.used
    && (covering j.scope x.slack x.used j.strict && leb (length x.list) j.length_limit)

-- all lists of the job
unfoldable pub lists : Job → List (List ℕ)
lists j = flat_map (λ x. kept (fitting j x) x.list) (takings (named j.depth) j.goal j.scope)

-- the same list or, where that is asked, one before it
unfoldable pub matches : Bool → List ℕ → List ℕ → Bool
matches b [] [] = true
matches b [] (y ∷ m) = false
matches b (x ∷ l) [] = false
matches b (x ∷ l) (y ∷ m) = elim (eqb x y) [ true ↦ matches b l m | false ↦ b && ltb x y ]

-- l is one of these lists
unfoldable pub among : List ℕ → List (List ℕ) → Bool
among l [] = false
among l (m ∷ ms) = matches false l m || among l ms

-- l is each of them, or comes before it
unfoldable pub leads : List ℕ → List (List ℕ) → Bool
leads l [] = true
leads l (m ∷ ms) = matches true l m && leads l ms
