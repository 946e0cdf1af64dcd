-- Maps of entries: from one scope to another, from one job to another, and the swap of two lines.
use Rattle.std.specs.Prelude.{ℕ, ◌+◌, ◌≤◌, ◌<◌, ◌≡◌, ◌⊎◌, true, List, [], ◌∷◌, ◌++◌}
use Rattle.std.proofs.Math.Logic.{ite}
use Rattle.std.proofs.Math.Decide.{ℕ_discrete}
use Rattle.calculus.specs.Formula.{Goal, tensor}
use Rattle.calculus.specs.Items.{Items, ◌∪◌}
use Rattle.calculus.specs.Derivation.{Scope, size, clause_at, linear_at, Derives, res_1, res_⊤, res_⊗, res_&, res_⊕₁, res_⊕₂, res_⊸}
use Rattle.calculus.specs.Derivation.{res_atm_int, res_atm_lin}
use Rattle.calculus.specs.Steps.{steps, nesting, left_choice, right_choice}
use Rattle.calculus.specs.Job.{Job}

-- f takes the entries of one scope to those of another, keeping clauses and linearity; what fits in the one fits in the other; g undoes
-- f; lent clauses go on from the end.
pub record Renaming (es fs : Scope) (f g : ℕ → ℕ) : Type 0 where
  pub within : (e : ℕ) → e < size es → f e < size fs
  pub clause : (e : ℕ) → e < size es → clause_at fs (f e) ≡ clause_at es e
  pub linear : (e : ℕ) → e < size es → linear_at fs (f e) ≡ linear_at es e
  pub fit : (head wanted : ℕ) → es.fits head wanted ≡ true → fs.fits head wanted ≡ true
  pub undone : (e : ℕ) → g (f e) ≡ e
  pub beyond : (k : ℕ) → f (size es + k) ≡ size fs + k

-- J holds the images of the items of I and no others.
pub record Image (f g : ℕ → ℕ) (I J : Items) : Type 0 where
  pub taken : (i : ℕ) → J (f i) ≡ I i
  pub sole : (k : ℕ) → J k ≡ true → f (g k) ≡ k

-- the steps of a derivation with its entries renamed, and nothing else
unfoldable pub over : {es : Scope} {I : Items} {G : Goal} → (ℕ → ℕ) → Derives es I G → List ℕ
over f (res_1 n) = []
over f res_⊤ = []
over f (res_⊗ s l r) = over f l ++ over f r
over f (res_& l r) = over f l ++ over f r
over f (res_⊕₁ d) = left_choice ∷ over f d
over f (res_⊕₂ d) = right_choice ∷ over f d
over f (res_⊸ h d) = over f d
over f (res_atm_int e n d) = f e ∷ over f d
over f (res_atm_lin e n h d) = f e ∷ over f d

-- a derivation with this list and this nesting
pub record Renamed (fs : Scope) (J : Items) (G : Goal) (l : List ℕ) (n : ℕ) : Type 0 where
  pub tree : Derives fs J G
  pub list : steps tree ≡ l
  pub depth : nesting tree ≡ n

-- The job j goes over into k along f: its entries do, each must line of k is one of j, each line of j is one of k, the goal is the same
-- and the limits are no lower.
pub record JobRenaming (j k : Job) (f g : ℕ → ℕ) : Type 0 where
  pub entries : Renaming j.scope k.scope f g
  pub strict_from : (i : ℕ) → k.strict i ≡ true → (f (g i) ≡ i) × (j.strict (g i) ≡ true)
  pub lines_to : (i : ℕ) → (j.strict ∪ j.lax) i ≡ true → (k.strict ∪ k.lax) (f i) ≡ true
  pub same_goal : j.goal ≡ k.goal
  pub no_shallower : j.depth ≤ k.depth
  pub no_shorter : j.length_limit ≤ k.length_limit

-- Two jobs stand side by side in k, the one along f, the other along h: their entries go over, each must line of k is one of theirs, their
-- lines are lines of k and apart, the goal is ⊗ of the two and no nesting limit is lower.
pub record Beside (i j k : Job) (f g h e : ℕ → ℕ) : Type 0 where
  pub first : Renaming i.scope k.scope f g
  pub second : Renaming j.scope k.scope h e
  pub strict_from : (x : ℕ) → k.strict x ≡ true
      → ((f (g x) ≡ x) × (i.strict (g x) ≡ true)) ⊎ ((h (e x) ≡ x) × (j.strict (e x) ≡ true))
  pub first_lines : (x : ℕ) → (i.strict ∪ i.lax) x ≡ true → (k.strict ∪ k.lax) (f x) ≡ true
  pub second_lines : (x : ℕ) → (j.strict ∪ j.lax) x ≡ true → (k.strict ∪ k.lax) (h x) ≡ true
  pub apart : (x y : ℕ) → (i.strict ∪ i.lax) x ≡ true → (j.strict ∪ j.lax) y ≡ true → f x ≡ h y → ⊥
  pub both_goals_lem : tensor i.goal j.goal ≡ k.goal
  pub first_shallow : i.depth ≤ k.depth
  pub second_shallow : j.depth ≤ k.depth

-- x for y, y for x, any other number for itself
unfoldable pub swap : ℕ → ℕ → ℕ → ℕ
swap x y e = ite (ℕ_discrete e x) y (ite (ℕ_discrete e y) x e)
