-- Summaries: what a list takes of the items when it walks a goal, and whether some ⊤ can take more.
use Rattle.std.specs.Prelude.{ℕ, suc, ◌≤◌, ◌<◌, ◌≡◌, Bool, true, false, not, ◌&&◌, ◌||◌, List, [], ◌∷◌, ◌++◌}
use Rattle.calculus.specs.Formula.{Goal, Clause, atomᴳ, topᴳ, oneᴳ, tensor, with, oplus, lolliᴳ}
use Rattle.calculus.specs.Items.{Items, only, Empty, Splits, Within}
use Rattle.calculus.specs.Derivation.{Scope, Derives, size, linear_at, residual_at, lend}
use Rattle.calculus.specs.Steps.{steps, nesting, left_choice, right_choice}

-- the same items
pub record Same (I J : Items) : Type 0 where
  pub same : (i : ℕ) → I i ≡ J i

-- T is U ∪ W
pub record Joins (T U W : Items) : Type 0 where
  pub joined : (i : ℕ) → T i ≡ (U i || W i)

-- T is W without e
pub record Without (T W : Items) (e : ℕ) : Type 0 where
  pub without : (i : ℕ) → T i ≡ (W i && not (only e i))

-- T is W and e
pub record Plus (T W : Items) (e : ℕ) : Type 0 where
  pub plus : (i : ℕ) → T i ≡ (W i || only e i)

-- T is R ∩ S
pub record Meets (T R S : Items) : Type 0 where
  pub met : (i : ℕ) → T i ≡ (R i && S i)

-- the items that slack takes: with slack, any
unfoldable pub spare : Scope → Bool → Items
spare es v i = v

-- every item of I is in U, or spare
pub record Covers (R U I : Items) : Type 0 where
  pub cover : (i : ℕ) → I i ≡ true → (R i || U i) ≡ true

-- Sum n es G l U v: walking the list l at the goal G in the scope es, with nesting n left, takes the outer items U; v says whether there
-- is slack.
pub data Sum : ℕ → Scope → Goal → List ℕ → Items → Bool → Type 0 where
  sum_1 : {n : ℕ} {es : Scope} {U : Items} → Empty U → Sum n es oneᴳ [] U false
  sum_⊤ : {n : ℕ} {es : Scope} {U : Items} → Empty U → Sum n es topᴳ [] U true
  -- the two shares are apart
  sum_⊗ : {n : ℕ} {es : Scope} {G H : Goal} {l l₁ l₂ : List ℕ} {U U₁ U₂ : Items} {v v₁ v₂ : Bool}
      → l ≡ l₁ ++ l₂ → Splits U U₁ U₂ → v ≡ (v₁ || v₂)
      → Sum n es G l₁ U₁ v₁ → Sum n es H l₂ U₂ v₂ → Sum n es (tensor G H) l U v
  -- each side covers the other
  sum_& : {n : ℕ} {es : Scope} {G H : Goal} {l l₁ l₂ : List ℕ} {U U₁ U₂ : Items} {v v₁ v₂ : Bool}
      → l ≡ l₁ ++ l₂ → Joins U U₁ U₂ → v ≡ (v₁ && v₂) → Covers (spare es v₁) U₁ U₂ → Covers (spare es v₂) U₂ U₁
      → Sum n es G l₁ U₁ v₁ → Sum n es H l₂ U₂ v₂ → Sum n es (with G H) l U v
  -- a choice takes nothing
  sum_⊕₁ : {n : ℕ} {es : Scope} {G H : Goal} {l m : List ℕ} {U : Items} {v : Bool}
      → l ≡ left_choice ∷ m → Sum n es G m U v → Sum n es (oplus G H) l U v
  sum_⊕₂ : {n : ℕ} {es : Scope} {G H : Goal} {l m : List ℕ} {U : Items} {v : Bool}
      → l ≡ right_choice ∷ m → Sum n es H m U v → Sum n es (oplus G H) l U v
  -- without slack the lent clause is taken
  sum_⊸ : {n : ℕ} {es : Scope} {D : Clause} {G : Goal} {l : List ℕ} {U W : Items} {v : Bool}
      → Without U W (size es) → (spare es v (size es) || W (size es)) ≡ true
      → Sum n (lend es D) G l W v → Sum n es (lolliᴳ D G) l U v
  -- a rule stays
  sum_rule : {n : ℕ} {es : Scope} {a e : ℕ} {l : List ℕ} {U : Items} {v : Bool}
      → linear_at es e ≡ false
      → Sum n es (residual_at es a e) l U v → Sum (suc n) es (atomᴳ a) (e ∷ l) U v
  -- a line or lent clause is gone: its conditions do not take it again
  sum_item : {n : ℕ} {es : Scope} {a e : ℕ} {l : List ℕ} {U W : Items} {v : Bool}
      → linear_at es e ≡ true → W e ≡ false → Plus U W e
      → Sum n es (residual_at es a e) l W v → Sum (suc n) es (atomᴳ a) (e ∷ l) U v

-- every item stands in the scope
pub record Bounded (es : Scope) (I : Items) : Type 0 where
  pub bounded : (i : ℕ) → I i ≡ true → i < size es

-- l derives G from I within nesting n
pub record ByList (n : ℕ) (es : Scope) (I : Items) (G : Goal) (l : List ℕ) : Type 0 where
  pub tree : Derives es I G
  pub list : steps tree ≡ l
  pub nested : nesting tree ≤ n

-- l has a summary, it is within I, and there is slack or nothing is left
pub record Summed (n : ℕ) (es : Scope) (I : Items) (G : Goal) (l : List ℕ) : Type 0 where
  pub used : Items
  pub slack : Bool
  pub sum : Sum n es G l used slack
  pub within : Within used I
  pub left : Covers (spare es slack) used I

-- Two readings of one list, with what follows each, agree.
pub record Agree (l m r t : List ℕ) (U W : Items) (v w : Bool) : Type 0 where
  pub lists : l ≡ m
  pub rests : r ≡ t
  pub items : Same U W
  pub slacks : v ≡ w
