-- What "surely used" (02, #105) comes to: of the two sides of an "either way" one is gone in the end, so a derivation has many runs.
use Rattle.std.specs.Prelude.{ℕ, ◌≡◌, Bool, true, false}
use Rattle.calculus.specs.Formula.{Goal, Clause, atomᴳ, topᴳ, oneᴳ, tensor, with, oplus, lolliᴳ}
use Rattle.calculus.specs.Items.{Items, ∅, ◌∪◌, ◌∖◌, only, Empty, Splits}
use Rattle.calculus.specs.Derivation.{Scope, Derives, size, linear_at, residual_at, lend, res_1, res_⊤, res_⊗, res_&, res_⊕₁, res_⊕₂}
use Rattle.calculus.specs.Derivation.{res_⊸, res_atm_int, res_atm_lin}

-- RunOf es I G d U: a run of d, with one side of each "either way" that it meets, uses the items U.
pub data RunOf : (es : Scope) (I : Items) (G : Goal) → Derives es I G → Items → Type 0 where
  run_1 : {es : Scope} {I : Items} {n : Empty I} → RunOf es I oneᴳ (res_1 n) ∅
  run_⊤ : {es : Scope} {I : Items} → RunOf es I topᴳ res_⊤ ∅
  run_⊗ : {es : Scope} {I J K U W : Items} {G H : Goal} {s : Splits I J K} {l : Derives es J G} {r : Derives es K H}
      → RunOf es J G l U → RunOf es K H r W → RunOf es I (tensor G H) (res_⊗ s l r) (U ∪ W)
  run_&₁ : {es : Scope} {I U : Items} {G H : Goal} {l : Derives es I G} {r : Derives es I H}
      → RunOf es I G l U → RunOf es I (with G H) (res_& l r) U
  run_&₂ : {es : Scope} {I U : Items} {G H : Goal} {l : Derives es I G} {r : Derives es I H}
      → RunOf es I H r U → RunOf es I (with G H) (res_& l r) U
  run_⊕₁ : {es : Scope} {I U : Items} {G H : Goal} {d : Derives es I G} → RunOf es I G d U → RunOf es I (oplus G H) (res_⊕₁ d) U
  run_⊕₂ : {es : Scope} {I U : Items} {G H : Goal} {d : Derives es I H} → RunOf es I H d U → RunOf es I (oplus G H) (res_⊕₂ d) U
  run_⊸ : {es : Scope} {I U : Items} {D : Clause} {G : Goal} {f : I (size es) ≡ false} {d : Derives (lend es D) (I ∪ only (size es)) G}
      → RunOf (lend es D) (I ∪ only (size es)) G d U → RunOf es I (lolliᴳ D G) (res_⊸ f d) U
  run_rule : {es : Scope} {I U : Items} {a e : ℕ} {n : linear_at es e ≡ false} {d : Derives es I (residual_at es a e)}
      → RunOf es I (residual_at es a e) d U → RunOf es I (atomᴳ a) (res_atm_int e n d) U
  run_item : {es : Scope} {I U : Items} {a e : ℕ} {n : linear_at es e ≡ true} {h : I e ≡ true}
      {d : Derives es (I ∖ only e) (residual_at es a e)}
      → RunOf es (I ∖ only e) (residual_at es a e) d U → RunOf es I (atomᴳ a) (res_atm_lin e n h d) (only e ∪ U)

abbrev pub Run : {es : Scope} {I : Items} {G : Goal} → Derives es I G → Items → Type 0
Run {es} {I} {G} d U = RunOf es I G d U

-- the item is used on every run
abbrev pub OnEveryRun : {es : Scope} {I : Items} {G : Goal} → Derives es I G → ℕ → Type 0
OnEveryRun d i = (U : Items) → Run d U → U i ≡ true

-- a run that uses the item, or one that does not
pub record RunWith {es : Scope} {I : Items} {G : Goal} (d : Derives es I G) (i : ℕ) (b : Bool) : Type 0 where
  pub items : Items
  pub run : Run d items
  pub is : items i ≡ b
