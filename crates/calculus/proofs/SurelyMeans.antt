-- Surely used is used on every run; what stands in the list is used on some.
use Prim.Native.Nat.{ℕ, ◌<◌}
use native.Mathlib.Omega.{arith}
use mathlib.Core.Path.{◌≡◌, refl, sym, ap, ap₂, ◌∙◌}
use mathlib.Core.Logic.{◌↔◌, ◌⊎◌, inl, inr, ⊎_elim}
use mathlib.Core.Bool.{Bool, true, false, ◌&&◌, ◌||◌, false≢true}
use lib.Dec.{eqb}
use borrow.Author.Tests.{eq-eqb}
use Rattle.calculus.specs.Formula.{Goal}
use Rattle.calculus.specs.Items.{Items, ∅, ◌∪◌, ◌∩◌, only}
use Rattle.calculus.specs.Derivation.{Scope, Derives, size, linear_at, res_1, res_⊤, res_⊗, res_&, res_⊕₁, res_⊕₂, res_⊸}
use Rattle.calculus.specs.Derivation.{res_atm_int, res_atm_lin}
use Rattle.calculus.specs.Steps.{steps, surely, stands, left_choice, right_choice}
use Rattle.calculus.specs.Runs.{RunOf, Run, run_1, run_⊤, run_⊗, run_&₁, run_&₂, run_⊕₁, run_⊕₂, run_⊸, run_rule, run_item, OnEveryRun, RunWith}
use Rattle.calculus.proofs.SetLaws.{and_left, and_right, or_right, or_false, or_map}
use Rattle.calculus.proofs.SummaryExact.{lend_size}
use Rattle.calculus.proofs.ItemsListed.{stands_in, stands_cons, lent_linear}

every : {es : Scope} {I U : Items} {G : Goal} {d : Derives es I G} → RunOf es I G d U → (i : ℕ) → surely d i ≡ true → U i ≡ true
unfolding surely ∅ ◌∪◌ ◌∩◌
every run_1 i h = h
every run_⊤ i h = h
every (run_⊗ {U} {W} {l} {r} x y) i h = or_map (surely l i) (surely r i) (U i) (W i) h (λ q. every x i q) (λ q. every y i q)
every (run_&₁ {l} {r} x) i h = every x i (and_left (surely l i) (surely r i) h)
every (run_&₂ {l} {r} x) i h = every x i (and_right (surely l i) (surely r i) h)
every (run_⊕₁ x) i h = every x i h
every (run_⊕₂ x) i h = every x i h
every (run_⊸ x) i h = every x i h
every (run_rule x) i h = every x i h
every (run_item {U} {e} {d} x) i h = or_map (only e i) (surely d i) (only e i) (U i) h (λ q. q) (λ q. every x i q)

module _ {es : Scope} {I : Items} {G : Goal} {d : Derives es I G} {i : ℕ} {b : Bool} where
  -- the same run, of a derivation above
  over : {fs : Scope} {J : Items} {H : Goal} {c : Derives fs J H} → ((U : Items) → Run d U → Run c U) → RunWith d i b → RunWith c i b
  over f x = record { items = x.items; run = f x.items x.run; is = x.is }

and_cases : (a b : Bool) → (a && b) ≡ false → (a ≡ false) ⊎ (b ≡ false)
and_cases true b h = inr h
and_cases false b h = inl refl

-- an item that is not surely used is not used on some run
pub misses : {es : Scope} {I : Items} {G : Goal} (d : Derives es I G) (i : ℕ) → surely d i ≡ false → RunWith d i false
unfolding surely ∅ ◌∪◌ ◌∩◌
misses (res_1 n) i h = record { items = ∅; run = run_1; is = refl }
misses res_⊤ i h = record { items = ∅; run = run_⊤; is = refl }
misses (res_⊗ s l r) i h =
    let e = or_false (surely l i) (surely r i) h in
    let x = misses l i e.0 in
    let y = misses r i e.1 in
    record { items = x.items ∪ y.items; run = run_⊗ x.run y.run; is = ap₂ ◌||◌ x.is y.is }
misses (res_& l r) i h =
    ⊎_elim (λ e. over (λ U. run_&₁) (misses l i e)) (λ e. over (λ U. run_&₂) (misses r i e)) (and_cases (surely l i) (surely r i) h)
misses (res_⊕₁ d) i h = over (λ U. run_⊕₁) (misses d i h)
misses (res_⊕₂ d) i h = over (λ U. run_⊕₂) (misses d i h)
misses (res_⊸ f d) i h = over (λ U. run_⊸) (misses d i h)
misses (res_atm_int e n d) i h = over (λ U. run_rule) (misses d i h)
misses (res_atm_lin e n t d) i h =
    let o = or_false (only e i) (surely d i) h in
    let x = misses d i o.1 in
    record { items = only e ∪ x.items; run = run_item x.run; is = ap₂ ◌||◌ o.0 x.is }

-- THEOREM. An item is surely used exactly if it is used on every run.
pub surely_means : {es : Scope} {I : Items} {G : Goal} (d : Derives es I G) (i : ℕ) → (surely d i ≡ true) ↔ OnEveryRun d i
surely_means d i = (λ h U x. every x i h, λ f. by f (surely d i) refl)
  where
    by : OnEveryRun d i → (b : Bool) → surely d i ≡ b → surely d i ≡ true
    by f true e = e
    by f false e = let m = misses d i e in absurd (false≢true (sym m.is ∙ f m.items m.run))

-- every derivation has a run
run_of : {es : Scope} {I : Items} {G : Goal} (d : Derives es I G) → (U : Items) × Run d U
run_of (res_1 n) = (∅, run_1)
run_of res_⊤ = (∅, run_⊤)
run_of (res_⊗ s l r) = ((run_of l).0 ∪ (run_of r).0, run_⊗ (run_of l).1 (run_of r).1)
run_of (res_& l r) = ((run_of l).0, run_&₁ (run_of l).1)
run_of (res_⊕₁ d) = ((run_of d).0, run_⊕₁ (run_of d).1)
run_of (res_⊕₂ d) = ((run_of d).0, run_⊕₂ (run_of d).1)
run_of (res_⊸ f d) = ((run_of d).0, run_⊸ (run_of d).1)
run_of (res_atm_int e n d) = ((run_of d).0, run_rule (run_of d).1)
run_of (res_atm_lin e n h d) = (only e ∪ (run_of d).0, run_item (run_of d).1)

-- THEOREM. A linear entry of the scope, no choice, that stands in the list is used on some run.
pub stands_means : {es : Scope} {I : Items} {G : Goal} (i : ℕ) → i < left_choice → i < size es → linear_at es i ≡ true → (d : Derives es I G)
    → stands i (steps d) ≡ true → RunWith d i true
unfolding steps stands ◌∪◌ only
stands_means i k h n (res_1 v) t = absurd (false≢true t)
stands_means i k h n res_⊤ t = absurd (false≢true t)
stands_means i k h n (res_⊗ s l r) t =
    ⊎_elim
    (λ u. let x = stands_means i k h n l u in
    record { items = x.items ∪ (run_of r).0; run = run_⊗ x.run (run_of r).1; is = ap (λ (b : Bool). b || (run_of r).0 i) x.is })
    (λ u. let x = stands_means i k h n r u in
    record { items = (run_of l).0 ∪ x.items; run = run_⊗ (run_of l).1 x.run; is = or_right ((run_of l).0 i) (x.items i) x.is })
    (stands_in i (steps l) (steps r) t)
stands_means i k h n (res_& l r) t =
    ⊎_elim (λ u. over (λ U. run_&₁) (stands_means i k h n l u)) (λ u. over (λ U. run_&₂) (stands_means i k h n r u))
    (stands_in i (steps l) (steps r) t)
stands_means i k h n (res_⊕₁ d) t =
    ⊎_elim (λ u. absurd (omega (arith, u))) (λ u. over (λ U. run_⊕₁) (stands_means i k h n d u)) (stands_cons i left_choice (steps d) t)
stands_means i k h n (res_⊕₂ d) t =
    ⊎_elim (λ u. absurd (omega (arith, u))) (λ u. over (λ U. run_⊕₂) (stands_means i k h n d u)) (stands_cons i right_choice (steps d) t)
stands_means i k h n (res_⊸ {es} {D} f d) t =
    over (λ U. run_⊸) (stands_means i k (omega (arith, lend_size es D)) (lent_linear es D i h ∙ n) d t)
stands_means {es} i k h n (res_atm_int e m d) t =
    ⊎_elim (λ u. absurd (false≢true (sym m ∙ ap (linear_at es) (sym u) ∙ n))) (λ u. over (λ U. run_rule) (stands_means i k h n d u))
    (stands_cons i e (steps d) t)
stands_means i k h n (res_atm_lin e m g d) t =
    ⊎_elim (λ u. record { items = only e ∪ (run_of d).0; run = run_item (run_of d).1; is = ap (λ (b : Bool). b || (run_of d).0 i) (eq-eqb i e u) })
    (λ u. let x = stands_means i k h n d u in
    record { items = only e ∪ x.items; run = run_item x.run; is = or_right (eqb i e) (x.items i) x.is })
    (stands_cons i e (steps d) t)
