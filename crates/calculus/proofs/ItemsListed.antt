-- Lines and lent clauses in a list are items.
use Prim.Native.Nat.{ℕ, ◌<◌}
use native.Mathlib.Omega.{arith}
use mathlib.Core.Path.{◌≡◌, sym, ap, ◌∙◌}
use mathlib.Core.Logic.{◌⊎◌, inl, inr, ⊎_elim, ⊎_map}
use mathlib.Core.Bool.{Bool, true, not, ◌||◌, false≢true}
use mathlib.Core.List.{List, ◌∷◌, ◌++◌}
use lib.Dec.{eqb}
use borrow.Author.Tests.{eqb-true, ne_eqb}
use Rattle.calculus.specs.Formula.{Goal, Clause}
use Rattle.calculus.specs.Items.{Items, ◌∪◌, ◌∖◌, only, Splits}
use Rattle.calculus.specs.Derivation.{Scope, Entry, size, linear_at, lend, Derives, res_1, res_⊤, res_⊗, res_&, res_⊕₁, res_⊕₂, res_⊸}
use Rattle.calculus.specs.Derivation.{res_atm_int, res_atm_lin}
use Rattle.calculus.specs.Steps.{steps, stands, left_choice, right_choice}
use Rattle.calculus.proofs.SetLaws.{and_left, or_right, or_cases}
use Rattle.calculus.proofs.SummaryExact.{lend_size}
use Rattle.calculus.proofs.RenamingKeeps.{entry_before}
use Rattle.calculus.proofs.StepsBounded.{stands_parts}

pub lent_linear : (es : Scope) (D : Clause) (e : ℕ) → e < size es → linear_at (lend es D) e ≡ linear_at es e
unfolding linear_at
lent_linear es D e h = ap (λ (x : Entry). x.linear) (entry_before es D e h)

lent_out : (I : Items) (n e : ℕ) → e < n → (I ∪ only n) e ≡ true → I e ≡ true
unfolding ◌∪◌ only
lent_out I n e h t =
    ⊎_elim (λ u. u) (λ u. absurd (false≢true (sym (ne_eqb e n (λ p. omega arith)) ∙ u))) (or_cases (I e) (eqb e n) t)

item_left : (I : Items) (k e : ℕ) → (I ∖ only k) e ≡ true → I e ≡ true
unfolding ◌∖◌ only
item_left I k e t = and_left (I e) (not (eqb e k)) t

in_either : {I J K : Items} (e : ℕ) → Splits I J K → (J e ≡ true) ⊎ (K e ≡ true) → I e ≡ true
in_either {I} {J} {K} e s (inl h) = s.whole e ∙ ap (λ (b : Bool). b || K e) h
in_either {I} {J} {K} e s (inr h) = s.whole e ∙ or_right (J e) (K e) h

pub stands_in : (e : ℕ) (l m : List ℕ) → stands e (l ++ m) ≡ true → (stands e l ≡ true) ⊎ (stands e m ≡ true)
stands_in e l m t = or_cases (stands e l) (stands e m) (sym (stands_parts e l m) ∙ t)

pub stands_cons : (e x : ℕ) (l : List ℕ) → stands e (x ∷ l) ≡ true → (e ≡ x) ⊎ (stands e l ≡ true)
unfolding stands
stands_cons e x l t = ⊎_map (eqb-true e x) (λ u. u) (or_cases (eqb e x) (stands e l) t)

-- THEOREM. A linear entry of the scope, no choice, that stands in the list of a derivation is one of its items.
pub used_item : {es : Scope} {I : Items} {G : Goal} (e : ℕ) → e < left_choice → e < size es → linear_at es e ≡ true → (d : Derives es I G)
    → stands e (steps d) ≡ true → I e ≡ true
unfolding steps stands
used_item e k h n (res_1 v) t = absurd (false≢true t)
used_item e k h n res_⊤ t = absurd (false≢true t)
used_item e k h n (res_⊗ s c d) t =
    in_either e s (⊎_map (used_item e k h n c) (used_item e k h n d) (stands_in e (steps c) (steps d) t))
used_item e k h n (res_& c d) t = ⊎_elim (used_item e k h n c) (used_item e k h n d) (stands_in e (steps c) (steps d) t)
used_item e k h n (res_⊕₁ d) t = ⊎_elim (λ u. absurd (omega arith)) (used_item e k h n d) (stands_cons e left_choice (steps d) t)
used_item e k h n (res_⊕₂ d) t = ⊎_elim (λ u. absurd (omega arith)) (used_item e k h n d) (stands_cons e right_choice (steps d) t)
used_item {I} e k h n (res_⊸ {es} {D} f d) t =
    lent_out I (size es) e h (used_item e k (omega (arith, lend_size es D)) (lent_linear es D e h ∙ n) d t)
used_item {es} e k h n (res_atm_int x m d) t =
    ⊎_elim (λ u. absurd (false≢true (sym m ∙ ap (linear_at es) (sym u) ∙ n))) (used_item e k h n d) (stands_cons e x (steps d) t)
used_item {I} e k h n (res_atm_lin x m g d) t =
    ⊎_elim (λ u. ap I u ∙ g) (λ u. item_left I x e (used_item e k h n d u)) (stands_cons e x (steps d) t)
