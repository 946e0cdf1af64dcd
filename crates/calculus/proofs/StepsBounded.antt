-- How far up the entry numbers of a derivation's steps go: clauses of height 8 at most lend six clauses a use, one inside the other.
use Prim.Native.Nat.{ℕ, ◌+◌, ◌*◌, ◌≤◌, ◌<◌}
use native.Mathlib.Omega.{arith}
use mathlib.Core.Path.{◌≡◌, refl, sym, ap, ap₂, ◌∙◌}
use mathlib.Core.Logic.{◌⊎◌, inl, inr, ⊎_map}
use mathlib.Core.Bool.{Bool, true, false, ◌||◌, false≢true}
use mathlib.Core.List.{List, [], ◌∷◌, ◌++◌}
use lib.Dec.{eqb}
use borrow.Author.Tests.{eqb-true}
use Rattle.calculus.specs.Formula.{Goal, Clause, atomᴳ, topᴳ, oneᴳ, zeroᴳ, tensor, with, oplus, lolliᴳ, atomᴰ, topᴰ, lolliᴰ}
use Rattle.calculus.specs.Formula.{withᴰ, Fits, matched, residual}
use Rattle.calculus.specs.Items.{Items}
use Rattle.calculus.specs.Derivation.{Scope, Entry, size, clause_at, residual_at, lend, Derives, res_1, res_⊤, res_⊗, res_&, res_⊸}
use Rattle.calculus.specs.Derivation.{res_⊕₁, res_⊕₂, res_atm_int, res_atm_lin}
use Rattle.calculus.specs.Steps.{steps, entries_used, nesting, stands, left_choice, right_choice}
use Rattle.calculus.specs.Inner.Height.{heightᴳ, heightᴰ, lends, Low, Below}
use Rattle.calculus.specs.Inner.Renaming.{over}
use Rattle.calculus.proofs.SetLaws.{or_right}
use Rattle.calculus.proofs.RenamingKeeps.{in_scope, lent_cases, entry_before, entry_lent}
use Rattle.calculus.proofs.SummaryExact.{lend_size}

low_lend : {es : Scope} (D : Clause) → Low es → heightᴰ D ≤ 8 → Low (lend es D)
unfolding clause_at
low_lend {es} D l h =
    record {
      low =
          lent_cases es D (λ e. heightᴰ (clause_at (lend es D) e) ≤ 8)
          (λ e g. omega (arith, l.low e g, ap (λ (x : Entry). heightᴰ x.clause) (entry_before es D e g)))
          (omega (arith, ap (λ (x : Entry). heightᴰ x.clause) (entry_lent es D (size es) refl)));
    }

-- a goal lends fewer clauses, one inside the other, than it is high
pub lends_fewer : (G : Goal) → lends G < heightᴳ G
unfolding lends heightᴳ
lends_fewer (atomᴳ a) = omega arith
lends_fewer topᴳ = omega arith
lends_fewer oneᴳ = omega arith
lends_fewer zeroᴳ = omega arith
lends_fewer (tensor G H) = let g = lends_fewer G in let h = lends_fewer H in omega arith
lends_fewer (with G H) = let g = lends_fewer G in let h = lends_fewer H in omega arith
lends_fewer (oplus G H) = let g = lends_fewer G in let h = lends_fewer H in omega arith
lends_fewer (lolliᴳ D G) = let g = lends_fewer G in omega arith

matched_height : (b : Bool) → heightᴳ (matched b) ≡ 1
unfolding matched heightᴳ
matched_height true = refl
matched_height false = refl

matched_lends : (b : Bool) → lends (matched b) ≡ 0
unfolding matched lends
matched_lends true = refl
matched_lends false = refl

-- what is left of a clause is no higher than it, and its conditions lend at most six, one inside the other, if it is at most 8 high
residual_height : (fits : Fits) (a : ℕ) (D : Clause) → heightᴳ (residual fits a D) ≤ heightᴰ D
unfolding residual heightᴳ heightᴰ
residual_height fits a (atomᴰ b) = omega (arith, matched_height (fits b a))
residual_height fits a topᴰ = omega arith
residual_height fits a (lolliᴰ G D) = let d = residual_height fits a D in omega arith
residual_height fits a (withᴰ D E) = let d = residual_height fits a D in let e = residual_height fits a E in omega arith

residual_lends : (fits : Fits) (a : ℕ) (D : Clause) → heightᴰ D ≤ 8 → lends (residual fits a D) ≤ 6
unfolding residual lends heightᴰ
residual_lends fits a (atomᴰ b) h = omega (arith, matched_lends (fits b a))
residual_lends fits a topᴰ h = omega arith
residual_lends fits a (lolliᴰ G D) h = let d = residual_lends fits a D (omega arith) in let g = lends_fewer G in omega arith
residual_lends fits a (withᴰ D E) h =
    let d = residual_lends fits a D (omega arith) in let e = residual_lends fits a E (omega arith) in omega arith

below_none : {m : ℕ} → Below m []
unfolding stands
below_none = record { below = λ e h. absurd (false≢true h) }

or_cases : (a b : Bool) (P : Type 0) → (a || b) ≡ true → (a ≡ true → P) → (b ≡ true → P) → P
or_cases true b P h f g = f refl
or_cases false b P h f g = g h

below_cons : {m x : ℕ} {l : List ℕ} → x < m → Below m l → Below m (x ∷ l)
unfolding stands
below_cons {m} {x} {l} h b =
    record { below = λ e s. or_cases (eqb e x) (stands e l) (e < m) s (λ q. omega (arith, eqb-true e x q)) (b.below e) }

-- what stands in two lists, one behind the other
pub stands_parts : (e : ℕ) (l k : List ℕ) → stands e (l ++ k) ≡ (stands e l || stands e k)
unfolding stands
stands_parts e [] k = refl
stands_parts e (x ∷ l) k = ap (λ (b : Bool). eqb e x || b) (stands_parts e l k) ∙ sym (or_assoc (eqb e x) (stands e l) (stands e k))
  where
    or_assoc : (a b c : Bool) → ((a || b) || c) ≡ (a || (b || c))
    or_assoc true b c = refl
    or_assoc false b c = refl

below_parts : {m : ℕ} {l k : List ℕ} → Below m l → Below m k → Below m (l ++ k)
below_parts {m} {l} {k} b c =
    record {
      below = λ e s. or_cases (stands e l) (stands e k) (e < m) (sym (stands_parts e l k) ∙ s) (b.below e) (c.below e);
    }

-- THEOREM. With clauses at most 8 high, the entries of a derivation are below what stands in scope, the lends of its goal, and six for each
-- nesting.
pub entries_below : (m : ℕ) {es : Scope} {I : Items} {G : Goal} → Low es → heightᴳ G ≤ 8 → (d : Derives es I G)
    → size es + lends G + 6 * nesting d ≤ m → Below m (entries_used d)
unfolding entries_used nesting heightᴳ lends residual_at
entries_below m l h (res_1 n) b = below_none
entries_below m l h res_⊤ b = below_none
entries_below m l h (res_⊗ s c d) b =
    below_parts (entries_below m l (omega arith) c (omega arith)) (entries_below m l (omega arith) d (omega arith))
entries_below m l h (res_& c d) b =
    below_parts (entries_below m l (omega arith) c (omega arith)) (entries_below m l (omega arith) d (omega arith))
entries_below m l h (res_⊕₁ d) b = entries_below m l (omega arith) d (omega arith)
entries_below m l h (res_⊕₂ d) b = entries_below m l (omega arith) d (omega arith)
entries_below m l h (res_⊸ {es} {D} f d) b = entries_below m (low_lend D l (omega arith)) (omega arith) d (omega (arith, lend_size es D))
entries_below m {es} l h (res_atm_int {a} e n d) b =
    let in_it = in_scope a e d in
    let low = l.low e in_it in
    below_cons (omega arith)
    (entries_below m l (omega (arith, residual_height es.fits a (clause_at es e))) d
    (omega (arith, residual_lends es.fits a (clause_at es e) low)))
entries_below m {es} l h (res_atm_lin {a} e n i d) b =
    let in_it = in_scope a e d in
    let low = l.low e in_it in
    below_cons (omega arith)
    (entries_below m l (omega (arith, residual_height es.fits a (clause_at es e))) d
    (omega (arith, residual_lends es.fits a (clause_at es e) low)))

-- in one of two parts, and behind a use
in_parts : (e : ℕ) (l r k m : List ℕ) {C : Type 0} → (stands e l ≡ true → (stands e k ≡ true) ⊎ C)
    → (stands e r ≡ true → (stands e m ≡ true) ⊎ C) → stands e (l ++ r) ≡ true → (stands e (k ++ m) ≡ true) ⊎ C
in_parts e l r k m {C} f g h =
    or_cases (stands e l) (stands e r) ((stands e (k ++ m) ≡ true) ⊎ C) (sym (stands_parts e l r) ∙ h)
    (λ q. ⊎_map (λ x. stands_parts e k m ∙ ap (λ (b : Bool). b || stands e m) x) (λ c. c) (f q))
    (λ q. ⊎_map (λ x. stands_parts e k m ∙ or_right (stands e k) (stands e m) x) (λ c. c) (g q))

behind_use : (e x : ℕ) (l k : List ℕ) {C : Type 0} → (stands e l ≡ true → (stands e k ≡ true) ⊎ C) → stands e (x ∷ l) ≡ true
    → (stands e (x ∷ k) ≡ true) ⊎ C
unfolding stands
behind_use e x l k {C} f h =
    or_cases (eqb e x) (stands e l) ((stands e (x ∷ k) ≡ true) ⊎ C) h (λ q. inl (ap (λ (b : Bool). b || stands e k) q))
    (λ q. ⊎_map (λ y. or_right (eqb e x) (stands e k) y) (λ c. c) (f q))

-- THEOREM. A step of a derivation is an entry that it uses, or a choice.
pub entry_or_choice : {es : Scope} {I : Items} {G : Goal} (d : Derives es I G) (e : ℕ) → stands e (steps d) ≡ true
    → (stands e (entries_used d) ≡ true) ⊎ ((e ≡ left_choice) ⊎ (e ≡ right_choice))
unfolding steps entries_used stands
entry_or_choice (res_1 n) e h = inl h
entry_or_choice res_⊤ e h = inl h
entry_or_choice (res_⊗ s l r) e h = in_parts e (steps l) (steps r) (entries_used l) (entries_used r) (entry_or_choice l e) (entry_or_choice r e) h
entry_or_choice (res_& l r) e h = in_parts e (steps l) (steps r) (entries_used l) (entries_used r) (entry_or_choice l e) (entry_or_choice r e) h
entry_or_choice (res_⊕₁ d) e h =
    or_cases (eqb e left_choice) (stands e (steps d)) _ h (λ q. inr (inl (eqb-true e left_choice q))) (entry_or_choice d e)
entry_or_choice (res_⊕₂ d) e h =
    or_cases (eqb e right_choice) (stands e (steps d)) _ h (λ q. inr (inr (eqb-true e right_choice q))) (entry_or_choice d e)
entry_or_choice (res_⊸ f d) e h = entry_or_choice d e h
entry_or_choice (res_atm_int x n d) e h = behind_use e x (steps d) (entries_used d) (entry_or_choice d e) h
entry_or_choice (res_atm_lin x n i d) e h = behind_use e x (steps d) (entries_used d) (entry_or_choice d e) h

-- THEOREM. Two maps that agree on all those numbers rename its entries alike.
pub over_same : (f g : ℕ → ℕ) (m : ℕ) → ((e : ℕ) → e < m → f e ≡ g e) → {es : Scope} {I : Items} {G : Goal} → Low es → heightᴳ G ≤ 8
    → (d : Derives es I G) → size es + lends G + 6 * nesting d ≤ m → over f d ≡ over g d
unfolding over nesting heightᴳ lends residual_at
over_same f g m p l h (res_1 n) b = refl
over_same f g m p l h res_⊤ b = refl
over_same f g m p l h (res_⊗ s c d) b =
    ap₂ ◌++◌ (over_same f g m p l (omega arith) c (omega arith)) (over_same f g m p l (omega arith) d (omega arith))
over_same f g m p l h (res_& c d) b =
    ap₂ ◌++◌ (over_same f g m p l (omega arith) c (omega arith)) (over_same f g m p l (omega arith) d (omega arith))
over_same f g m p l h (res_⊕₁ d) b = ap (λ k. left_choice ∷ k) (over_same f g m p l (omega arith) d (omega arith))
over_same f g m p l h (res_⊕₂ d) b = ap (λ k. right_choice ∷ k) (over_same f g m p l (omega arith) d (omega arith))
over_same f g m p l h (res_⊸ {es} {D} i d) b =
    over_same f g m p (low_lend D l (omega arith)) (omega arith) d (omega (arith, lend_size es D))
over_same f g m p {es} l h (res_atm_int {a} e n d) b =
    let in_it = in_scope a e d in
    let low = l.low e in_it in
    ap₂ ◌∷◌ (p e (omega arith))
    (over_same f g m p l (omega (arith, residual_height es.fits a (clause_at es e))) d
    (omega (arith, residual_lends es.fits a (clause_at es e) low)))
over_same f g m p {es} l h (res_atm_lin {a} e n i d) b =
    let in_it = in_scope a e d in
    let low = l.low e in_it in
    ap₂ ◌∷◌ (p e (omega arith))
    (over_same f g m p l (omega (arith, residual_height es.fits a (clause_at es e))) d
    (omega (arith, residual_lends es.fits a (clause_at es e) low)))
