-- Where there is no "either way", or no "rest", all that stands in the list is surely used.
use Prim.Native.Nat.{ℕ, ◌≤◌, ◌<◌}
use native.Mathlib.Omega.{arith}
use mathlib.Core.Path.{◌≡◌, refl, sym, ap, ap₂, ◌∙◌}
use mathlib.Core.Logic.{⊎_elim}
use mathlib.Core.Bool.{Bool, true, false, not, ◌&&◌, ◌||◌, false≢true}
use lib.Dec.{eqb}
use borrow.Author.Tests.{eq-eqb}
use Rattle.calculus.specs.Formula.{Goal, Clause, atomᴰ, topᴰ, lolliᴰ, withᴰ, Fits, matched, residual}
use Rattle.calculus.specs.Items.{Items, ◌∪◌, ◌∩◌, ◌∖◌, only}
use Rattle.calculus.specs.Derivation.{Scope, Entry, Derives, size, clause_at, linear_at, residual_at, lend, res_1, res_⊤, res_⊗, res_&, res_⊕₁}
use Rattle.calculus.specs.Derivation.{res_⊕₂, res_⊸, res_atm_int, res_atm_lin}
use Rattle.calculus.specs.Steps.{steps, surely, stands, left_choice, right_choice}
use Rattle.calculus.specs.Inner.Plain.{weighᴳ, weighᴰ, Light}
use Rattle.calculus.proofs.SetLaws.{or_right, or_cases}
use Rattle.calculus.proofs.SummaryExact.{lend_size}
use Rattle.calculus.proofs.RenamingKeeps.{in_scope, lent_cases, entry_before, entry_lent}
use Rattle.calculus.proofs.ItemsListed.{stands_in, stands_cons, lent_linear, used_item}

-- Weights

light_lend : {w t : ℕ} {es : Scope} (D : Clause) → Light w t es → weighᴰ D w t ≡ 0 → Light w t (lend es D)
unfolding clause_at
light_lend {w} {t} {es} D l h =
    record {
      light =
          lent_cases es D (λ e. weighᴰ (clause_at (lend es D) e) w t ≡ 0)
          (λ e g. ap (λ (x : Entry). weighᴰ x.clause w t) (entry_before es D e g) ∙ l.light e g)
          (ap (λ (x : Entry). weighᴰ x.clause w t) (entry_lent es D (size es) refl) ∙ h);
    }

matched_light : (b : Bool) (w t : ℕ) → weighᴳ (matched b) w t ≡ 0
unfolding matched weighᴳ
matched_light true w t = refl
matched_light false w t = refl

residual_weight : (fits : Fits) (a : ℕ) (D : Clause) (w t : ℕ) → weighᴳ (residual fits a D) w t ≤ weighᴰ D w t
unfolding residual weighᴳ weighᴰ
residual_weight fits a (atomᴰ b) w t = omega (arith, matched_light (fits b a) w t)
residual_weight fits a topᴰ w t = omega arith
residual_weight fits a (lolliᴰ G D) w t = let d = residual_weight fits a D w t in omega arith
residual_weight fits a (withᴰ D E) w t = let d = residual_weight fits a D w t in let e = residual_weight fits a E w t in omega arith

light_residual : {w t : ℕ} {es : Scope} (a e : ℕ) → Light w t es → e < size es → weighᴳ (residual_at es a e) w t ≡ 0
unfolding residual_at
light_residual {w} {t} {es} a e p h =
    let r = residual_weight es.fits a (clause_at es e) w t in let q = p.light e h in omega (arith, r, q)

-- THEOREM. A linear entry of the scope, no choice, that stands in the list of a derivation without & is surely used.
pub plain_sure : {es : Scope} {I : Items} {G : Goal} (i : ℕ) → i < left_choice → i < size es → linear_at es i ≡ true → Light 1 0 es
    → weighᴳ G 1 0 ≡ 0 → (d : Derives es I G) → stands i (steps d) ≡ true → surely d i ≡ true
unfolding steps stands surely weighᴳ ◌∪◌ only
plain_sure i k h n p g (res_1 v) t = absurd (false≢true t)
plain_sure i k h n p g res_⊤ t = absurd (false≢true t)
plain_sure i k h n p g (res_⊗ s l r) t =
    ⊎_elim (λ u. ap (λ (b : Bool). b || surely r i) (plain_sure i k h n p (omega arith) l u))
    (λ u. or_right (surely l i) (surely r i) (plain_sure i k h n p (omega arith) r u)) (stands_in i (steps l) (steps r) t)
plain_sure i k h n p g (res_& l r) t = absurd (omega (arith, g))
plain_sure i k h n p g (res_⊕₁ d) t =
    ⊎_elim (λ u. absurd (omega (arith, u))) (plain_sure i k h n p (omega arith) d) (stands_cons i left_choice (steps d) t)
plain_sure i k h n p g (res_⊕₂ d) t =
    ⊎_elim (λ u. absurd (omega (arith, u))) (plain_sure i k h n p (omega arith) d) (stands_cons i right_choice (steps d) t)
plain_sure i k h n p g (res_⊸ {es} {D} f d) t =
    plain_sure i k (omega (arith, lend_size es D)) (lent_linear es D i h ∙ n) (light_lend D p (omega arith)) (omega arith) d t
plain_sure {es} i k h n p g (res_atm_int {a} e m d) t =
    ⊎_elim (λ u. absurd (false≢true (sym m ∙ ap (linear_at es) (sym u) ∙ n)))
    (plain_sure i k h n p (light_residual a e p (in_scope a e d)) d) (stands_cons i e (steps d) t)
plain_sure {es} i k h n p g (res_atm_lin {a} e m o d) t =
    ⊎_elim (λ u. ap (λ (b : Bool). b || surely d i) (eq-eqb i e u))
    (λ u. or_right (eqb i e) (surely d i) (plain_sure i k h n p (light_residual a e p (in_scope a e d)) d u))
    (stands_cons i e (steps d) t)

-- what is in I and is not e is in I without e
other : (I : Items) (e i : ℕ) → I i ≡ true → (eqb i e || (I ∖ only e) i) ≡ true
unfolding ◌∖◌ only
other I e i h = by (eqb i e)
  where
    by : (b : Bool) → (b || (I i && not b)) ≡ true
    by true = refl
    by false = ap (λ (x : Bool). x && true) h

-- every item of a derivation without ⊤ is surely used: neither side of a & leaves any
all_sure : {es : Scope} {I : Items} {G : Goal} → Light 0 1 es → weighᴳ G 0 1 ≡ 0 → (d : Derives es I G) (i : ℕ) → I i ≡ true
    → surely d i ≡ true
unfolding surely weighᴳ ◌∪◌ ◌∩◌ only
all_sure p g (res_1 v) i h = absurd (false≢true (sym (v.vacant i) ∙ h))
all_sure p g res_⊤ i h = absurd (omega (arith, g))
all_sure p g (res_⊗ {J} {K} s l r) i h =
    ⊎_elim (λ u. ap (λ (b : Bool). b || surely r i) (all_sure p (omega arith) l i u))
    (λ u. or_right (surely l i) (surely r i) (all_sure p (omega arith) r i u)) (or_cases (J i) (K i) (sym (s.whole i) ∙ h))
all_sure p g (res_& l r) i h = ap₂ ◌&&◌ (all_sure p (omega arith) l i h) (all_sure p (omega arith) r i h)
all_sure p g (res_⊕₁ d) i h = all_sure p (omega arith) d i h
all_sure p g (res_⊕₂ d) i h = all_sure p (omega arith) d i h
all_sure p g (res_⊸ {es} {D} f d) i h =
    all_sure (light_lend D p (omega arith)) (omega arith) d i (ap (λ (b : Bool). b || only (size es) i) h)
all_sure p g (res_atm_int {a} e m d) i h = all_sure p (light_residual a e p (in_scope a e d)) d i h
all_sure {I} p g (res_atm_lin {a} e m o d) i h =
    ⊎_elim (λ u. ap (λ (b : Bool). b || surely d i) u)
    (λ u. or_right (eqb i e) (surely d i) (all_sure p (light_residual a e p (in_scope a e d)) d i u))
    (or_cases (eqb i e) ((I ∖ only e) i) (other I e i h))

-- THEOREM. So is one that stands in the list of a derivation without ⊤.
pub restless_sure : {es : Scope} {I : Items} {G : Goal} (i : ℕ) → i < left_choice → i < size es → linear_at es i ≡ true → Light 0 1 es
    → weighᴳ G 0 1 ≡ 0 → (d : Derives es I G) → stands i (steps d) ≡ true → surely d i ≡ true
restless_sure i k h n p g d t = all_sure p g d i (used_item i k h n d t)
