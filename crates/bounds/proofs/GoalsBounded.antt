-- THEOREM. Bounds of names that allow every use of a clause of a family are bounds of every goal that lends but clauses of the family: no
-- list of the goal is shorter, takes fewer items of the class, or more.
use Prim.Native.Nat.{ℕ, zero, suc, ◌+◌, ◌-◌, ◌≤◌, ◌<◌, min, max}
use native.Mathlib.Omega.{arith}
use native.Mathlib.Decide.{dec_lt, dec_le}
use mathlib.Core.Path.{◌≡◌, refl, sym, ap, ◌∙◌, subst}
use mathlib.Core.Bool.{Bool, true, false, cond, ◌&&◌, ◌||◌, false≢true}
use mathlib.Core.List.{List, [], ◌∷◌, ◌++◌}
use mathlib.Core.Logic.{⊎_elim}
use lib.ListN.{length, length-append}
use lib.Dec.{leb}
use borrow.Author.Tests.{leb-true, leb-false}
use Rattle.calculus.specs.Formula.{Fits, Goal, Clause, oneᴳ, zeroᴳ, tensor, oplus, atomᴰ, topᴰ, lolliᴰ, withᴰ, matched, residual}
use Rattle.calculus.specs.Items.{Items, Splits, Within, Empty}
use Rattle.calculus.specs.Derivation.{Scope, Entry, size, clause_at, linear_at, residual_at, lend}
use Rattle.calculus.specs.Inner.Summary.{Sum, sum_1, sum_⊤, sum_⊗, sum_&, sum_⊕₁, sum_⊕₂, sum_⊸, sum_rule, sum_item, Joins, Without, Plus}
use Rattle.calculus.specs.Inner.Summary.{Covers, spare}
use Rattle.calculus.proofs.SetLaws.{join_left, join_right, join_within, covers}
use Rattle.calculus.proofs.RenamingKeeps.{entry_past, entry_before, entry_lent, fits_lend, lent_cases}
use Rattle.lines.specs.Count.{bit}
use Rattle.bounds.specs.Inner.Count.{Class, count}
use Rattle.bounds.specs.Inner.Bound.{Names, off, least_g, low_g, high_g, Admits, Allows, Settles, Kin, LendsG, LendsD, Scoped}
use Rattle.bounds.specs.Inner.Bound.{Closed, Keeps}
use Rattle.bounds.proofs.CountLaws.{count_none, count_within, count_split, count_plus, count_lend}

-- A clause that is used

no_zero : {n : ℕ} {es : Scope} {l : List ℕ} {U : Items} {v : Bool} → Sum n es zeroᴳ l U v → ⊥
no_zero {n = zero} s = elim s [ ]
no_zero {n = suc n} s = elim s [ ]

sum_in : {n : ℕ} {es : Scope} {l : List ℕ} {U : Items} {v : Bool} (a e : ℕ) → Sum n es (residual_at es a e) l U v → e < size es
unfolding residual_at clause_at residual
sum_in {n} {es} {l} {U} {v} a e s = go (dec_lt e (size es))
  where
    go : Dec (e < size es) → e < size es
    go (yes h) = h
    go (no h) =
        absurd (no_zero (subst (λ (x : Entry). Sum n es (residual es.fits a x.clause) l U v) (entry_past es e (omega arith)) s))

-- What is left of a clause for a name: of a head that fits, of one that does not or of rest, of a recipe, of a menu.
data Left (fits : Fits) (a : ℕ) : Clause → Goal → Type 0 where
  left_head : {b : ℕ} → fits b a ≡ true → Left fits a (atomᴰ b) oneᴳ
  left_none : {D : Clause} → Left fits a D zeroᴳ
  left_recipe : {G H : Goal} {D : Clause} → Left fits a D H → Left fits a (lolliᴰ G D) (tensor H G)
  left_menu : {G H : Goal} {D E : Clause} → Left fits a D G → Left fits a E H → Left fits a (withᴰ D E) (oplus G H)

left_of : (fits : Fits) (a : ℕ) (D : Clause) → Left fits a D (residual fits a D)
unfolding residual matched
left_of fits a (atomᴰ b) = at (fits b a) refl
  where
    at : (c : Bool) → fits b a ≡ c → Left fits a (atomᴰ b) (matched c)
    at true e = left_head e
    at false e = left_none
left_of fits a topᴰ = left_none
left_of fits a (lolliᴰ G D) = left_recipe (left_of fits a D)
left_of fits a (withᴰ D E) = left_menu (left_of fits a D) (left_of fits a E)

-- Slack of both, of either
either_false : (v w : Bool) → v ≡ false → w ≡ false → (v || w) ≡ false
either_false v w p q = rw (p, q) refl

left_false : (v w : Bool) → v ≡ false → (v && w) ≡ false
left_false v w p = rw p refl

right_false : (v w : Bool) → w ≡ false → (v && w) ≡ false
right_false true w p = p
right_false false w p = refl

-- without slack what is covered is within
covers_all : (es : Scope) {v : Bool} {U I : Items} → v ≡ false → Covers (spare es v) U I → Within I U
covers_all es {v} {U} {I} p c = ⊎_elim (λ q. absurd (false≢true (sym p ∙ q))) (λ q. q) ((covers es {v = v} {U = U} {I = I}).1 c)

within_self : {I : Items} → Within I I
within_self = record { kept = λ i h. h }

pub off_below : (h : ℕ) (b : Bool) → off h b < 255 → (h < 255) × (off h b ≡ h - bit b)
unfolding off
off_below h b = at (leb 255 h) refl
  where
    at : (c : Bool) → leb 255 h ≡ c → cond c h (h - bit b) < 255 → (h < 255) × (cond c h (h - bit b) ≡ h - bit b)
    at true e k = absurd (omega (arith, leb-true 255 h e))
    at false e k = (omega (arith, leb-false 255 h e), refl)

-- Keeping to bounds, one connective at a time
module _ (K : Class) {es : Scope} where
  pub keeps_none : {U : Items} → Empty U → Keeps K es 0 0 0 [] U false
  keeps_none n = let z = count_none es K n in record { long = omega arith; some = omega arith; few = λ h. (refl, omega arith) }

  keeps_top : {U : Items} → Empty U → Keeps K es 0 0 255 [] U true
  keeps_top n = record { long = omega arith; some = omega arith; few = λ h. absurd (omega arith) }

  module _ {a b c d e f : ℕ} {l l₁ l₂ : List ℕ} {U U₁ U₂ : Items} {v v₁ v₂ : Bool} (p : l ≡ l₁ ++ l₂) where
    pub keeps_⊗ : Splits U U₁ U₂ → v ≡ (v₁ || v₂)
        → Keeps K es a b c l₁ U₁ v₁ → Keeps K es d e f l₂ U₂ v₂ → Keeps K es (a + d) (b + e) (c + f) l U v
    keeps_⊗ s q x y =
        let n = count_split es K s in
        let m = ap length p ∙ length-append l₁ l₂ in
        let xl = x.long in let yl = y.long in let xs = x.some in let ys = y.some in
        record {
          long = omega arith;
          some = omega arith;
          few = λ h.
              let xf = x.few (omega arith) in
              let yf = y.few (omega arith) in
              (q ∙ either_false v₁ v₂ xf.0 yf.0, omega (arith, xf.1, yf.1));
        }

    keeps_& : Joins U U₁ U₂ → v ≡ (v₁ && v₂) → Covers (spare es v₁) U₁ U₂ → Covers (spare es v₂) U₂ U₁
        → Keeps K es a b c l₁ U₁ v₁ → Keeps K es d e f l₂ U₂ v₂ → Keeps K es (a + d) (max b e) (min c f) l U v
    keeps_& j q g k x y =
        let m = ap length p ∙ length-append l₁ l₂ in
        let xl = x.long in let yl = y.long in let xs = x.some in let ys = y.some in
        let nl = count_within es K (join_left j) in let nr = count_within es K (join_right j) in
        record {
          long = omega arith;
          some = omega arith;
          few = λ h. at h (dec_le c f);
        }
      where
        at : min c f < 255 → Dec (c ≤ f) → (v ≡ false) × (count es K U ≤ min c f)
        at h (yes r) =
            let xf = x.few (omega arith) in
            let n = count_within es K (join_within j within_self (covers_all es xf.0 g)) in
            (q ∙ left_false v₁ v₂ xf.0, omega (arith, xf.1))
        at h (no r) =
            let yf = y.few (omega arith) in
            let n = count_within es K (join_within j (covers_all es yf.0 k) within_self) in
            (q ∙ right_false v₁ v₂ yf.0, omega (arith, yf.1))

part : (w k : Bool) → bit (w && k) ≤ bit k
unfolding bit
part true k = omega arith
part false k = omega arith

keeps_⊸ : (K : Class) {es : Scope} (D : Clause) {a b c : ℕ} {l : List ℕ} {U W : Items} {v : Bool}
    → Without U W (size es) → (spare es v (size es) || W (size es)) ≡ true → Keeps K (lend es D) a b c l W v
    → Keeps K es a (b - bit (K D)) (off c (K D)) l U v
unfolding spare
keeps_⊸ K {es} D {a} {b} {c} {l} {U} {W} {v} s q x =
    let n = count_lend es K D s in
    let one = part (W (size es)) (K D) in
    let xs = x.some in
    record {
      long = x.long;
      some = omega arith;
      few = λ h.
          let o = off_below c (K D) h in
          let f = x.few o.0 in
          let w : W (size es) ≡ true = ap (λ z. z || W (size es)) (sym f.0) ∙ q in
          let m : bit (W (size es) && K D) ≡ bit (K D) = ap (λ z. bit (z && K D)) w in
          (f.0, omega (arith, f.1, o.1));
    }

keeps_⊕ : (K : Class) {es : Scope} {a b c d e f x : ℕ} {l m : List ℕ} {U : Items} {v : Bool} → a ≤ d → b ≤ e → f ≤ c
    → l ≡ x ∷ m → Keeps K es d e f m U v → Keeps K es (suc a) b c l U v
keeps_⊕ K p q r g k =
    let n = ap length g in
    let kl = k.long in let ks = k.some in
    record {
      long = omega arith;
      some = omega arith;
      few = λ h. let kf = k.few (omega arith) in (kf.0, omega (arith, kf.1));
    }

-- A list of what is left of a clause for the name a keeps to the name's bounds, after s steps and l to h items.
record WayKeeps (K : Class) (t : Names) (es : Scope) (a s l h : ℕ) (m : List ℕ) (U : Items) (v : Bool) : Type 0 where
  long : t.least a ≤ s + length m
  some : t.low a ≤ l + count es K U
  few : t.high a < 255 → (v ≡ false) × (h + count es K U ≤ t.high a)

module _ (K : Class) (t : Names) {es : Scope} {a s l h : ℕ} where
  way_head : {U : Items} → Empty U → Admits K t a s l h → WayKeeps K t es a s l h [] U false
  way_head e k =
      let z = count_none es K e in
      let kl = k.least in let ks = k.low in
      record { long = omega arith; some = omega arith; few = λ g. let f = k.high g in (refl, omega arith) }

  way_⊗ : {x y z : ℕ} {m m₁ m₂ : List ℕ} {U U₁ U₂ : Items} {v v₁ v₂ : Bool}
      → m ≡ m₁ ++ m₂ → Splits U U₁ U₂ → v ≡ (v₁ || v₂)
      → WayKeeps K t es a (s + x) (l + y) (h + z) m₁ U₁ v₁ → Keeps K es x y z m₂ U₂ v₂ → WayKeeps K t es a s l h m U v
  way_⊗ {m₁} {m₂} {v₁} {v₂} p d q w k =
      let n = count_split es K d in
      let o = ap length p ∙ length-append m₁ m₂ in
      let wl = w.long in let kl = k.long in let ws = w.some in let ks = k.some in
      record {
        long = omega arith;
        some = omega arith;
        few = λ g.
            let wf = w.few g in
            let kf = k.few (omega (arith, wf.1)) in
            (q ∙ either_false v₁ v₂ wf.0 kf.0, omega (arith, wf.1, kf.1));
      }

  way_⊕ : {x : ℕ} {m n : List ℕ} {U : Items} {v : Bool}
      → m ≡ x ∷ n → WayKeeps K t es a (suc s) l h n U v → WayKeeps K t es a s l h m U v
  way_⊕ p w =
      let o = ap length p in
      let wl = w.long in
      record { long = omega arith; some = w.some; few = w.few }

-- a rule stays; an item is one more
keeps_rule : (K : Class) (t : Names) {es : Scope} {a e : ℕ} {l : List ℕ} {U : Items} {v : Bool}
    → WayKeeps K t es a 1 0 0 l U v → Keeps K es (t.least a) (t.low a) (t.high a) (e ∷ l) U v
keeps_rule K t w =
    let wl = w.long in let ws = w.some in
    record { long = omega arith; some = omega arith; few = λ h. let f = w.few h in (f.0, omega (arith, f.1)) }

keeps_item : (K : Class) (t : Names) {es : Scope} {a e b : ℕ} {l : List ℕ} {U W : Items} {v : Bool}
    → e < size es → W e ≡ false → Plus U W e → b ≡ bit (K (clause_at es e)) → WayKeeps K t es a 1 b b l W v
    → Keeps K es (t.least a) (t.low a) (t.high a) (e ∷ l) U v
keeps_item K t {es} i n u p w =
    let c = count_plus es K i n u in
    let wl = w.long in let ws = w.some in
    record { long = omega arith; some = omega arith; few = λ h. let f = w.few h in (f.0, omega (arith, f.1)) }

-- The family grows by what is lent.
module _ (P : Kin) (fits : Fits) where
  scoped_lend : {es : Scope} (D : Clause) → P D true → Scoped P fits es → Scoped P fits (lend es D)
  unfolding clause_at linear_at
  scoped_lend {es} D p s = record {
    same_fits = fits_lend es D ∙ s.same_fits;
    kin =
        lent_cases es D (λ e. P (clause_at (lend es D) e) (linear_at (lend es D) e))
        (λ e h. subst (λ (x : Entry). P x.clause x.linear) (sym (entry_before es D e h)) (s.kin e h))
        (subst (λ (x : Entry). P x.clause x.linear) (sym (entry_lent es D (size es) refl)) p);
  }

  module _ (K : Class) (t : Names) (c : Closed P fits K t) where
    -- the clause at e, which is used for a
    record Used (es : Scope) (a e : ℕ) (b : Bool) : Type 0 where
      within : e < size es
      settled : Settles K t es.fits a (clause_at es e) b
      lends : LendsD P (clause_at es e)

    used : {n : ℕ} {es : Scope} {a e : ℕ} {l : List ℕ} {U : Items} {v : Bool} {b : Bool}
        → Scoped P fits es → linear_at es e ≡ b → Sum n es (residual_at es a e) l U v → Used es a e b
    used {n} {es} {a} {e} {l} {U} {v} {b} s p x =
        let i = sum_in a e x in
        let k : P (clause_at es e) b = subst (P (clause_at es e)) p (s.kin e i) in
        record {
          within = i;
          settled = subst (λ (z : Fits). Settles K t z a (clause_at es e) b) (sym s.same_fits) (c.settles (clause_at es e) b k a);
          lends = c.lends (clause_at es e) b k;
        }

    mutual
      unfolding least_g low_g high_g LendsG LendsD Allows Settles residual_at bit

      pub keeps : {n : ℕ} {es : Scope} {G : Goal} {l : List ℕ} {U : Items} {v : Bool} → Scoped P fits es → LendsG P G → Sum n es G l U v
          → Keeps K es (least_g K t G) (low_g K t G) (high_g K t G) l U v
      keeps s h (sum_1 e) = keeps_none K e
      keeps s h (sum_⊤ e) = keeps_top K e
      keeps s h (sum_⊗ p d q x y) = keeps_⊗ K p d q (keeps s h.0 x) (keeps s h.1 y)
      keeps s h (sum_& p j q g k x y) = keeps_& K p j q g k (keeps s h.0 x) (keeps s h.1 y)
      keeps s h (sum_⊕₁ p x) = keeps_⊕ K (omega arith) (omega arith) (omega arith) p (keeps s h.0 x)
      keeps s h (sum_⊕₂ p x) = keeps_⊕ K (omega arith) (omega arith) (omega arith) p (keeps s h.1 x)
      keeps s h (sum_⊸ {D} d q x) = keeps_⊸ K D d q (keeps (scoped_lend D h.0 s) h.1 x)
      keeps s h (sum_rule {es} {a} {e} r x) =
          let u = used s r x in
          keeps_rule K t (keeps_left s u.lends u.settled x (left_of es.fits a (clause_at es e)))
      keeps s h (sum_item {es} {a} {e} r n p x) =
          let u = used s r x in
          keeps_item K t u.within n p refl (keeps_left s u.lends u.settled x (left_of es.fits a (clause_at es e)))

      keeps_left : {n : ℕ} {es : Scope} {a : ℕ} {D : Clause} {G : Goal} {l : List ℕ} {U : Items} {v : Bool} {i j k : ℕ}
          → Scoped P fits es → LendsD P D → Allows K t es.fits a D i j k → Sum n es G l U v → Left es.fits a D G
          → WayKeeps K t es a i j k l U v
      keeps_left s h w (sum_1 e) (left_head f) = way_head K t e (w f)
      keeps_left s h w (sum_⊗ p d q x y) (left_recipe z) = way_⊗ K t p d q (keeps_left s h.0 w x z) (keeps s h.1 y)
      keeps_left s h w (sum_⊕₁ p x) (left_menu y z) = way_⊕ K t p (keeps_left s h.0 w.0 x y)
      keeps_left s h w (sum_⊕₂ p x) (left_menu y z) = way_⊕ K t p (keeps_left s h.1 w.1 x z)
      keeps_left {a = a} {D = D} {i = i} {j = j} {k = k} s h w (sum_⊤ _) x64 = elim x64 [ ]
      keeps_left {a = a} {D = D} {i = i} {j = j} {k = k} s h w (sum_& {G = G} {H = H} {l₁ = l₁} {l₂ = l₂} {U₁ = U₁} {U₂ = U₂} {v₁ = v₁} {v₂ = v₂} _ _ _ _ _ _ _) x107 = elim x107 [ ]
      keeps_left {a = a} {i = i} {j = j} {k = k} s h w (sum_⊸ {D = D} {G = G} {W = W} _ _ _) x80 = elim x80 [ ]
      keeps_left {D = D} {i = i} {j = j} {k = k} s h w (sum_rule {n = n} {a = a} {e = e} {l = l} _ _) x74 = elim x74 [ ]
      keeps_left {D = D} {i = i} {j = j} {k = k} s h w (sum_item {n = n} {a = a} {e = e} {l = l} {W = W} _ _ _ _) x89 = elim x89 [ ]
