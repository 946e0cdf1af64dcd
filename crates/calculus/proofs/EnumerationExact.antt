-- The enumeration has exactly the lists of a job. So a list in it that comes before all others is the first one, and where the
-- enumeration is empty there is none.
use Prim.Native.Nat.{ℕ, zero, suc, ◌≤◌, ◌<◌}
use native.Mathlib.Omega.{arith}
use native.Mathlib.Decide.{ℕ_discrete, dec_lt}
use mathlib.Core.Path.{◌≡◌, refl, sym, ap, ap₂, ◌∙◌, subst}
use mathlib.Core.Logic.{◌⊎◌, inl, inr, ⊎_elim, ⊎_map, ◌↔◌, by_cases}
use mathlib.Core.Bool.{Bool, true, false, not, ◌&&◌, ◌||◌, false≢true}
use mathlib.Core.List.Memᴰ
use mathlib.Core.List.{List, [], ◌∷◌, map, flat_map, Memᴰ}
use lib.ListN.{length}
use lib.Dec.{eqb, ltb}
use borrow.Author.Tests.{eqb-true, ltb-true, leb-true, le-leb, not-true as untrue}
use Rattle.calculus.specs.Formula.{Goal, Clause, atomᴳ, topᴳ, oneᴳ, zeroᴳ, tensor, with, oplus, lolliᴳ, residual}
use Rattle.calculus.specs.Items.{Items, ∅, ◌∪◌, ◌∖◌, only, Empty, Splits}
use Rattle.calculus.specs.Derivation.{Scope, Entry, size, clause_at, linear_at, residual_at, lend}
use Rattle.calculus.specs.Steps.{steps, left_choice, right_choice, Before, here, there}
use Rattle.calculus.specs.Job.{Job, DerivableWithin, Listed, First}
use Rattle.calculus.specs.Inner.Summary.{Joins, Without, Plus, spare, Covers, Bounded, Sum, sum_1, sum_⊤, sum_⊗, sum_&, sum_⊕₁}
use Rattle.calculus.specs.Inner.Summary.{sum_⊕₂, sum_⊸, sum_rule, sum_item}
use Rattle.calculus.specs.Inner.Window.{Counts}
use Rattle.calculus.specs.Inner.Enumeration.{Taking, taking, kept, pairs, below, all, apart, covering, tensored, sided}
use Rattle.calculus.specs.Inner.Enumeration.{lent, taking_use, side_taken, takings, named, fitting, lists, matches, among, leads}
use Rattle.calculus.proofs.SetLaws.{◌≐◌, ◌⟹◌, ◌⊑◌, table, same_path, covers, not_true, only_eq, only_self, empty_∅, ∪_joins}
use Rattle.calculus.proofs.SetLaws.{join_left, join_right, join_within, only_without, only_plus, split_joins}
use Rattle.calculus.proofs.SummaryExact.{bounded_within, bounded_∪, lend_size}
use Rattle.calculus.proofs.WindowExact.{listed}
use Rattle.calculus.proofs.RenamingKeeps.{entry_past}

-- Laws of tests and of lists of lists.
both : (a b : Bool) → (a && b) ≡ true → (a ≡ true) × (b ≡ true)
both true b h = (refl, h)
both false b h = absurd (false≢true h)

either : (a b : Bool) → (a || b) ≡ true → (a ≡ true) ⊎ (b ≡ true)
either true b h = inl refl
either false b h = inr h

and_true : (a b : Bool) → a ≡ true → b ≡ true → (a && b) ≡ true
and_true a b p q = rw p q

into : {A B : Type 0} (f : A → List B) {x : A} {xs : List A} {y : B} → Memᴰ x xs → Memᴰ y (f x) → Memᴰ y (flat_map f xs)
unfolding flat_map
into f {y} (Memᴰ.head {xs} e) m = Memᴰ.append_left (flat_map f xs) (subst (λ z. Memᴰ y (f z)) e m)
into f (Memᴰ.tail {x} n) m = Memᴰ.append_right (f x) (into f n m)

out_of : {A B : Type 0} (f : A → List B) (xs : List A) {y : B} → Memᴰ y (flat_map f xs) → (x : A) × Memᴰ x xs × Memᴰ y (f x)
unfolding flat_map
out_of f [] m = absurd (Memᴰ.not-nil m)
out_of f (x ∷ xs) m = ⊎_elim (λ n. (x, Memᴰ.head refl, n))
    (λ n. let r = out_of f xs n in (r.0, Memᴰ.tail r.1, r.2)) (Memᴰ.append_cases (f x) m)

into_pairs : {A B : Type 0} (f : A → A → List B) {x y : A} {xs ys : List A} {z : B}
    → Memᴰ x xs → Memᴰ y ys → Memᴰ z (f x y) → Memᴰ z (pairs f xs ys)
unfolding pairs
into_pairs f {x} {ys} m n i = into (λ x. flat_map (f x) ys) m (into (f x) n i)

out_of_pairs : {A B : Type 0} (f : A → A → List B) (xs ys : List A) {z : B} → Memᴰ z (pairs f xs ys)
    → (x y : A) × Memᴰ x xs × Memᴰ y ys × Memᴰ z (f x y)
unfolding pairs
out_of_pairs f xs ys m =
    let r = out_of (λ x. flat_map (f x) ys) xs m in
    let s = out_of (f r.0) ys r.2 in
    (r.0, s.0, r.1, s.1, s.2)

kept_in : {A : Type 0} (b : Bool) {x y : A} → b ≡ true → y ≡ x → Memᴰ y (kept b x)
unfolding kept
kept_in true h e = Memᴰ.head e
kept_in false h e = absurd (false≢true h)

kept_out : {A : Type 0} (b : Bool) {x y : A} → Memᴰ y (kept b x) → (b ≡ true) × (y ≡ x)
unfolding kept
kept_out true m = (refl, Memᴰ.eq_of_singleton m)
kept_out false m = absurd (Memᴰ.not-nil m)

below_in : {i : ℕ} (n : ℕ) → i < n → Memᴰ i (below n)
unfolding below
below_in zero h = absurd (omega arith)
below_in {i} (suc n) h = by_cases (ℕ_discrete i n) (λ e. Memᴰ.head e) (λ e. Memᴰ.tail (below_in n (omega arith)))

all_at : (n : ℕ) (I : Items) → all n I ≡ true → (i : ℕ) → i < n → I i ≡ true
unfolding all
all_at zero I h i k = absurd (omega arith)
all_at (suc n) I h i k =
    let g = both (I n) (all n I) h in
    by_cases (ℕ_discrete i n) (λ e. ap I e ∙ g.0) (λ e. all_at n I g.1 i (omega arith))

all_of : (n : ℕ) (I : Items) → ((i : ℕ) → I i ≡ true) → all n I ≡ true
unfolding all
all_of zero I f = refl
all_of (suc n) I f = and_true (I n) (all n I) (f n) (all_of n I f)

-- The tests of items say what they should, where the items tested stand in the scope.
apart_splits : {es : Scope} (U W : Items) → Bounded es U → apart es U W ≡ true → Splits (U ∪ W) U W
unfolding apart
apart_splits {es} U W b h = record { whole = (∪_joins U W).joined; apart = λ i. not_true (U i && W i) (none i) }
  where
    none : (i : ℕ) → (U i && W i) ≡ true → ⊥
    none i t = false≢true
        (sym (untrue (U i && W i) (all_at (size es) (λ i. not (U i && W i)) h i (b.bounded i (both (U i) (W i) t).0))) ∙ t)

splits_apart : (es : Scope) {T U W : Items} → Splits T U W → apart es U W ≡ true
unfolding apart
splits_apart es {U} {W} s = all_of (size es) _ (λ i. table 2 (λ u w. (u && w) ≐ false ⟹ not (u && w) ≐ true) refl (U i) (W i) (s.apart i))

covering_covers : {es : Scope} (v : Bool) (U I : Items) → Bounded es I → covering es v U I ≡ true → Covers (spare es v) U I
unfolding covering spare
covering_covers {es} v U I b h = record {
  cover = λ i t. table 3 (λ v u i. (not i || (v || u)) ≐ true ⟹ i ⊑ v || u) refl v (U i) (I i)
      (all_at (size es) (λ i. not (I i) || (v || U i)) h i (b.bounded i t)) t;
}

covers_covering : (es : Scope) (v : Bool) {U I : Items} → Covers (spare es v) U I → covering es v U I ≡ true
unfolding covering spare
covers_covering es v {U} {I} c =
    all_of (size es) _ (λ i. table 3 (λ v u i. i ⊑ v || u ⟹ (not i || (v || u)) ≐ true) refl v (U i) (I i) (c.cover i))

-- An entry whose conditions have a summary stands in the scope, and so do all items of a summary.
no_0 : {n : ℕ} {es : Scope} {U : Items} {l : List ℕ} {v : Bool} → Sum n es zeroᴳ l U v → ⊥
no_0 {n = zero} x = elim x [ ]
no_0 {n = suc n} x = elim x [ ]

in_scope : {n : ℕ} {es : Scope} {U : Items} {l : List ℕ} {v : Bool} (a e : ℕ) → Sum n es (residual_at es a e) l U v → e < size es
unfolding residual residual_at clause_at
in_scope {n} {es} {U} {l} {v} a e x =
    by_cases (dec_lt e (size es)) (λ k. k)
    (λ k. absurd (no_0 (subst (λ (y : Entry). Sum n es (residual es.fits a y.clause) l U v) (entry_past es e (omega arith)) x)))

empty_bounded : {es : Scope} {U : Items} → Empty U → Bounded es U
empty_bounded e = record { bounded = λ i h. absurd (false≢true (sym (e.vacant i) ∙ h)) }

joined_bounded : {es : Scope} {T U W : Items} → Joins T U W → Bounded es U → Bounded es W → Bounded es T
joined_bounded {U} {W} j b c =
    bounded_within (join_within j (join_left (∪_joins U W)) (join_right (∪_joins U W))) (bounded_∪ b c)

without_bounded : {es : Scope} (D : Clause) {U W : Items} → Without U W (size es) → Bounded (lend es D) W → Bounded es U
without_bounded {es} D {U} {W} s b = record { bounded = at }
  where
    at : (i : ℕ) → U i ≡ true → i < size es
    at i h =
        let p = both (W i) (not (only (size es) i)) (sym (s.without i) ∙ h) in
        let k : i < size (lend es D) = b.bounded i p.0 in
        by_cases (ℕ_discrete i (size es))
        (λ e. absurd (false≢true (sym (untrue _ p.1) ∙ ap (only (size es)) e ∙ only_self (size es))))
        (λ e. omega (arith, lend_size es D))

only_bounded : {es : Scope} (e : ℕ) → e < size es → Bounded es (only e)
only_bounded e h = record { bounded = λ i k. omega (arith, only_eq e i k) }

sum_bounded : {n : ℕ} {es : Scope} {G : Goal} {l : List ℕ} {U : Items} {v : Bool} → Sum n es G l U v → Bounded es U
sum_bounded (sum_1 e) = empty_bounded e
sum_bounded (sum_⊤ e) = empty_bounded e
sum_bounded (sum_⊗ p s w x y) = joined_bounded (split_joins s) (sum_bounded x) (sum_bounded y)
sum_bounded (sum_& p j w s t x y) = joined_bounded j (sum_bounded x) (sum_bounded y)
sum_bounded (sum_⊕₁ q x) = sum_bounded x
sum_bounded (sum_⊕₂ q x) = sum_bounded x
sum_bounded (sum_⊸ {D} s t x) = without_bounded D s (sum_bounded x)
sum_bounded (sum_rule r x) = sum_bounded x
sum_bounded (sum_item {a} {e} r t s x) =
    joined_bounded (record { joined = s.plus }) (sum_bounded x) (only_bounded e (in_scope a e x))

-- Every taking is a summary: at each kind of goal, then for all.
record Sums (n : ℕ) (es : Scope) (G : Goal) (x : Taking) : Type 0 where
  sum : Sum n es G x.list x.used x.slack

tensored_sums : {n : ℕ} {es : Scope} {G H : Goal} {x y z : Taking}
    → Sums n es G x → Sums n es H y → Memᴰ z (tensored es x y) → Sums n es (tensor G H) z
unfolding tensored
tensored_sums {n} {es} {G} {H} {x} {y} p q m =
    let k = kept_out (apart es x.used y.used) m in
    subst (Sums n es (tensor G H)) (sym k.1)
    (record { sum = sum_⊗ refl (apart_splits x.used y.used (sum_bounded p.sum) k.0) refl p.sum q.sum })

sided_sums : {n : ℕ} {es : Scope} {G H : Goal} {x y z : Taking}
    → Sums n es G x → Sums n es H y → Memᴰ z (sided es x y) → Sums n es (with G H) z
unfolding sided
sided_sums {n} {es} {G} {H} {x} {y} p q m =
    let k = kept_out (covering es x.slack x.used y.used && covering es y.slack y.used x.used) m in
    let c = both (covering es x.slack x.used y.used) _ k.0 in
    subst (Sums n es (with G H)) (sym k.1)
    (record {
      sum = sum_& refl (∪_joins x.used y.used) refl
          (covering_covers x.slack x.used y.used (sum_bounded q.sum) c.0)
          (covering_covers y.slack y.used x.used (sum_bounded p.sum) c.1)
          p.sum q.sum;
    })

left_sums : {n : ℕ} {es : Scope} {G H : Goal} {x : Taking} → Sums n es G x → Sums n es (oplus G H) (side_taken left_choice x)
unfolding side_taken
left_sums p = record { sum = sum_⊕₁ refl p.sum }

right_sums : {n : ℕ} {es : Scope} {G H : Goal} {x : Taking} → Sums n es H x → Sums n es (oplus G H) (side_taken right_choice x)
unfolding side_taken
right_sums p = record { sum = sum_⊕₂ refl p.sum }

lent_sums : {n : ℕ} {es : Scope} {D : Clause} {G : Goal} {x z : Taking}
    → Sums n (lend es D) G x → Memᴰ z (lent es x) → Sums n es (lolliᴳ D G) z
unfolding lent spare
lent_sums {n} {es} {D} {G} {x} p m =
    let k = kept_out (x.slack || x.used (size es)) m in
    subst (Sums n es (lolliᴳ D G)) (sym k.1)
    (record { sum = sum_⊸ (only_without x.used (size es)) k.0 p.sum })

spent_sums : {n : ℕ} {es : Scope} (a e : ℕ) {x z : Taking} (b : Bool) → linear_at es e ≡ b
    → Sums n es (residual_at es a e) x → Memᴰ z (taking_use b e x) → Sums (suc n) es (atomᴳ a) z
unfolding taking_use
spent_sums {n} {es} a e false r p m =
    subst (Sums (suc n) es (atomᴳ a)) (sym (Memᴰ.eq_of_singleton m)) (record { sum = sum_rule r p.sum })
spent_sums {n} {es} a e {x} true r p m =
    let k = kept_out (not (x.used e)) m in
    subst (Sums (suc n) es (atomᴳ a)) (sym k.1)
    (record { sum = sum_item r (untrue (x.used e) k.0) (only_plus x.used e) p.sum })

takings_sums : (n : ℕ) (names : ℕ → Scope → List Taking)
    → ((a : ℕ) (es : Scope) (x : Taking) → Memᴰ x (names a es) → Sums n es (atomᴳ a) x)
    → (G : Goal) (es : Scope) (x : Taking) → Memᴰ x (takings names G es) → Sums n es G x
unfolding takings
takings_sums n names f (atomᴳ a) es x m = f a es x m
takings_sums n names f topᴳ es x m =
    subst (Sums n es topᴳ) (sym (Memᴰ.eq_of_singleton m)) (record { sum = sum_⊤ empty_∅ })
takings_sums n names f oneᴳ es x m =
    subst (Sums n es oneᴳ) (sym (Memᴰ.eq_of_singleton m)) (record { sum = sum_1 empty_∅ })
takings_sums n names f zeroᴳ es x m = absurd (Memᴰ.not-nil m)
takings_sums n names f (tensor G H) es x m =
    let r = out_of_pairs (tensored es) (takings names G es) (takings names H es) m in
    tensored_sums (takings_sums n names f G es r.0 r.2) (takings_sums n names f H es r.1 r.3) r.4
takings_sums n names f (with G H) es x m =
    let r = out_of_pairs (sided es) (takings names G es) (takings names H es) m in
    sided_sums (takings_sums n names f G es r.0 r.2) (takings_sums n names f H es r.1 r.3) r.4
takings_sums n names f (oplus G H) es x m = ⊎_elim
    (λ i. let r = Memᴰ.of_map (side_taken left_choice) (takings names G es) i in
    subst (Sums n es (oplus G H)) r.2 (left_sums (takings_sums n names f G es r.0 r.1)))
    (λ i. let r = Memᴰ.of_map (side_taken right_choice) (takings names H es) i in
    subst (Sums n es (oplus G H)) r.2 (right_sums (takings_sums n names f H es r.0 r.1)))
    (Memᴰ.append_cases (map (side_taken left_choice) (takings names G es)) m)
takings_sums n names f (lolliᴳ D G) es x m =
    let r = out_of (lent es) (takings names G (lend es D)) m in
    lent_sums (takings_sums n names f G (lend es D) r.0 r.1) r.2

named_sums : (n a : ℕ) (es : Scope) (x : Taking) → Memᴰ x (named n a es) → Sums n es (atomᴳ a) x
unfolding named
named_sums zero a es x m = absurd (Memᴰ.not-nil m)
named_sums (suc n) a es x m =
    let r = out_of (λ e. flat_map (taking_use (linear_at es e) e) (takings (named n) (residual_at es a e) es)) (below (size es)) m in
    let e = r.0 in
    let s = out_of (taking_use (linear_at es e) e) (takings (named n) (residual_at es a e) es) r.2 in
    spent_sums a e (linear_at es e) refl
    (takings_sums n (named n) (λ b fs y i. named_sums n b fs y i) (residual_at es a e) es s.0 s.1) s.2

-- Every summary is a taking.
taking_path : {l m : List ℕ} {U W : Items} {v w : Bool} → l ≡ m → ((i : ℕ) → U i ≡ W i) → v ≡ w → taking l U v ≡ taking m W w
taking_path {m} {U} {W} {v} p f q =
    ap (λ l. taking l U v) p ∙ ap (λ U. taking m U v) (same_path (record { same = f })) ∙ ap (λ v. taking m W v) q

spent_rule : (b : Bool) (e : ℕ) (x : Taking) → b ≡ false → Memᴰ (taking (e ∷ x.list) x.used x.slack) (taking_use b e x)
unfolding taking_use
spent_rule true e x r = absurd (false≢true (sym r))
spent_rule false e x r = Memᴰ.head refl

spent_item : (b : Bool) (e : ℕ) (x : Taking) {U : Items} → b ≡ true → x.used e ≡ false → Plus U x.used e
    → Memᴰ (taking (e ∷ x.list) U x.slack) (taking_use b e x)
unfolding taking_use ◌∪◌
spent_item true e x r t s = kept_in (not (x.used e)) (ap not t) (taking_path refl s.plus refl)
spent_item false e x r t s = absurd (false≢true r)

-- a side's taking, behind the choice
side_taken_lem : (c : ℕ) {l m : List ℕ} {U : Items} {v : Bool} {xs : List Taking} → l ≡ c ∷ m → Memᴰ (taking m U v) xs
    → Memᴰ (taking l U v) (map (side_taken c) xs)
unfolding side_taken
side_taken_lem c {U} {v} {xs} q i =
    subst (λ l. Memᴰ (taking l U v) (map (side_taken c) xs)) (sym q) (Memᴰ.map (side_taken c) i)

taken : {n : ℕ} {es : Scope} {G : Goal} {l : List ℕ} {U : Items} {v : Bool}
    → Sum n es G l U v → Memᴰ (taking l U v) (takings (named n) G es)
unfolding takings named tensored sided lent spare ∅ ◌∪◌ ◌∖◌
taken (sum_1 e) = Memᴰ.head (taking_path refl e.vacant refl)
taken (sum_⊤ e) = Memᴰ.head (taking_path refl e.vacant refl)
taken {es} (sum_⊗ p s w x y) =
    into_pairs (tensored es) (taken x) (taken y) (kept_in _ (splits_apart es s) (taking_path p s.whole w))
taken {es} (sum_& {U₁} {U₂} {v₁} {v₂} p j w s t x y) =
    into_pairs (sided es) (taken x) (taken y)
    (kept_in _ (and_true _ _ (covers_covering es v₁ s) (covers_covering es v₂ t)) (taking_path p j.joined w))
taken {n} {es} (sum_⊕₁ {H} q x) =
    Memᴰ.append_left (map (side_taken right_choice) (takings (named n) H es)) (side_taken_lem left_choice q (taken x))
taken {n} {es} (sum_⊕₂ {G} q x) =
    Memᴰ.append_right (map (side_taken left_choice) (takings (named n) G es)) (side_taken_lem right_choice q (taken x))
taken {es} (sum_⊸ s t x) = into (lent es) (taken x) (kept_in _ t (taking_path refl s.without refl))
taken {es} (sum_rule {n} {a} {e} {l} {U} {v} r x) =
    into (λ e. flat_map (taking_use (linear_at es e) e) (takings (named n) (residual_at es a e) es)) (below_in (size es) (in_scope a e x))
    (into (taking_use (linear_at es e) e) (taken x) (spent_rule (linear_at es e) e (taking l U v) r))
taken {es} (sum_item {n} {a} {e} {l} {W} {v} r t s x) =
    into (λ e. flat_map (taking_use (linear_at es e) e) (takings (named n) (residual_at es a e) es)) (below_in (size es) (in_scope a e x))
    (into (taking_use (linear_at es e) e) (taken x) (spent_item (linear_at es e) e (taking l W v) r t s))

-- THEOREM. The enumeration has exactly the lists of the job.
pub exact : (j : Job) (l : List ℕ) → Bounded j.scope (j.strict ∪ j.lax) → Listed j l ↔ Memᴰ l (lists j)
unfolding lists fitting
exact j l b = (λ x. let c = (listed j l b).0 x in to c.0 c.1, from)
  where
    to : Counts j.depth j.scope j.goal j.strict j.lax l → length l ≤ j.length_limit → Memᴰ l (lists j)
    to c h = into (λ x. kept (fitting j x) x.list) (taken c.sum) (kept_in _
        (and_true _ _ (covers_covering j.scope false ((covers j.scope).0 (inr c.within)))
        (and_true _ _ (covers_covering j.scope c.slack c.all_strict) (le-leb _ _ h)))
        refl)

    from : Memᴰ l (lists j) → Listed j l
    from m =
        let r = out_of (λ x. kept (fitting j x) x.list) (takings (named j.depth) j.goal j.scope) m in
        let x = r.0 in
        let s = takings_sums j.depth (named j.depth) (named_sums j.depth) j.goal j.scope x r.1 in
        let k = kept_out (fitting j x) r.2 in
        let f = both (covering j.scope false (j.strict ∪ j.lax) x.used) _ k.0 in
        let g = both (covering j.scope x.slack x.used j.strict) _ f.1 in
        subst (Listed j) (sym k.1) ((listed j x.list b).1 (
          record {
            used = x.used;
            slack = x.slack;
            sum = s.sum;
            within = ⊎_elim (λ e. absurd (false≢true e)) (λ w. w)
                ((covers j.scope).1 (covering_covers false (j.strict ∪ j.lax) x.used (sum_bounded s.sum) f.0));
            all_strict = (covering_covers x.slack x.used j.strict (bounded_within (join_left (∪_joins j.strict j.lax)) b) g.0);
          },
          leb-true _ _ g.1,
        ))

-- Laws of the tests of order.
matches_true : (b : Bool) (l m : List ℕ) → matches b l m ≡ true → (m ≡ l) ⊎ ((b ≡ true) × Before l m)
unfolding matches
matches_true b [] [] h = inl refl
matches_true b [] (y ∷ m) h = absurd (false≢true h)
matches_true b (x ∷ l) [] h = absurd (false≢true h)
matches_true b (x ∷ l) (y ∷ m) h = at (eqb x y) refl (λ k. matches_true b l m k) h
  where
    at : (t : Bool) → eqb x y ≡ t → (matches b l m ≡ true → (m ≡ l) ⊎ ((b ≡ true) × Before l m))
        → elim t as (λ z. Bool) [ true ↦ matches b l m | false ↦ b && ltb x y ] ≡ true
        → (y ∷ m ≡ x ∷ l) ⊎ ((b ≡ true) × Before (x ∷ l) (y ∷ m))
    at true e f k =
        let p = eqb-true x y e in
        ⊎_map (λ q. ap₂ (λ (z : ℕ) (r : List ℕ). z ∷ r) (sym p) q)
        (λ q. (q.0, subst (λ (z : ℕ). Before (x ∷ l) (z ∷ m)) p (there q.1))) (f k)
    at false e f k = let p = both b (ltb x y) k in inr (p.0, here (ltb-true x y p.1))

among_in : (l : List ℕ) (ms : List (List ℕ)) → among l ms ≡ true → Memᴰ l ms
unfolding among
among_in l [] h = absurd (false≢true h)
among_in l (m ∷ ms) h = ⊎_elim
    (λ e. Memᴰ.head (⊎_elim sym (λ x. absurd (false≢true x.0)) (matches_true false l m e)))
    (λ e. Memᴰ.tail (among_in l ms e)) (either (matches false l m) (among l ms) h)

leads_all : (l : List ℕ) (ms : List (List ℕ)) → leads l ms ≡ true → (m : List ℕ) → Memᴰ m ms → (m ≡ l) ⊎ Before l m
unfolding leads
leads_all l [] h m i = absurd (Memᴰ.not-nil i)
leads_all l (k ∷ ms) h m i =
    let p = both (matches true l k) (leads l ms) h in
    ⊎_elim (λ e. subst (λ (k : List ℕ). (k ≡ l) ⊎ Before l k) (sym e) (⊎_map (λ q. q) (λ q. q.1) (matches_true true l k p.0)))
    (λ n. leads_all l ms p.1 m n) (Memᴰ.cases_cons i)

-- THEOREM. What is in the enumeration and before all else there is the first list.
pub first_listed : (j : Job) (l : List ℕ) → Bounded j.scope (j.strict ∪ j.lax)
    → among l (lists j) ≡ true → leads l (lists j) ≡ true → First j l
first_listed j l b p q = record {
  listed = (exact j l b).1 (among_in l (lists j) p);
  least = λ m x. leads_all l (lists j) q m ((exact j m b).0 x);
}

-- THEOREM. Where the enumeration is empty, no derivation is within limits.
pub none_listed : (j : Job) → Bounded j.scope (j.strict ∪ j.lax) → lists j ≡ [] → DerivableWithin j → ⊥
none_listed j b e d = Memᴰ.not-nil (subst (λ (ms : List (List ℕ)). Memᴰ l ms) e
    ((exact j l b).0 (record { derivation = d.derivation; limited = d.limited; list = refl })))
  where
    l : List ℕ
    l = steps d.derivation.tree
