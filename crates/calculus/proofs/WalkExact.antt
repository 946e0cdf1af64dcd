-- The walk is what its places say: it goes along just the lists that are walks, and stops just at the first wrong step. A list is that of
-- a derivation within limits exactly when its walk is right and its items divide.
use Prim.Native.Nat.{ℕ, zero, suc, ◌+◌, ◌≤◌}
use native.Mathlib.Omega.{arith}
use mathlib.Core.Path.{◌≡◌, refl, sym, ap, ap₂, subst, ◌∙◌}
use mathlib.Core.Logic.{◌↔◌, ◌⊎◌, inl, inr}
use mathlib.Core.Bool.{Bool, true, false, ◌&&◌, and-false, false≢true}
use mathlib.Core.List.{List, [], ◌∷◌, ◌++◌, append_assoc, append-nil, head-eq_of_cons-eq, tail-eq_of_cons-eq}
use lib.ListN.{length, length-append}
use lib.Dec.{eqb}
use native.Mathlib.Decide.{ℕ_discrete}
use borrow.Author.Tests.{eqb-true}
use Rattle.calculus.specs.Formula.{Goal, Clause, atomᴳ, topᴳ, oneᴳ, zeroᴳ, tensor, with, oplus, lolliᴳ, atomᴰ, topᴰ, lolliᴰ}
use Rattle.calculus.specs.Formula.{withᴰ, usable}
use Rattle.calculus.specs.Derivation.{Scope, clause_at, lend}
use Rattle.calculus.specs.Items.{◌∪◌}
use Rattle.calculus.specs.Steps.{nesting, left_choice, right_choice}
use Rattle.calculus.specs.Job.{Job, Listed}
use Rattle.calculus.specs.Inner.Summary.{Bounded}
use Rattle.calculus.specs.Walk.{Walk, goes, stops, ◌⨾◌, choice_walk, goal_walk, clause_walk, name_walk, name_within, job_walk}
use Rattle.calculus.specs.Walk.{ItemsDivide}
use Rattle.calculus.specs.Wanted.{Part, goal, meet, Both, parts_⊗, parts_&, parts_⊸, Still, still_1, still_⊤, still_0, still_head}
use Rattle.calculus.specs.Wanted.{Side, side_⊕₁, side_⊕₂, side_&₁, side_&₂, Choosing, choosing_⊕, choosing_&}
use Rattle.calculus.specs.Wanted.{Asks, asks_name, asks_choice}
use Rattle.calculus.specs.Wanted.{Along, ends, in_turn, lends, chooses, uses, Wants, here, in_first, in_second, in_lent}
use Rattle.calculus.specs.Wanted.{in_side, in_use, Wrong, no_such_entry, no_side, too_deep, missing, FirstWrong}
use Rattle.calculus.specs.Inner.Trace.{part_walk, Gathered, UsesRule, Trace, Accounts, trace_1, trace_⊤, trace_0, trace_⊗, trace_&, trace_⊸}
use Rattle.calculus.specs.Inner.Trace.{trace_side, trace_rule, trace_item, trace_head, trace_recipe}
use Rattle.calculus.proofs.TraceExact.{fitting, begun, side_same, listed_accounts}

-- The walk of a part

pub walk_both : (n : ℕ) {p x y : Part} → Both p x y → (es : Scope) (i : ℕ) (l : List ℕ)
    → part_walk n p es i l ≡ part_walk n x es i l ⨾ part_walk n y es
unfolding part_walk goal_walk clause_walk
walk_both n parts_⊗ es i l = refl
walk_both n parts_& es i l = refl
walk_both n parts_⊸ es i l = refl

walk_still : (n : ℕ) {p : Part} → Still p → (es : Scope) (i : ℕ) (l : List ℕ) → part_walk n p es i l ≡ goes i l
unfolding part_walk goal_walk clause_walk
walk_still n still_1 es i l = refl
walk_still n still_⊤ es i l = refl
walk_still n still_0 es i l = refl
walk_still n still_head es i l = refl

pub walk_lent : (n : ℕ) (D : Clause) (G : Goal) (es : Scope) (i : ℕ) (l : List ℕ)
    → part_walk n (goal (lolliᴳ D G)) es i l ≡ part_walk n (goal G) (lend es D) i l
unfolding part_walk goal_walk
walk_lent n D G es i l = refl

-- a choice: the side taken, no such side, no step left
pub walk_side : (n : ℕ) {p q : Part} {c : ℕ} (es : Scope) → Side es p c q → (i : ℕ) (l : List ℕ)
    → part_walk n p es i (c ∷ l) ≡ part_walk n q es (i + 1) l
unfolding part_walk goal_walk clause_walk choice_walk
walk_side n es (side_⊕₁ e) i l = rw e refl
walk_side n es (side_⊕₂ e) i l = rw e refl
walk_side n es (side_&₁ e u) i l = rw e (rw u refl)
walk_side n es (side_&₂ e u) i l = rw e (rw u refl)

pub walk_no_choice : (n : ℕ) {p : Part} → Choosing p → (es : Scope) (i : ℕ) → part_walk n p es i [] ≡ stops 18 i
unfolding part_walk goal_walk clause_walk choice_walk
walk_no_choice n choosing_⊕ es i = refl
walk_no_choice n choosing_& es i = refl

-- what is not the left choice, or one that is not allowed, is passed over; so is the right one
neither : (p q : Bool) (first second : ℕ → List ℕ → Walk) (i c : ℕ) (l : List ℕ) → (c ≡ left_choice → p ≡ true → ⊥)
    → (c ≡ right_choice → q ≡ true → ⊥) → choice_walk p q first second i (c ∷ l) ≡ stops 13 i
unfolding choice_walk
neither p q first second i c l x y =
    rw (untaken c left_choice p x) (rw (untaken c right_choice q y) refl)
  where
    untaken : (c d : ℕ) (b : Bool) → (c ≡ d → b ≡ true → ⊥) → (eqb c d && b) ≡ false
    untaken c d true h = go (eqb c d) refl
      where
        go : (t : Bool) → eqb c d ≡ t → (t && true) ≡ false
        go true e = absurd (h (eqb-true c d e) refl)
        go false e = refl
    untaken c d false h = and-false (eqb c d)

pub walk_no_side : (n : ℕ) {p : Part} → Choosing p → (es : Scope) (i c : ℕ) (l : List ℕ) → ((q : Part) → Side es p c q → ⊥)
    → part_walk n p es i (c ∷ l) ≡ stops 13 i
unfolding part_walk goal_walk clause_walk
walk_no_side n (choosing_⊕ {G} {H}) es i c l none =
    neither true true _ _ i c l (λ e u. none (goal G) (side_⊕₁ e)) (λ e u. none (goal H) (side_⊕₂ e))
walk_no_side n (choosing_& {a} {D} {E}) es i c l none =
    neither _ _ _ _ i c l (λ e u. none (meet a D) (side_&₁ e u)) (λ e u. none (meet a E) (side_&₂ e u))

pub walk_none : (n a : ℕ) (es : Scope) (i : ℕ) → part_walk n (goal (atomᴳ a)) es i [] ≡ stops 18 i
unfolding part_walk goal_walk name_within name_walk
walk_none zero a es i = refl
walk_none (suc n) a es i = refl

pub walk_unfit : (n a : ℕ) (es : Scope) (i e : ℕ) (l : List ℕ) → usable es.fits a (clause_at es e) ≡ false
    → part_walk n (goal (atomᴳ a)) es i (e ∷ l) ≡ stops 13 i
unfolding part_walk goal_walk name_within name_walk
walk_unfit zero a es i e l u = rw u refl
walk_unfit (suc n) a es i e l u = rw u refl

pub walk_deep : (a : ℕ) (es : Scope) (i e : ℕ) (l : List ℕ) → usable es.fits a (clause_at es e) ≡ true
    → part_walk 0 (goal (atomᴳ a)) es i (e ∷ l) ≡ stops 17 i
unfolding part_walk goal_walk name_within name_walk
walk_deep a es i e l u = rw u refl

pub walk_use : (n a : ℕ) (es : Scope) (i e : ℕ) (l : List ℕ) → usable es.fits a (clause_at es e) ≡ true
    → part_walk (suc n) (goal (atomᴳ a)) es i (e ∷ l) ≡ part_walk n (meet a (clause_at es e)) es (i + 1) l
unfolding part_walk goal_walk name_within name_walk
walk_use n a es i e l u = rw u refl

-- What goes along a list, and what stops

at_step : {i j : ℕ} (t : List ℕ) → i ≡ j → goes i t ≡ goes j t
at_step t e = ap (λ (j : ℕ). goes j t) e

at_stop : {i j : ℕ} (m : ℕ) → i ≡ j → stops m i ≡ stops m j
at_stop m e = ap (λ (j : ℕ). stops m j) e

longer : (i : ℕ) (k m : List ℕ) {l : List ℕ} → l ≡ k ++ m → i + length k + length m ≡ i + length l
longer i k m q = let e = ap length q in let f = length-append k m in omega arith

-- behind a first part that was walked along k, the second is walked
walk_turn : (n : ℕ) (es : Scope) {p x y : Part} (k m : List ℕ) {l : List ℕ} → Both p x y → l ≡ k ++ m → (i : ℕ) (t : List ℕ)
    → part_walk n x es i (k ++ (m ++ t)) ≡ goes (i + length k) (m ++ t)
    → part_walk n p es i (l ++ t) ≡ part_walk n y es (i + length k) (m ++ t)
unfolding ◌⨾◌
walk_turn n es {p} {y} k m b q i t first =
    ap (part_walk n p es i) (ap (◌++ t) q ∙ append_assoc k m t)
    ∙ walk_both n b es i (k ++ (m ++ t))
    ∙ ap (λ x. x ⨾ part_walk n y es) first

pub along_walk : {n : ℕ} {es : Scope} {p : Part} {k : List ℕ} → Along n es p k → (i : ℕ) (t : List ℕ)
    → part_walk n p es i (k ++ t) ≡ goes (i + length k) t
along_walk {n} {es} (ends s) i t = walk_still n s es i t ∙ at_step t (omega arith)
along_walk {n} {es} (in_turn {k} {m} b q c d) i t =
    walk_turn n es k m b q i t (along_walk c i (m ++ t)) ∙ along_walk d (i + length k) t ∙ at_step t (longer i k m q)
along_walk {n} {es} (lends {D} {G} {l} c) i t = walk_lent n D G es i (l ++ t) ∙ along_walk c i t
along_walk {n} {es} (chooses {l} o c) i t = walk_side n es o i (l ++ t) ∙ along_walk c (i + 1) t ∙ at_step t (omega arith)
along_walk {es} (uses {n} {a} {e} {l} u c) i t =
    walk_use n a es i e (l ++ t) u ∙ along_walk c (i + 1) t ∙ at_step t (omega arith)

-- one use out, limit and nesting are one more
lower : {d u m : ℕ} {fs : Scope} {q : Part} {t : List ℕ} → Wrong (suc d) fs (suc u) q m t → Wrong d fs u q m t
lower (no_such_entry h) = no_such_entry h
lower (no_side c h) = no_side c h
lower (too_deep h g) = too_deep h (omega arith)
lower missing = missing

-- what is wrong at a step that is wanted at once
wrong_here : (n : ℕ) (es : Scope) {p : Part} {m : ℕ} {t : List ℕ} → Asks p → Wrong n es 1 p m t → (i : ℕ)
    → part_walk n p es i t ≡ stops m i
wrong_here n es asks_name (no_such_entry {a} {e} {l} h) i = walk_unfit n a es i e l h
wrong_here zero es asks_name (too_deep {a} {e} {l} h g) i = walk_deep a es i e l h
wrong_here (suc n) es asks_name (too_deep h g) i = absurd (omega arith)
wrong_here n es (asks_name {a}) missing i = walk_none n a es i
wrong_here n es (asks_choice c) (no_side {c = e} {l = l} d none) i = walk_no_side n c es i e l none
wrong_here n es (asks_choice c) missing i = walk_no_choice n c es i
wrong_here n es (asks_name {a = a}) (no_side {c = e} {l = l} d none) i = elim d [ ]
wrong_here n es (asks_choice c) (no_such_entry {a = a} {e = e} {l = l} h) i = elim c [ ]
wrong_here n es (asks_choice c) (too_deep {a = a} {e = e} {l = l} h g) i = elim c [ ]

wants_walk : {n u m : ℕ} {es fs : Scope} {p q : Part} {k t : List ℕ} → Wants n es p k u fs q → Wrong n fs u q m t → (i : ℕ)
    → part_walk n p es i (k ++ t) ≡ stops m (i + length k)
unfolding ◌⨾◌
wants_walk {n} {m} {t} (here {es} a) w i = wrong_here n es a w i ∙ at_stop m (omega arith)
wants_walk {n} {es} {k} {t} (in_first {y} b c) w i = walk_both n b es i (k ++ t) ∙ ap (λ x. x ⨾ part_walk n y es) (wants_walk c w i)
wants_walk {n} {m = h} {es} {t} (in_second {k} {m} b q c d) w i =
    walk_turn n es k m b q i t (along_walk c i (m ++ t)) ∙ wants_walk d w (i + length k) ∙ at_stop h (longer i k m q)
wants_walk {n} {es} {k} {t} (in_lent {D} {G} c) w i = walk_lent n D G es i (k ++ t) ∙ wants_walk c w i
wants_walk {n} {m} {es} {t} (in_side {l} o c) w i = walk_side n es o i (l ++ t) ∙ wants_walk c w (i + 1) ∙ at_stop m (omega arith)
wants_walk {m} {es} {t} (in_use {n} {a} {e} {l} u c) w i =
    walk_use n a es i e (l ++ t) u ∙ wants_walk c (lower w) (i + 1) ∙ at_stop m (omega arith)

-- What a walk tells

data Told (n : ℕ) (es : Scope) (p : Part) (i : ℕ) (l : List ℕ) : Walk → Type 0 where
  went : {j : ℕ} {k t : List ℕ} → Along n es p k → k ++ t ≡ l → i + length k ≡ j → Told n es p i l (goes j t)
  halted : {j m u : ℕ} {fs : Scope} {q : Part} {k t : List ℕ} → Wants n es p k u fs q → Wrong n fs u q m t → k ++ t ≡ l → i + length k ≡ j
      → Told n es p i l (stops m j)

-- what the walk of a part in a scope tells
abbrev Tells : ℕ → Scope → Part → Type 0
Tells n es p = (i : ℕ) (l : List ℕ) → Told n es p i l (part_walk n p es i l)

told_still : (n : ℕ) (es : Scope) {p : Part} → Still p → Tells n es p
told_still n es s i l = rw (walk_still n s es i l) (went {j = i} (ends s) refl (omega arith))

told_both : (n : ℕ) (es : Scope) {p x y : Part} → Both p x y → Tells n es x → Tells n es y → Tells n es p
unfolding ◌⨾◌
told_both n es {p} {x} {y} b first second i l = rw (walk_both n b es i l) (behind (first i l))
  where
    after : {j : ℕ} {k t : List ℕ} {w : Walk} → Along n es x k → k ++ t ≡ l → i + length k ≡ j → Told n es y j t w → Told n es p i l w
    after {k} c q e (went {j = h} {k = m} {t = r} d f g) =
        went {j = h} (in_turn b refl c d) (append_assoc k m r ∙ ap (λ s. k ++ s) f ∙ q) (let o = longer i k m refl in omega arith)
    after {k} c q e (halted {j = h} {k = m} {t = r} d w f g) =
        halted {j = h} (in_second b refl c d) w (append_assoc k m r ∙ ap (λ s. k ++ s) f ∙ q) (let o = longer i k m refl in omega arith)

    behind : {w : Walk} → Told n es x i l w → Told n es p i l (w ⨾ part_walk n y es)
    behind (went {j} {t} c q e) = after c q e (second j t)
    behind (halted c w q e) = halted (in_first b c) w q e

told_lent : (n : ℕ) (es : Scope) (D : Clause) (G : Goal) → Tells n (lend es D) (goal G) → Tells n es (goal (lolliᴳ D G))
told_lent n es D G inner i l = rw (walk_lent n D G es i l) (out (inner i l))
  where
    out : {w : Walk} → Told n (lend es D) (goal G) i l w → Told n es (goal (lolliᴳ D G)) i l w
    out (went c q e) = went (lends c) q e
    out (halted c w q e) = halted (in_lent c) w q e

-- which side a choice takes, if any
side_at_lem : (es : Scope) {p : Part} → Choosing p → (c : ℕ) → ((q : Part) × Side es p c q) ⊎ ((q : Part) → Side es p c q → ⊥)
side_at_lem es (choosing_⊕ {G} {H}) c = go (ℕ_discrete c left_choice) (ℕ_discrete c right_choice)
  where
    go : Dec (c ≡ left_choice) → Dec (c ≡ right_choice)
        → ((q : Part) × Side es (goal (oplus G H)) c q) ⊎ ((q : Part) → Side es (goal (oplus G H)) c q → ⊥)
    go (yes e) r = inl (goal G, side_⊕₁ e)
    go (no n) (yes e) = inl (goal H, side_⊕₂ e)
    go (no n) (no m) = inr (λ q o. none o)
      where
        none : {q : Part} → Side es (goal (oplus G H)) c q → ⊥
        none (side_⊕₁ e) = n e
        none (side_⊕₂ e) = m e
side_at_lem es (choosing_& {a} {D} {E}) c =
    go (usable es.fits a D) (usable es.fits a E) refl refl (ℕ_discrete c left_choice) (ℕ_discrete c right_choice)
  where
    Found : Type 0
    Found = ((q : Part) × Side es (meet a (withᴰ D E)) c q) ⊎ ((q : Part) → Side es (meet a (withᴰ D E)) c q → ⊥)

    -- no side, where each is refused
    none : (c ≡ left_choice → usable es.fits a D ≡ true → ⊥) → (c ≡ right_choice → usable es.fits a E ≡ true → ⊥)
        → {q : Part} → Side es (meet a (withᴰ D E)) c q → ⊥
    none x y (side_&₁ e u) = x e u
    none x y (side_&₂ e u) = y e u

    go : (f s : Bool) → usable es.fits a D ≡ f → usable es.fits a E ≡ s → Dec (c ≡ left_choice) → Dec (c ≡ right_choice) → Found
    go true s u v (yes e) r = inl (meet a D, side_&₁ e u)
    go false s u v (yes e) r = inr (λ q o. none (λ _ w. false≢true (sym u ∙ w)) (λ h _. omega (arith, e, h)) o)
    go f true u v (no n) (yes e) = inl (meet a E, side_&₂ e v)
    go f false u v (no n) (yes e) = inr (λ q o. none (λ h _. n h) (λ _ w. false≢true (sym v ∙ w)) o)
    go f s u v (no n) (no m) = inr (λ q o. none (λ h _. n h) (λ h _. m h) o)

-- a choice, by what is left of the list; where a side is taken, what is told of it
told_choice : (n : ℕ) (es : Scope) {p : Part} → Choosing p → ((q : Part) (c : ℕ) → Side es p c q → Tells n es q) → Tells n es p
told_choice n es {p} c sides i [] = rw (walk_no_choice n c es i) (halted {j = i} (here (asks_choice c)) missing refl (omega arith))
told_choice n es {p} c sides i (e ∷ l) = by (side_at_lem es c e)
  where
    out : {q : Part} {w : Walk} → Side es p e q → Told n es q (i + 1) l w → Told n es p i (e ∷ l) w
    out o (went {j} c q f) = went {j = j} (chooses o c) (ap (λ s. e ∷ s) q) (omega arith)
    out o (halted {j} c w q f) = halted {j = j} (in_side o c) w (ap (λ s. e ∷ s) q) (omega arith)

    by : ((q : Part) × Side es p e q) ⊎ ((q : Part) → Side es p e q → ⊥) → Told n es p i (e ∷ l) (part_walk n p es i (e ∷ l))
    by (inl (q, o)) = rw (walk_side n es o i l) (out o (sides q e o (i + 1) l))
    by (inr none) = rw (walk_no_side n c es i e l none) (halted {j = i} (here (asks_choice c)) (no_side c none) refl (omega arith))

told_⊕ : (n : ℕ) (es : Scope) {G H : Goal} → Tells n es (goal G) → Tells n es (goal H) → Tells n es (goal (oplus G H))
told_⊕ n es {G} {H} x y = told_choice n es choosing_⊕ (λ q c o. at o)
  where
    at : {q : Part} {c : ℕ} → Side es (goal (oplus G H)) c q → Tells n es q
    at (side_⊕₁ e) = x
    at (side_⊕₂ e) = y

told_menu : (n a : ℕ) (es : Scope) {D E : Clause} → (usable es.fits a D ≡ true → Tells n es (meet a D))
    → (usable es.fits a E ≡ true → Tells n es (meet a E)) → Tells n es (meet a (withᴰ D E))
told_menu n a es {D} {E} x y = told_choice n es choosing_& (λ q c o. at o)
  where
    at : {q : Part} {c : ℕ} → Side es (meet a (withᴰ D E)) c q → Tells n es q
    at (side_&₁ e u) = x u
    at (side_&₂ e u) = y u

module _ (n : ℕ) (names : (a : ℕ) (es : Scope) → Tells n es (goal (atomᴳ a))) where
  told_goal : (G : Goal) (es : Scope) → Tells n es (goal G)
  told_goal (atomᴳ a) es = names a es
  told_goal topᴳ es = told_still n es still_⊤
  told_goal oneᴳ es = told_still n es still_1
  told_goal zeroᴳ es = told_still n es still_0
  told_goal (tensor G H) es = told_both n es parts_⊗ (told_goal G es) (told_goal H es)
  told_goal (with G H) es = told_both n es parts_& (told_goal G es) (told_goal H es)
  told_goal (oplus G H) es = told_⊕ n es (told_goal G es) (told_goal H es)
  told_goal (lolliᴳ D G) es = told_lent n es D G (told_goal G (lend es D))

  told_clause : (D : Clause) (a : ℕ) (es : Scope) → usable es.fits a D ≡ true → Tells n es (meet a D)
  unfolding usable
  told_clause (atomᴰ b) a es u = told_still n es still_head
  told_clause topᴰ a es u = absurd (false≢true u)
  told_clause (lolliᴰ G D) a es u = told_both n es parts_⊸ (told_clause D a es u) (told_goal G es)
  told_clause (withᴰ D E) a es u = told_menu n a es (λ h. told_clause D a es h) (λ h. told_clause E a es h)

-- an entry that can be used, with nesting left
told_use : (n a : ℕ) (es : Scope) (i e : ℕ) (l : List ℕ) → usable es.fits a (clause_at es e) ≡ true → Tells n es (meet a (clause_at es e))
    → Told (suc n) es (goal (atomᴳ a)) i (e ∷ l) (part_walk (suc n) (goal (atomᴳ a)) es i (e ∷ l))
told_use n a es i e l u inner = rw (walk_use n a es i e l u) (out (inner (i + 1) l))
  where
    raise : {d u m : ℕ} {fs : Scope} {q : Part} {t : List ℕ} → Wrong d fs u q m t → Wrong (suc d) fs (suc u) q m t
    raise (no_such_entry h) = no_such_entry h
    raise (no_side c h) = no_side c h
    raise (too_deep h g) = too_deep h (omega arith)
    raise missing = missing

    out : {w : Walk} → Told n es (meet a (clause_at es e)) (i + 1) l w → Told (suc n) es (goal (atomᴳ a)) i (e ∷ l) w
    out (went {j} c q f) = went {j = j} (uses u c) (ap (λ s. e ∷ s) q) (omega arith)
    out (halted {j} c w q f) = halted {j = j} (in_use u c) (raise w) (ap (λ s. e ∷ s) q) (omega arith)

-- a name, by what is left of the list; where its entry can be used, what is told of the use
told_at : (n a : ℕ) (es : Scope)
    → ((i e : ℕ) (l : List ℕ) → usable es.fits a (clause_at es e) ≡ true
    → Told n es (goal (atomᴳ a)) i (e ∷ l) (part_walk n (goal (atomᴳ a)) es i (e ∷ l)))
    → Tells n es (goal (atomᴳ a))
told_at n a es used i [] = rw (walk_none n a es i) (halted {j = i} (here asks_name) missing refl (omega arith))
told_at n a es used i (e ∷ l) = by (usable es.fits a (clause_at es e)) refl
  where
    by : (g : Bool) → usable es.fits a (clause_at es e) ≡ g
        → Told n es (goal (atomᴳ a)) i (e ∷ l) (part_walk n (goal (atomᴳ a)) es i (e ∷ l))
    by false u = rw (walk_unfit n a es i e l u) (halted {j = i} (here asks_name) (no_such_entry u) refl (omega arith))
    by true u = used i e l u

told_name : (n a : ℕ) (es : Scope) → Tells n es (goal (atomᴳ a))
told_name zero a es =
    told_at zero a es (λ i e l u. rw (walk_deep a es i e l u) (halted {j = i} (here asks_name) (too_deep u (omega arith)) refl (omega arith)))
told_name (suc n) a es =
    told_at (suc n) a es (λ i e l u. told_use n a es i e l u (told_clause n (told_name n) (clause_at es e) a es u))

told : (n : ℕ) (es : Scope) (G : Goal) → Tells n es (goal G)
told n es G = told_goal n (told_name n) G es

-- What a job's walk says

module _ (j : Job) where
  abbrev Walked : List ℕ → Type 0
  Walked = Along j.depth j.scope (goal j.goal)

  abbrev ToldOf : List ℕ → Walk → Type 0
  ToldOf l w = Told j.depth j.scope (goal j.goal) 0 l w

  pub job_walk_lem : (l : List ℕ) → job_walk j l ≡ part_walk j.depth (goal j.goal) j.scope 0 l
  unfolding job_walk part_walk
  job_walk_lem l = refl

  job_told : (l : List ℕ) → ToldOf l (job_walk j l)
  job_told l = rw (job_walk_lem l) (told j.depth j.scope j.goal 0 l)

  -- THEOREM. The walk goes on at step i exactly where the steps before it are a walk to its end.
  pub goes_along : (l : List ℕ) (i : ℕ) (t : List ℕ) → (job_walk j l ≡ goes i t) ↔ ((k : List ℕ) × Walked k × (k ++ t ≡ l) × (length k ≡ i))
  goes_along l i t = (λ e. to (job_told l) e, λ h. from h)
    where
      to : {w : Walk} → ToldOf l w → w ≡ goes i t → (k : List ℕ) × Walked k × (k ++ t ≡ l) × (length k ≡ i)
      to (went {j = h} {k} {t = s} c q f) e =
          let x : h ≡ i = cc in
          let y : s ≡ t = cc in
          (k, c, ap (λ s. k ++ s) (sym y) ∙ q, omega arith)
      to (halted c w q f) e = let z : ◌≡◌ {A = ℕ} 0 1 = cc in absurd (omega arith)

      from : ((k : List ℕ) × Walked k × (k ++ t ≡ l) × (length k ≡ i)) → job_walk j l ≡ goes i t
      from (k, c, q, e) = ap (job_walk j) (sym q) ∙ job_walk_lem (k ++ t) ∙ along_walk c 0 t ∙ at_step t (omega arith)

  -- THEOREM. It stops with the number m at step i exactly where the steps before i are the beginning of a walk and step i is the first
  -- that is wrong, in the way that m tells.
  pub stops_first : (l : List ℕ) (m i : ℕ) → (job_walk j l ≡ stops m i) ↔ FirstWrong j.depth j.scope (goal j.goal) l m i
  stops_first l m i = (λ e. to (job_told l) e, λ h. from h)
    where
      to : {w : Walk} → ToldOf l w → w ≡ stops m i → FirstWrong j.depth j.scope (goal j.goal) l m i
      to (went c q f) e = let z : ◌≡◌ {A = ℕ} 0 1 = cc in absurd (omega arith)
      to (halted {j = h} {m = g} {u} {fs} {q = o} {k} {t} c w q f) e =
          let x : h ≡ i = cc in
          let y : g ≡ m = cc in
          record {
            before = k;
            after = t;
            whole = q;
            index = omega arith;
            nested = u;
            scope = fs;
            part = o;
            begun = c;
            wrong = subst (λ n. Wrong j.depth fs u o n t) y w;
          }

      from : FirstWrong j.depth j.scope (goal j.goal) l m i → job_walk j l ≡ stops m i
      from f =
          ap (job_walk j) (sym f.whole)
          ∙ job_walk_lem (f.before ++ f.after)
          ∙ wants_walk f.begun f.wrong 0
          ∙ at_stop m (let e = f.index in omega arith)

-- Walks and traces

still_along : {n : ℕ} {es : Scope} {p : Part} {l : List ℕ} → Still p → l ≡ [] → Along n es p l
still_along s e = rw e (ends s)

use_along : {n a e : ℕ} {es : Scope} {k l : List ℕ} → l ≡ e ∷ k → usable es.fits a (clause_at es e) ≡ true
    → Along n es (meet a (clause_at es e)) k → Along (suc n) es (goal (atomᴳ a)) l
use_along q u c = rw q (uses u c)

-- THEOREM. The list of a trace is a walk.
pub trace_along : {n : ℕ} {es : Scope} {p : Part} {g : Gathered} → Trace n es p g → Along n es p g.list
trace_along (trace_1 e) = still_along still_1 e.no_list
trace_along (trace_⊤ e) = still_along still_⊤ e.no_list
trace_along (trace_0 e) = still_along still_0 e.no_list
trace_along (trace_⊗ s x y) = in_turn parts_⊗ s.lists (trace_along x) (trace_along y)
trace_along (trace_& s x y) = in_turn parts_& s.lists (trace_along x) (trace_along y)
trace_along (trace_⊸ s x) = rw s.lists (lends (trace_along x))
trace_along (trace_side o s x) = rw s.lists (chooses o (trace_along x))
trace_along (trace_rule r s x) = use_along s.lists (fitting x) (trace_along x)
trace_along (trace_item r s x) = use_along s.lists (fitting x) (trace_along x)
trace_along (trace_head f e) = still_along still_head e.no_list
trace_along (trace_recipe s x y) = in_turn parts_⊸ s.lists (trace_along x) (trace_along y)

-- a list told otherwise, with what follows
onward : {g l s : List ℕ} (r : List ℕ) → g ≡ l → g ++ r ≡ s → l ++ r ≡ s
onward r p h = sym (ap (◌++ r) p) ∙ h

-- the trace of p is retraced at nesting n, along a walk whose list begins as its own
abbrev Retraced : ℕ → Scope → Part → Gathered → List ℕ → Type 0
Retraced n es p g l = (r t : List ℕ) → g.list ++ r ≡ l ++ t → (g.list ≡ l) × (r ≡ t) × Trace n es p g

-- of a part that takes no step, of two parts in turn, and of a use
retraced_still : {n : ℕ} {es : Scope} {p : Part} {g : Gathered} → g.list ≡ [] → Trace n es p g → Retraced n es p g []
retraced_still e c r t h = (e, onward r e h, c)

retraced_both : {n : ℕ} {es : Scope} {p q x : Part} {f g v : Gathered} {l k m : List ℕ} → v.list ≡ f.list ++ g.list → l ≡ k ++ m
    → (Trace n es p f → Trace n es q g → Trace n es x v) → Retraced n es p f k → Retraced n es q g m → Retraced n es x v l
retraced_both {f} {g} {k} {m} s e join first second r t h =
    let a = first (g.list ++ r) (m ++ t) (sym (append_assoc f.list g.list r) ∙ begun r t s e h ∙ append_assoc k m t) in
    let b = second r t a.1 in
    (s ∙ ap₂ ◌++◌ a.0 b.0 ∙ sym e, b.1, join a.2 b.2)

retraced_use : {n a e f : ℕ} {es : Scope} {g v : Gathered} {l : List ℕ} → v.list ≡ e ∷ g.list
    → (Trace n es (meet a (clause_at es e)) g → Trace (suc n) es (goal (atomᴳ a)) v)
    → (Along n es (meet a (clause_at es e)) l → Retraced n es (meet a (clause_at es e)) g l) → Along n es (meet a (clause_at es f)) l
    → Retraced (suc n) es (goal (atomᴳ a)) v (f ∷ l)
retraced_use {n} {a} {es} {l} s use-it inner c r t h =
    let g = onward r s h in
    let d = subst (λ e. Along n es (meet a (clause_at es e)) l) (sym (head-eq_of_cons-eq g)) c in
    let b = inner d r t (tail-eq_of_cons-eq g) in
    (s ∙ ap₂ ◌∷◌ (head-eq_of_cons-eq g) b.0, b.1, use-it b.2)

retraced_side : {n c d : ℕ} {es : Scope} {p q t : Part} {g v : Gathered} {l : List ℕ} → Side es p c q → Side es p d t → UsesRule c v g
    → (Along n es q l → Retraced n es q g l) → Along n es t l → Retraced n es p v (d ∷ l)
retraced_side {n} {es} {l} o i s inner a r u h =
    let g = onward r s.lists h in
    let e = head-eq_of_cons-eq g in
    let b = inner (subst (λ q. Along n es q l) (sym (side_same o i e)) a) r u (tail-eq_of_cons-eq g) in
    (s.lists ∙ ap₂ ◌∷◌ e b.0, b.1, trace_side o s b.2)

-- at a choice the walk neither ends nor has two parts
side_still : {es : Scope} {p q : Part} {c : ℕ} → Side es p c q → Still p → ⊥
side_still (side_⊕₁ e) s = elim s [ ]
side_still (side_⊕₂ e) s = elim s [ ]
side_still (side_&₁ e u) s = elim s [ ]
side_still (side_&₂ e u) s = elim s [ ]

side_both : {es : Scope} {p q x y : Part} {c : ℕ} → Side es p c q → Both p x y → ⊥
side_both (side_⊕₁ e) b = elim b [ ]
side_both (side_⊕₂ e) b = elim b [ ]
side_both (side_&₁ e u) b = elim b [ ]
side_both (side_&₂ e u) b = elim b [ ]

-- THEOREM. A trace whose list, whatever follows it, begins a walk's is that walk's list, and keeps to the nesting of the walk.
pub retrace : {n m : ℕ} {es : Scope} {p : Part} {g : Gathered} {l : List ℕ} → Trace m es p g → Along n es p l → Retraced n es p g l
retrace (trace_1 e) (ends s) = retraced_still e.no_list (trace_1 e)
retrace (trace_⊤ e) (ends s) = retraced_still e.no_list (trace_⊤ e)
retrace (trace_0 e) (ends s) = retraced_still e.no_list (trace_0 e)
retrace (trace_head f e) (ends s) = retraced_still e.no_list (trace_head f e)
retrace (trace_⊗ s c d) (in_turn parts_⊗ q a b) = retraced_both s.lists q (trace_⊗ s) (retrace c a) (retrace d b)
retrace (trace_& s c d) (in_turn parts_& q a b) = retraced_both s.lists q (trace_& s) (retrace c a) (retrace d b)
retrace (trace_recipe s c d) (in_turn parts_⊸ q a b) = retraced_both s.lists q (trace_recipe s) (retrace c a) (retrace d b)
retrace (trace_⊸ s c) (lends a) =
    λ r t h. let f = retrace c a r t (onward r s.lists h) in (s.lists ∙ f.0, f.1, trace_⊸ s f.2)
retrace (trace_side o s c) (ends b) = absurd (side_still o b)
retrace (trace_side o s c) (in_turn b q a d) = absurd (side_both o b)
retrace (trace_side o s c) (chooses i a) = retraced_side o i s (λ d. retrace c d) a
retrace (trace_rule q s c) (uses {n = k} u a) = retraced_use s.lists (trace_rule q s) (λ d. retrace {n = k} c d) a
retrace (trace_item q s c) (uses {n = k} u a) = retraced_use s.lists (trace_item q s) (λ d. retrace {n = k} c d) a
retrace {n = n} {l = l} (trace_1 {es = es} {w = w} e) (in_turn {y = y} {k = k} {m = m} x27 q a b) = elim x27 [ ]
retrace {n = n} (trace_1 {es = es} {w = w} e) (chooses {c = c} {l = l} i a) = elim i [ ]
retrace {n = n} {l = l} (trace_⊤ {es = es} {w = w} e) (in_turn {y = y} {k = k} {m = m} x28 q a b) = elim x28 [ ]
retrace {n = n} (trace_⊤ {es = es} {w = w} e) (chooses {c = c} {l = l} i a) = elim i [ ]
retrace {n = n} {l = l} (trace_0 {es = es} {w = w} e) (in_turn {y = y} {k = k} {m = m} x29 q a b) = elim x29 [ ]
retrace {n = n} (trace_0 {es = es} {w = w} e) (chooses {c = c} {l = l} i a) = elim i [ ]
retrace {n = n} (trace_⊗ {es = es} {G = G} {H = H} {w = w} {y = y} s c d) (ends b) = elim b [ ]
retrace {n = n} (trace_⊗ {es = es} {G = G} {H = H} {w = w} {y = y} s c d) (chooses {l = l} i a) = elim i [ ]
retrace {n = n} (trace_& {es = es} {G = G} {H = H} {w = w} {y = y} s c d) (ends b) = elim b [ ]
retrace {n = n} (trace_& {es = es} {G = G} {H = H} {w = w} {y = y} s c d) (chooses {l = l} i a) = elim i [ ]
retrace {n = n} (trace_⊸ {es = es} {D = D} {G = G} {w = w} s c) (ends b) = elim b [ ]
retrace {n = n} {l = l} (trace_⊸ {es = es} {D = D} {G = G} {w = w} s c) (in_turn {y = y} {k = k} {m = m} x34 q a b) = elim x34 [ ]
retrace {n = n} (trace_⊸ {es = es} {D = D} {G = G} {w = w} s c) (chooses {l = l} i a) = elim i [ ]
retrace {n = n} {l = l} (trace_side {es = es} {q = q} {w = w} o s c) (lends {D = D} {G = G} a) = elim o [ ]
retrace (trace_side {es = es} {q = q} {w = w} o s c) (uses {n = n} {e = e} {l = l} u a) = elim o [ ]
retrace {n = n} (trace_rule {es = es} {a = a} {e = e} {w = w} q s c) (ends b) = elim b [ ]
retrace {n = n} {l = l} (trace_rule {es = es} {e = e} {w = w} q s c) (in_turn {y = y} {k = k} {m = m} x36 _ a b) = elim x36 [ ]
retrace {n = n} (trace_rule {es = es} {e = e} {w = w} q s c) (chooses {l = l} i a) = elim i [ ]
retrace {n = n} (trace_item {es = es} {a = a} {e = e} {w = w} q s c) (ends b) = elim b [ ]
retrace {n = n} {l = l} (trace_item {es = es} {e = e} {w = w} q s c) (in_turn {y = y} {k = k} {m = m} x37 _ a b) = elim x37 [ ]
retrace {n = n} (trace_item {es = es} {e = e} {w = w} q s c) (chooses {l = l} i a) = elim i [ ]
retrace {n = n} {l = l} (trace_head {es = es} {w = w} f e) (in_turn {y = y} {k = k} {m = m} x36 q a b) = elim x36 [ ]
retrace {n = n} (trace_head {es = es} {b = b} {w = w} f e) (chooses {c = c} {l = l} i a) = elim i [ ]
retrace {n = n} (trace_recipe {es = es} {a = a} {G = G} {D = D} {w = w} {y = y} s c d) (ends b) = elim b [ ]
retrace {n = n} (trace_recipe {es = es} {G = G} {D = D} {w = w} {y = y} s c d) (chooses {l = l} i a) = elim i [ ]

-- THEOREM. A list is that of a derivation within limits exactly when its walk is right to its end, its items divide, and it keeps to the
-- step limit.
module _ (j : Job) (l : List ℕ) (b : Bounded j.scope (j.strict ∪ j.lax)) where
  listed_walk : Listed j l → job_walk j l ≡ goes (length l) []
  listed_walk x =
      let a = (listed_accounts j l b).0 x in
      (goes_along j l (length l) []).1
      (l, subst (Along j.depth j.scope (goal j.goal)) a.list (trace_along a.trace), append-nil l, refl)

  listed_divides : Listed j l → ItemsDivide j l
  listed_divides x = record { derivation = x.derivation; list = x.list }

  -- the same job with the limits of a derivation
  abbrev roomy : ItemsDivide j l → Job
  roomy d = record {
    scope = j.scope;
    strict = j.strict;
    lax = j.lax;
    goal = j.goal;
    depth = nesting d.derivation.tree;
    length_limit = length l;
  }

  pub divides_accounts : (d : ItemsDivide j l) → Accounts (roomy d) l
  divides_accounts d = (listed_accounts (roomy d) l b).0 (record {
    derivation = record {
      items = d.derivation.items;
      all_strict = d.derivation.all_strict;
      none_else = d.derivation.none_else;
      tree = d.derivation.tree;
    };
    limited = record { nested = omega arith; counted = let e = ap length d.list in omega arith };
    list = d.list;
  })

  walked_listed : job_walk j l ≡ goes (length l) [] → ItemsDivide j l → length l ≤ j.length_limit → Listed j l
  walked_listed e d h = go ((goes_along j l (length l) []).0 e)
    where
      go : (k : List ℕ) × Along j.depth j.scope (goal j.goal) k × (k ++ [] ≡ l) × (length k ≡ length l) → Listed j l
      go (k, c, q, f) =
          let a = divides_accounts d in
          (listed_accounts j l b).1 (record {
            gathered = a.gathered;
            trace = (retrace a.trace c [] [] (append-nil a.gathered.list ∙ a.list ∙ sym q)).2;
            list = a.list;
            alive = a.alive;
            within = a.within;
            all_strict = a.all_strict;
            counted = h;
          })

  pub listed_exactly : length l ≤ j.length_limit → Listed j l ↔ ((job_walk j l ≡ goes (length l) []) × ItemsDivide j l)
  listed_exactly h = (λ x. (listed_walk x, listed_divides x), λ x. walked_listed x.0 x.1 h)
