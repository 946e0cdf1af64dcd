-- Surely used goes by the list: what a derivation surely uses is read off its list along the goal, and so is what a walk surely uses.
use Prim.Native.Nat.{ℕ, zero, suc, ◌+◌, ◌≤◌}
use native.Mathlib.Omega.{arith}
use mathlib.Core.Path.{◌≡◌, refl, sym, ap, ap₂, ◌∙◌}
use mathlib.Core.Bool.{Bool, true, false, ◌||◌}
use mathlib.Core.List.{List, [], ◌∷◌, ◌++◌, append_assoc, append-nil}
use lib.Dec.{eqb}
use Rattle.calculus.specs.Formula.{Goal, Clause, atomᴳ, topᴳ, oneᴳ, zeroᴳ, tensor, with, lolliᴳ, atomᴰ, lolliᴰ, matched, residual}
use Rattle.calculus.specs.Items.{Items, ∅, ◌∪◌, ◌∩◌, only}
use Rattle.calculus.specs.Derivation.{Scope, Derives, clause_at, linear_at, residual_at, lend, res_1, res_⊤, res_⊗, res_&, res_⊕₁}
use Rattle.calculus.specs.Derivation.{res_⊕₂, res_⊸, res_atm_int, res_atm_lin}
use Rattle.calculus.specs.Steps.{steps, nesting, surely, stands, left_choice, right_choice}
use Rattle.calculus.specs.Job.{Job, Derivation, Listed, surely_used}
use Rattle.calculus.specs.Wanted.{Part, goal, meet, Side, side_⊕₁, side_⊕₂, side_&₁, side_&₂}
use Rattle.calculus.specs.Inner.Trace.{Ends, Fails, Tensors, Withs, Lends, UsesRule, UsesItem}
use Rattle.calculus.specs.Inner.Trace.{Gathered, Trace, trace_1, trace_⊤, trace_0, trace_⊗, trace_&, trace_⊸, trace_side, trace_rule}
use Rattle.calculus.specs.Inner.Trace.{trace_item, trace_head, trace_recipe}
use Rattle.calculus.specs.Inner.Surely.{Sure, sure, surely_in_turn, taken, used_first, goal_surely, entry_surely, name_surely, surely_of, surely_in, Traced}
use Rattle.calculus.proofs.SetLaws.{and_left, or_right, or_map}
use Rattle.calculus.proofs.StepsBounded.{stands_parts}
use Rattle.calculus.proofs.TraceExact.{goal_at}

-- two parts one after the other, each read off its list
in_turn : (op : Items → Items → Items) (n : ℕ) (es : Scope) (G H : Goal) (k m r : List ℕ) {U W : Items}
    → ((t : List ℕ) → goal_surely (name_surely n) G es (k ++ t) ≡ sure U t) → ((t : List ℕ) → goal_surely (name_surely n) H es (m ++ t) ≡ sure W t)
    → surely_in_turn op (goal_surely (name_surely n) G es ((k ++ m) ++ r)) (goal_surely (name_surely n) H es) ≡ sure (op U W) r
unfolding surely_in_turn
in_turn op n es G H k m r {U} p q =
    ap (λ (l : List ℕ). surely_in_turn op (goal_surely (name_surely n) G es l) (goal_surely (name_surely n) H es)) (append_assoc k m r)
    ∙ ap (λ (x : Sure). surely_in_turn op x (goal_surely (name_surely n) H es)) (p (m ++ r))
    ∙ ap (λ (y : Sure). sure (op U y.used) y.rest) (q r)

-- THEOREM. What a derivation surely uses is read off its list, whatever follows it.
pub surely_along : {n : ℕ} {es : Scope} {I : Items} {G : Goal} (d : Derives es I G) → nesting d ≤ n
    → (r : List ℕ) → goal_surely (name_surely n) G es (steps d ++ r) ≡ sure (surely d) r
unfolding steps nesting surely goal_surely entry_surely name_surely taken used_first
surely_along (res_1 e) h r = refl
surely_along res_⊤ h r = refl
surely_along {n} (res_⊗ {es} {G} {H} s c d) h r =
    in_turn ◌∪◌ n es G H (steps c) (steps d) r (surely_along {n = n} c (omega arith)) (surely_along {n = n} d (omega arith))
surely_along {n} (res_& {es} {G} {H} c d) h r =
    in_turn ◌∩◌ n es G H (steps c) (steps d) r (surely_along {n = n} c (omega arith)) (surely_along {n = n} d (omega arith))
surely_along (res_⊕₁ d) h r = surely_along d h r
surely_along (res_⊕₂ d) h r = surely_along d h r
surely_along (res_⊸ f d) h r = surely_along d h r
surely_along {n = zero} (res_atm_int e q d) h r = absurd (omega arith)
surely_along {n = suc n} (res_atm_int e q d) h r =
    ap₂ (λ (v : Bool) (x : Sure). used_first v e x) q (surely_along {n = n} d (omega arith) r)
surely_along {n = zero} (res_atm_lin e q t d) h r = absurd (omega arith)
surely_along {n = suc n} (res_atm_lin e q t d) h r =
    ap₂ (λ (v : Bool) (x : Sure). used_first v e x) q (surely_along {n = n} d (omega arith) r)

-- the side that a choice takes
side_surely : (n : ℕ) {es : Scope} {p q : Part} {c : ℕ} → Side es p c q → (l : List ℕ)
    → goal_surely (name_surely n) (goal_at es p) es (c ∷ l) ≡ goal_surely (name_surely n) (goal_at es q) es l
unfolding residual goal_surely taken
side_surely n (side_⊕₁ e) l = rw e refl
side_surely n (side_⊕₂ e) l = rw e refl
side_surely n (side_&₁ e u) l = rw e refl
side_surely n (side_&₂ e u) l = rw e refl

-- THEOREM. What a walk surely uses is read off its list in the same way.
pub walk_surely : {n : ℕ} {es : Scope} {p : Part} {w : Gathered} (t : Trace n es p w)
    → (r : List ℕ) → goal_surely (name_surely n) (goal_at es p) es (w.list ++ r) ≡ sure (surely_in t) r
unfolding surely_in residual matched residual_at goal_surely entry_surely name_surely used_first
walk_surely (trace_1 e) r = rw e.no_list refl
walk_surely (trace_⊤ e) r = rw e.no_list refl
walk_surely (trace_0 e) r = rw e.no_list refl
walk_surely (trace_⊗ {n} {es} {G} {H} {x} {y} s c d) r =
    rw s.lists (in_turn ◌∪◌ n es G H x.list y.list r (walk_surely c) (walk_surely d))
walk_surely (trace_& {n} {es} {G} {H} {x} {y} s c d) r =
    rw s.lists (in_turn ◌∩◌ n es G H x.list y.list r (walk_surely c) (walk_surely d))
walk_surely (trace_⊸ s c) r = rw s.lists (walk_surely c r)
walk_surely (trace_side {n} {x} o s c) r = rw s.lists (side_surely n o (x.list ++ r) ∙ walk_surely c r)
walk_surely (trace_rule {e} q s c) r = rw s.lists (ap₂ (λ (v : Bool) (x : Sure). used_first v e x) q (walk_surely c r))
walk_surely (trace_item {e} q s c) r = rw s.lists (ap₂ (λ (v : Bool) (x : Sure). used_first v e x) q (walk_surely c r))
walk_surely (trace_head f e) r = rw (f, e.no_list) refl
walk_surely (trace_recipe {n} {es} {a} {G} {D} {x} {y} s c d) r =
    rw s.lists (in_turn ◌∪◌ n es (residual es.fits a D) G x.list y.list r (walk_surely c) (walk_surely d))

-- THEOREM. Two derivations of a goal in a scope with the same list surely use the same items.
pub surely_by_list : {es : Scope} {I J : Items} {G : Goal} (c : Derives es I G) (d : Derives es J G) → steps c ≡ steps d → surely c ≡ surely d
surely_by_list {es} {G = G} c d e =
    let n = nesting c + nesting d in
    ap (λ (x : Sure). x.used) (
    sym (surely_along {n = n} c (omega arith) [])
    ∙ ap (λ (l : List ℕ). goal_surely (name_surely n) G es (l ++ [])) e
    ∙ surely_along {n = n} d (omega arith) []
    )

-- THEOREM. So do two derivations of a job with the same list, within limits or not; within limits, what its list tells.
pub job_surely : (j : Job) (c d : Derivation j) → steps c.tree ≡ steps d.tree → surely c.tree ≡ surely d.tree
job_surely j c d e = surely_by_list c.tree d.tree e

pub listed_surely : {j : Job} {l : List ℕ} (x y : Listed j l) → surely_used x ≡ surely_used y
listed_surely {j} x y = job_surely j x.derivation y.derivation (x.list ∙ sym y.list)

pub surely_of_lem : {j : Job} {l : List ℕ} (x : Listed j l) → surely_used x ≡ surely_of j l
unfolding surely_of
surely_of_lem {j} {l} x =
    let d = x.derivation.tree in
    ap (λ (y : Sure). y.used) (
    sym (surely_along {n = j.depth} d x.limited.nested [])
    ∙ ap (goal_surely (name_surely j.depth) j.goal j.scope) (append-nil (steps d) ∙ x.list)
    )

-- THEOREM. A walk surely uses what the derivations with its list do.
pub surely_walked : {n : ℕ} {es : Scope} {I U : Items} {G : Goal} {w : Gathered} → Traced n es (goal G) w U → (d : Derives es I G)
    → nesting d ≤ n → steps d ≡ w.list → U ≡ surely d
surely_walked {n} {es} {G = G} t d h e =
    sym t.sure ∙ ap (λ (x : Sure). x.used) (
    sym (walk_surely t.trace [])
    ∙ ap (λ (l : List ℕ). goal_surely (name_surely n) G es (l ++ [])) (sym e)
    ∙ surely_along {n = n} d h []
    )

-- What a walk surely uses, by its rules

pub traced_1 : {n : ℕ} {es : Scope} {w : Gathered} → Ends w false → Traced n es (goal oneᴳ) w ∅
unfolding surely_in
traced_1 e = record { trace = trace_1 e; sure = refl }

pub traced_⊤ : {n : ℕ} {es : Scope} {w : Gathered} → Ends w true → Traced n es (goal topᴳ) w ∅
unfolding surely_in
traced_⊤ e = record { trace = trace_⊤ e; sure = refl }

pub traced_0 : {n : ℕ} {es : Scope} {w : Gathered} → Fails w → Traced n es (goal zeroᴳ) w ∅
unfolding surely_in
traced_0 e = record { trace = trace_0 e; sure = refl }

pub traced_head : {n : ℕ} {es : Scope} {a b : ℕ} {w : Gathered} → es.fits b a ≡ true → Ends w false → Traced n es (meet a (atomᴰ b)) w ∅
unfolding surely_in
traced_head f e = record { trace = trace_head f e; sure = refl }

module _ {n : ℕ} {es : Scope} {x y w : Gathered} {U W : Items} where
  pub traced_⊗ : {G H : Goal} → Tensors w x y → Traced n es (goal G) x U → Traced n es (goal H) y W
      → Traced n es (goal (tensor G H)) w (U ∪ W)
  unfolding surely_in
  traced_⊗ s c d = record { trace = trace_⊗ s c.trace d.trace; sure = ap₂ ◌∪◌ c.sure d.sure }

  pub traced_& : {G H : Goal} → Withs es w x y → Traced n es (goal G) x U → Traced n es (goal H) y W
      → Traced n es (goal (with G H)) w (U ∩ W)
  unfolding surely_in
  traced_& s c d = record { trace = trace_& s c.trace d.trace; sure = ap₂ ◌∩◌ c.sure d.sure }

  pub traced_recipe : {a : ℕ} {G : Goal} {D : Clause} → Tensors w x y → Traced n es (meet a D) x U → Traced n es (goal G) y W
      → Traced n es (meet a (lolliᴰ G D)) w (U ∪ W)
  unfolding surely_in
  traced_recipe s c d = record { trace = trace_recipe s c.trace d.trace; sure = ap₂ ◌∪◌ c.sure d.sure }

module _ {n : ℕ} {es : Scope} {x w : Gathered} {U : Items} where
  pub traced_⊸ : {D : Clause} {G : Goal} → Lends es w x → Traced n (lend es D) (goal G) x U → Traced n es (goal (lolliᴳ D G)) w U
  unfolding surely_in
  traced_⊸ s c = record { trace = trace_⊸ s c.trace; sure = c.sure }

  pub traced_side : {p q : Part} {c : ℕ} → Side es p c q → UsesRule c w x → Traced n es q x U → Traced n es p w U
  unfolding surely_in
  traced_side o s c = record { trace = trace_side o s c.trace; sure = c.sure }

  pub traced_rule : {a e : ℕ} → linear_at es e ≡ false → UsesRule e w x → Traced n es (meet a (clause_at es e)) x U
      → Traced (suc n) es (goal (atomᴳ a)) w U
  unfolding surely_in
  traced_rule q s c = record { trace = trace_rule q s c.trace; sure = c.sure }

  pub traced_item : {a e : ℕ} → linear_at es e ≡ true → UsesItem e w x → Traced n es (meet a (clause_at es e)) x U
      → Traced (suc n) es (goal (atomᴳ a)) w (only e ∪ U)
  unfolding surely_in
  traced_item {e = e} q s c = record { trace = trace_item q s c.trace; sure = ap (λ (W : Items). only e ∪ W) c.sure }

-- THEOREM. What is surely used stands in the list.
pub surely_stands : {es : Scope} {I : Items} {G : Goal} (d : Derives es I G) (i : ℕ) → surely d i ≡ true → stands i (steps d) ≡ true
unfolding steps surely stands ∅ ◌∪◌ ◌∩◌ only
surely_stands (res_1 n) i h = h
surely_stands res_⊤ i h = h
surely_stands (res_⊗ s c d) i h = stands_parts i (steps c) (steps d) ∙ or_map (surely c i) (surely d i) _ _ h (surely_stands c i) (surely_stands d i)
surely_stands (res_& c d) i h =
    stands_parts i (steps c) (steps d) ∙ ap (λ (b : Bool). b || stands i (steps d)) (surely_stands c i (and_left (surely c i) _ h))
surely_stands (res_⊕₁ d) i h = or_right (eqb i left_choice) _ (surely_stands d i h)
surely_stands (res_⊕₂ d) i h = or_right (eqb i right_choice) _ (surely_stands d i h)
surely_stands (res_⊸ f d) i h = surely_stands d i h
surely_stands (res_atm_int e n d) i h = or_right (eqb i e) _ (surely_stands d i h)
surely_stands (res_atm_lin e n t d) i h = or_map (eqb i e) (surely d i) _ _ h (λ q. q) (surely_stands d i)
