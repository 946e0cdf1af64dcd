-- Traces: a walk whose items divide gathers a summary, and each summary is gathered by a walk; a list is walked in one way.
use Prim.Native.Nat.{ℕ, ◌≤◌}
use native.Mathlib.Omega.{arith}
use mathlib.Core.Path.{◌≡◌, refl, sym, ap, ◌∙◌, subst}
use mathlib.Core.Logic.{◌↔◌}
use mathlib.Core.Bool.{Bool, true, false, ◌||◌, false≢true}
use mathlib.Core.List.{List, [], ◌∷◌, ◌++◌, append_assoc, head-eq_of_cons-eq, tail-eq_of_cons-eq}
use lib.ListN.{length}
use Rattle.calculus.specs.Formula.{Goal, Clause, oneᴳ, zeroᴳ, tensor, oplus, atomᴰ, topᴰ, lolliᴰ, withᴰ, matched, residual, usable}
use Rattle.calculus.specs.Items.{Items, ◌∪◌, Empty, Splits}
use Rattle.calculus.specs.Derivation.{Scope, clause_at, linear_at, residual_at}
use Rattle.calculus.specs.Job.{Job, Listed}
use Rattle.calculus.specs.Inner.Summary.{Same, Sum, sum_1, sum_⊤, sum_⊗, sum_&, sum_⊕₁, sum_⊕₂, sum_⊸, sum_rule}
use Rattle.calculus.specs.Inner.Summary.{sum_item, Bounded, Agree}
use Rattle.calculus.specs.Inner.Window.{Counts}
use Rattle.calculus.specs.Steps.{left_choice, right_choice}
use Rattle.calculus.specs.Wanted.{Part, goal, meet, Side, side_⊕₁, side_⊕₂, side_&₁, side_&₂}
use Rattle.calculus.specs.Inner.Trace.{Gathered, Says, Apart, Ends, Fails, Tensors, Withs, Lends, UsesRule, UsesItem}
use Rattle.calculus.specs.Inner.Trace.{trace_1, trace_⊤, trace_0, trace_⊗, trace_&, trace_⊸, trace_rule, trace_item, trace_head, trace_recipe}
use Rattle.calculus.specs.Inner.Trace.{Trace, trace_side, Agreed, Accounts}
use Rattle.calculus.proofs.SetLaws.{same_path, split_joins, or_right}
use Rattle.calculus.proofs.WindowExact.{listed}

-- What fits

-- only a clause with a head that fits is walked
abbrev Fitting : Scope → Part → Type 0
Fitting es (goal G) = Unit {0}
Fitting es (meet a D) = usable es.fits a D ≡ true

-- a side that may be taken has a head that fits, and so has the menu
side_fits : {es : Scope} {p q : Part} {c : ℕ} → Side es p c q → Fitting es p
unfolding usable
side_fits (side_⊕₁ e) = tt
side_fits (side_⊕₂ e) = tt
side_fits {es} (side_&₁ {a} {E} e u) = ap (λ (b : Bool). b || usable es.fits a E) u
side_fits {es} (side_&₂ {a} {D} e u) = or_right (usable es.fits a D) _ u

pub fitting : {n : ℕ} {es : Scope} {p : Part} {g : Gathered} → Trace n es p g → Fitting es p
unfolding usable
fitting (trace_1 e) = tt
fitting (trace_⊤ e) = tt
fitting (trace_0 e) = tt
fitting (trace_⊗ s x y) = tt
fitting (trace_& s x y) = tt
fitting (trace_⊸ s x) = tt
fitting (trace_side o s x) = side_fits o
fitting (trace_rule r s x) = tt
fitting (trace_item r s x) = tt
fitting (trace_head f e) = f
fitting (trace_recipe s x y) = fitting x

-- The summary of a walk

-- the goal that is derived at a part: for the conditions of a clause, its residual
abbrev pub goal_at : Scope → Part → Goal
goal_at es (goal G) = G
goal_at es (meet a D) = residual es.fits a D

sum_at : {n : ℕ} {es : Scope} {G : Goal} {l m : List ℕ} {U W : Items} {v x : Bool}
    → l ≡ m → U ≡ W → v ≡ x → Sum n es G m W x → Sum n es G l U v
sum_at p q r s = rw p (rw q (rw r s))

sum_1_at : {n : ℕ} {es : Scope} {w : Gathered} → Ends w false → Sum n es oneᴳ w.list w.used w.slack
sum_1_at e = sum_at e.no_list refl e.slack_is (sum_1 e.unused)

splits : {w x y : Gathered} → Tensors w x y → Apart x.used y.used → Splits w.used x.used y.used
splits s a = record { whole = s.joined.joined; apart = a.apart }

-- what a side that is taken gathers, behind the choice
side_sum : {n : ℕ} {es : Scope} {p q : Part} {c : ℕ} {w x : Gathered} → Side es p c q → UsesRule c w x
    → Sum n es (goal_at es q) x.list x.used x.slack → Sum n es (goal_at es p) w.list w.used w.slack
unfolding residual
side_sum {x} (side_⊕₁ e) s k = sum_at refl (same_path s.same) s.slacks (sum_⊕₁ (s.lists ∙ ap (λ c. c ∷ x.list) e) k)
side_sum {x} (side_⊕₂ e) s k = sum_at refl (same_path s.same) s.slacks (sum_⊕₂ (s.lists ∙ ap (λ c. c ∷ x.list) e) k)
side_sum {x} (side_&₁ e u) s k = sum_at refl (same_path s.same) s.slacks (sum_⊕₁ (s.lists ∙ ap (λ c. c ∷ x.list) e) k)
side_sum {x} (side_&₂ e u) s k = sum_at refl (same_path s.same) s.slacks (sum_⊕₂ (s.lists ∙ ap (λ c. c ∷ x.list) e) k)

part_sum : {n : ℕ} {es : Scope} {p : Part} {w : Gathered} → Trace n es p w → w.alive ≡ true
    → Sum n es (goal_at es p) w.list w.used w.slack
unfolding matched residual residual_at
part_sum (trace_1 e) h = sum_1_at e
part_sum (trace_⊤ e) h = sum_at e.no_list refl e.slack_is (sum_⊤ e.unused)
part_sum (trace_0 e) h = absurd (false≢true (sym e.is_dead ∙ h))
part_sum (trace_⊗ s x y) h =
    let k = s.alives.0 h in sum_⊗ s.lists (splits s k.2) s.slacks (part_sum x k.0) (part_sum y k.1)
part_sum (trace_& s x y) h =
    let k = s.alives.0 h in sum_& s.lists s.joined s.slacks k.2 k.3 (part_sum x k.0) (part_sum y k.1)
part_sum (trace_⊸ s x) h =
    let k = s.alives.0 h in sum_at s.lists refl s.slacks (sum_⊸ s.rest k.1 (part_sum x k.0))
part_sum (trace_side o s x) h = side_sum o s (part_sum x (sym s.alives ∙ h))
part_sum (trace_rule r s x) h = sum_at s.lists (same_path s.same) s.slacks (sum_rule r (part_sum x (sym s.alives ∙ h)))
part_sum (trace_item r s x) h =
    let k = s.alives.0 h in sum_at s.lists refl s.slacks (sum_item r k.1 s.more (part_sum x k.0))
part_sum (trace_head f e) h = rw f (sum_1_at e)
part_sum (trace_recipe s x y) h =
    let k = s.alives.0 h in sum_⊗ s.lists (splits s k.2) s.slacks (part_sum x k.0) (part_sum y k.1)

-- THEOREM. What a walk gathers is a summary, if its items divide.
pub trace_sum : {n : ℕ} {es : Scope} {G : Goal} {w : Gathered}
    → Trace n es (goal G) w → w.alive ≡ true → Sum n es G w.list w.used w.slack
trace_sum t h = part_sum t h

-- The walk of a summary

-- a walk whose items divide
abbrev pub divided : List ℕ → Items → Bool → Gathered
divided l U v = record { list = l; used = U; slack = v; alive = true }

-- `goal_at` as a relation. Of what comes to 0 no more is said: no list walks it.
data Comes (es : Scope) : Part → Goal → Type 0 where
  itself : {G : Goal} → Comes es (goal G) G
  head : {a b : ℕ} → es.fits b a ≡ true → Comes es (meet a (atomᴰ b)) oneᴳ
  never : {p : Part} → Comes es p zeroᴳ
  behind : {a : ℕ} {G H : Goal} {D : Clause} → Comes es (meet a D) G → Comes es (meet a (lolliᴰ H D)) (tensor G H)
  either : {a : ℕ} {G H : Goal} {D E : Clause} → Comes es (meet a D) G → Comes es (meet a E) H → Comes es (meet a (withᴰ D E)) (oplus G H)

comes_head : (es : Scope) (a b : ℕ) (c : Bool) → es.fits b a ≡ c → Comes es (meet a (atomᴰ b)) (matched c)
unfolding matched
comes_head es a b true f = head f
comes_head es a b false f = never

comes : (es : Scope) (a : ℕ) (D : Clause) → Comes es (meet a D) (residual es.fits a D)
unfolding residual
comes es a (atomᴰ b) = comes_head es a b (es.fits b a) refl
comes es a topᴰ = never
comes es a (lolliᴰ G D) = behind (comes es a D)
comes es a (withᴰ D E) = either (comes es a D) (comes es a E)

ends : {U : Items} (v : Bool) → Empty U → Ends (divided [] U v) v
ends v e = record { no_list = refl; unused = e; slack_is = refl; is_alive = refl }

tensors : {l l₁ l₂ : List ℕ} {U U₁ U₂ : Items} {v v₁ v₂ : Bool} → l ≡ l₁ ++ l₂ → Splits U U₁ U₂ → v ≡ (v₁ || v₂)
    → Tensors (divided l U v) (divided l₁ U₁ v₁) (divided l₂ U₂ v₂)
tensors p s e = record {
  lists = p;
  joined = split_joins s;
  slacks = e;
  alives = (λ h. (refl, refl, record { apart = s.apart }), λ h. refl);
}

chooses : {l m : List ℕ} {U : Items} {v : Bool} (c : ℕ) → l ≡ c ∷ m → UsesRule c (divided l U v) (divided m U v)
chooses c q = record { lists = q; same = record { same = λ i. refl }; slacks = refl; alives = refl }

-- a side's walk, behind the choice
left_menu : {n a : ℕ} {es : Scope} {D E : Clause} {l m : List ℕ} {U : Items} {v : Bool} → l ≡ left_choice ∷ m
    → Trace n es (meet a D) (divided m U v) → Trace n es (meet a (withᴰ D E)) (divided l U v)
left_menu q x = trace_side (side_&₁ refl (fitting x)) (chooses left_choice q) x

right_menu : {n a : ℕ} {es : Scope} {D E : Clause} {l m : List ℕ} {U : Items} {v : Bool} → l ≡ right_choice ∷ m
    → Trace n es (meet a E) (divided m U v) → Trace n es (meet a (withᴰ D E)) (divided l U v)
right_menu q x = trace_side (side_&₂ refl (fitting x)) (chooses right_choice q) x

sum_part : {n : ℕ} {es : Scope} {G : Goal} {p : Part} {l : List ℕ} {U : Items} {v : Bool}
    → Sum n es G l U v → Comes es p G → Trace n es p (divided l U v)
unfolding residual_at
sum_part (sum_1 e) itself = trace_1 (ends false e)
sum_part (sum_1 e) (head f) = trace_head f (ends false e)
sum_part (sum_⊤ e) itself = trace_⊤ (ends true e)
sum_part (sum_⊗ q s e x y) itself = trace_⊗ (tensors q s e) (sum_part x itself) (sum_part y itself)
sum_part (sum_⊗ q s e x y) (behind c) = trace_recipe (tensors q s e) (sum_part x c) (sum_part y itself)
sum_part (sum_& q j e c d x y) itself =
    trace_& (record { lists = q; joined = j; slacks = e; alives = (λ h. (refl, refl, c, d), λ h. refl) })
    (sum_part x itself) (sum_part y itself)
sum_part (sum_⊕₁ q x) itself = trace_side (side_⊕₁ refl) (chooses left_choice q) (sum_part x itself)
sum_part (sum_⊕₁ q x) (either c d) = left_menu q (sum_part x c)
sum_part (sum_⊕₂ q x) itself = trace_side (side_⊕₂ refl) (chooses right_choice q) (sum_part x itself)
sum_part (sum_⊕₂ q x) (either c d) = right_menu q (sum_part x d)
sum_part (sum_⊸ s h x) itself =
    trace_⊸ (record { lists = refl; rest = s; slacks = refl; alives = (λ k. (refl, h), λ k. refl) }) (sum_part x itself)
sum_part (sum_rule {es} {a} {e} r x) itself =
    trace_rule r (chooses e refl)
    (sum_part x (comes es a (clause_at es e)))
sum_part (sum_item {es} {a} {e} r h s x) itself =
    trace_item r (record { lists = refl; more = s; slacks = refl; alives = (λ k. (refl, h), λ k. refl) })
    (sum_part x (comes es a (clause_at es e)))

-- THEOREM. Every summary is gathered by a walk.
pub sum_trace : {n : ℕ} {es : Scope} {G : Goal} {l : List ℕ} {U : Items} {v : Bool}
    → Sum n es G l U v → Trace n es (goal G) (divided l U v)
sum_trace s = sum_part s itself

-- A list is walked in one way

-- two Booleans that say whether P holds
says_same : {P : Type 0} (b c : Bool) → Says b P → Says c P → b ≡ c
says_same true true p q = refl
says_same true false p q = absurd (false≢true (q.1 (p.0 refl)))
says_same false true p q = absurd (false≢true (p.1 (q.0 refl)))
says_same false false p q = refl

-- walks that agree are the same
agreed_path : {w x : Gathered} {r t : List ℕ} → Agreed w x r t → w ≡ x
agreed_path a = λ i. record { list = a.lists i; used = same_path a.items i; slack = a.slacks i; alive = a.alives i }

-- walks whose list, items and slack are known agree
known : {w x : Gathered} {l r t : List ℕ} {U : Items} {v : Bool}
    → w.list ≡ l → x.list ≡ l → ((i : ℕ) → w.used i ≡ U i) → ((i : ℕ) → x.used i ≡ U i)
    → w.slack ≡ v → x.slack ≡ v → w.alive ≡ x.alive → r ≡ t → Agreed w x r t
known p p' j j' e e' a q =
    record { lists = p ∙ sym p'; rests = q; items = record { same = λ i. j i ∙ sym (j' i) }; slacks = e ∙ sym e'; alives = a }

-- what two lists that begin one list are equal to begins one list too
pub begun : {k k' l l' : List ℕ} (r t : List ℕ) → k ≡ l → k' ≡ l' → k ++ r ≡ k' ++ t → l ++ r ≡ l' ++ t
begun r t p q h = sym (ap (◌++ r) p) ∙ h ∙ ap (◌++ t) q

-- two walks agree, whatever follows their lists
abbrev Alike : Gathered → Gathered → Type 0
Alike w x = (r t : List ℕ) → w.list ++ r ≡ x.list ++ t → Agreed w x r t

agree_ends : {w x : Gathered} {v : Bool} → Ends w v → Ends x v → Alike w x
agree_ends e f r t h = known e.no_list f.no_list e.unused.vacant f.unused.vacant e.slack_is f.slack_is
    (e.is_alive ∙ sym f.is_alive) (begun r t e.no_list f.no_list h)

agree_fails : {w x : Gathered} → Fails w → Fails x → Alike w x
agree_fails e f r t h = known e.no_list f.no_list e.unused.vacant f.unused.vacant e.slack_is f.slack_is
    (e.is_dead ∙ sym f.is_dead) (begun r t e.no_list f.no_list h)

-- two parts are walked one after the other
both : {x x' y y' : Gathered} {k k' : List ℕ} → k ≡ x.list ++ y.list → k' ≡ x'.list ++ y'.list → Alike x x' → Alike y y'
    → (r t : List ℕ) → k ++ r ≡ k' ++ t → (x ≡ x') × (y ≡ y') × (r ≡ t)
both {x} {x'} {y} {y'} p q first second r t h =
    let g = sym (append_assoc x.list y.list r) ∙ begun r t p q h ∙ append_assoc x'.list y'.list t in
    let a = first (y.list ++ r) (y'.list ++ t) g in
    let b = second r t a.rests in
    (agreed_path a, agreed_path b, b.rests)

agree_⊗ : {w w' x x' y y' : Gathered} → Tensors w x y → Tensors w' x' y' → Alike x x' → Alike y y' → Alike w w'
agree_⊗ {w'} {x} {y} s c first second r t h =
    let a = both s.lists c.lists first second r t h in
    let s' : Tensors w' x y = rw a.0 (rw a.1 c) in
    known s.lists s'.lists s.joined.joined s'.joined.joined s.slacks s'.slacks
    (says_same _ _ s.alives s'.alives) a.2

agree_& : {es : Scope} {w w' x x' y y' : Gathered} → Withs es w x y → Withs es w' x' y' → Alike x x' → Alike y y' → Alike w w'
agree_& {es} {w'} {x} {y} s c first second r t h =
    let a = both s.lists c.lists first second r t h in
    let s' : Withs es w' x y = rw a.0 (rw a.1 c) in
    known s.lists s'.lists s.joined.joined s'.joined.joined s.slacks s'.slacks
    (says_same _ _ s.alives s'.alives) a.2

agree_⊸ : {es : Scope} {w w' x x' : Gathered} → Lends es w x → Lends es w' x' → Alike x x' → Alike w w'
agree_⊸ {es} {w'} {x} s c inner r t h =
    let a = inner r t (begun r t s.lists c.lists h) in
    let s' : Lends es w' x = rw (agreed_path a) c in
    known s.lists s'.lists s.rest.without s'.rest.without s.slacks s'.slacks
    (says_same _ _ s.alives s'.alives) a.rests

-- a use is known by its entry, and then its conditions are walked
used : {m a : ℕ} {es : Scope} {x x' : Gathered} {e f : ℕ} {k k' : List ℕ} → k ≡ e ∷ x.list → k' ≡ f ∷ x'.list
    → (Trace m es (meet a (clause_at es e)) x' → Alike x x') → Trace m es (meet a (clause_at es f)) x'
    → (r t : List ℕ) → k ++ r ≡ k' ++ t → (e ≡ f) × (x ≡ x') × (r ≡ t)
used p q rest d r t h =
    let g = begun r t p q h in
    let a = rest (rw (head-eq_of_cons-eq g) d) r t (tail-eq_of_cons-eq g) in
    (head-eq_of_cons-eq g, agreed_path a, a.rests)

agree_rule : {m a : ℕ} {es : Scope} {w w' x x' : Gathered} {e f : ℕ} → UsesRule e w x → UsesRule f w' x'
    → (Trace m es (meet a (clause_at es e)) x' → Alike x x') → Trace m es (meet a (clause_at es f)) x' → Alike w w'
agree_rule {w'} {x} {e} s c rest d r t h =
    let a = used s.lists c.lists rest d r t h in
    let s' : UsesRule e w' x = rw a.0 (rw a.1 c) in
    known s.lists s'.lists s.same.same s'.same.same s.slacks s'.slacks (s.alives ∙ sym s'.alives) a.2

agree_item : {m a : ℕ} {es : Scope} {w w' x x' : Gathered} {e f : ℕ} → UsesItem e w x → UsesItem f w' x'
    → (Trace m es (meet a (clause_at es e)) x' → Alike x x') → Trace m es (meet a (clause_at es f)) x' → Alike w w'
agree_item {w'} {x} {e} s c rest d r t h =
    let a = used s.lists c.lists rest d r t h in
    let s' : UsesItem e w' x = rw a.0 (rw a.1 c) in
    known s.lists s'.lists s.more.plus s'.more.plus s.slacks s'.slacks
    (says_same _ _ s.alives s'.alives) a.2

-- a choice tells the side
pub side_same : {es : Scope} {p q t : Part} {c d : ℕ} → Side es p c q → Side es p d t → c ≡ d → q ≡ t
side_same (side_⊕₁ e) (side_⊕₁ f) h = refl
side_same (side_⊕₁ e) (side_⊕₂ f) h = absurd (omega (arith, e, f, h))
side_same (side_⊕₂ e) (side_⊕₁ f) h = absurd (omega (arith, e, f, h))
side_same (side_⊕₂ e) (side_⊕₂ f) h = refl
side_same (side_&₁ e u) (side_&₁ f v) h = refl
side_same (side_&₁ e u) (side_&₂ f v) h = absurd (omega (arith, e, f, h))
side_same (side_&₂ e u) (side_&₁ f v) h = absurd (omega (arith, e, f, h))
side_same (side_&₂ e u) (side_&₂ f v) h = refl

agree_side : {m : ℕ} {es : Scope} {p q t : Part} {c d : ℕ} {w w' x x' : Gathered} → Side es p c q → Side es p d t → UsesRule c w x
    → UsesRule d w' x' → (Trace m es q x' → Alike x x') → Trace m es t x' → Alike w w'
agree_side {m} {es} {c} {w'} {x} {x'} o i s k rest y r u h =
    let g = begun r u s.lists k.lists h in
    let e = head-eq_of_cons-eq g in
    let a = rest (subst (λ q. Trace m es q x') (sym (side_same o i e)) y) r u (tail-eq_of_cons-eq g) in
    let k' : UsesRule c w' x = rw e (rw (agreed_path a) k) in
    known s.lists k'.lists s.same.same k'.same.same s.slacks k'.slacks (s.alives ∙ sym k'.alives) a.rests

-- an entry is a rule or linear, not both
rule_or_item : (es : Scope) {e f : ℕ} {w w' x x' : Gathered} (r t : List ℕ) → linear_at es e ≡ false → linear_at es f ≡ true
    → UsesRule e w x → UsesItem f w' x' → w.list ++ r ≡ w'.list ++ t → ⊥
rule_or_item es r t p q s c h = false≢true (sym p ∙ ap (linear_at es) (head-eq_of_cons-eq (begun r t s.lists c.lists h)) ∙ q)

alike : {n m : ℕ} {es : Scope} {p : Part} {w x : Gathered} → Trace n es p w → Trace m es p x → Alike w x
alike (trace_1 e) (trace_1 f) = agree_ends e f
alike (trace_⊤ e) (trace_⊤ f) = agree_ends e f
alike (trace_0 e) (trace_0 f) = agree_fails e f
alike (trace_⊗ s x y) (trace_⊗ c x' y') = agree_⊗ s c (alike x x') (alike y y')
alike (trace_& s x y) (trace_& c x' y') = agree_& s c (alike x x') (alike y y')
alike (trace_⊸ s x) (trace_⊸ c x') = agree_⊸ s c (alike x x')
alike (trace_side o s x) (trace_side i k y) = agree_side o i s k (λ d. alike x d) y
alike (trace_rule p s x) (trace_rule q c x') = agree_rule s c (λ d. alike x d) x'
alike (trace_rule {es} p s x) (trace_item q c x') = λ r t h. absurd (rule_or_item es r t p q s c h)
alike (trace_item {es} p s x) (trace_rule q c x') = λ r t h. absurd (rule_or_item es t r q p c s (sym h))
alike (trace_item p s x) (trace_item q c x') = agree_item s c (λ d. alike x d) x'
alike (trace_head f e) (trace_head g e') = agree_ends e e'
alike (trace_recipe s x y) (trace_recipe c x' y') = agree_⊗ s c (alike x x') (alike y y')
alike {m = m} (trace_1 {n = n} {es = es} {w = w} e) (trace_side {c = c} {q = q} i k y) = elim i [ ]
alike {m = m} (trace_⊤ {n = n} {es = es} {w = w} e) (trace_side {c = c} {q = q} i k y) = elim i [ ]
alike {m = m} (trace_0 {n = n} {es = es} {w = w} e) (trace_side {c = c} {q = q} i k y) = elim i [ ]
alike {m = m} (trace_⊗ {n = n} {es = es} {G = G} {H = H} {w = w} s x y) (trace_side {c = c} {q = q} i k _) = elim i [ ]
alike {m = m} (trace_& {n = n} {es = es} {G = G} {H = H} {w = w} s x y) (trace_side {c = c} {q = q} i k _) = elim i [ ]
alike {m = m} (trace_⊸ {n = n} {es = es} {D = D} {G = G} {w = w} s x) (trace_side {c = c} {q = q} i k y) = elim i [ ]
alike {m = m} (trace_side {n = n} {c = c} {es = es} {q = q} {w = w} o s x) (trace_1 f) = elim o [ ]
alike {m = m} (trace_side {n = n} {c = c} {es = es} {q = q} {w = w} o s x) (trace_⊤ f) = elim o [ ]
alike {m = m} (trace_side {n = n} {c = c} {es = es} {q = q} {w = w} o s x) (trace_0 f) = elim o [ ]
alike {m = m} (trace_side {n = n} {es = es} {q = q} {w = w} o s x) (trace_⊗ {G = G} {H = H} {y = y} c x' y') = elim o [ ]
alike {m = m} (trace_side {n = n} {es = es} {q = q} {w = w} o s x) (trace_& {G = G} {H = H} {y = y} c x' y') = elim o [ ]
alike {m = m} (trace_side {n = n} {es = es} {q = q} {w = w} o s x) (trace_⊸ {D = D} {G = G} c x') = elim o [ ]
alike (trace_side {n = n} {es = es} {w = w} o s x) (trace_rule {a = a} {e = e} q c x') = elim o [ ]
alike (trace_side {n = n} {es = es} {w = w} o s x) (trace_item {a = a} {e = e} q c x') = elim o [ ]
alike {m = m} (trace_side {n = n} {c = c} {es = es} {q = q} {w = w} o s x) (trace_head {a = a} {b = b} g e') = elim o [ ]
alike {m = m} (trace_side {n = n} {es = es} {q = q} {w = w} o s x) (trace_recipe {a = a} {G = G} {D = D} {y = y} c x' y') = elim o [ ]
alike {m = m} (trace_rule {n = n} {es = es} {a = a} {e = e} {w = w} p s x) (trace_side {c = c} {q = q} i k y) = elim i [ ]
alike {m = m} (trace_item {n = n} {es = es} {a = a} {e = e} {w = w} p s x) (trace_side {c = c} {q = q} i k y) = elim i [ ]
alike {m = m} (trace_head {n = n} {es = es} {a = a} {b = b} {w = w} f e) (trace_side {c = c} {q = q} i k y) = elim i [ ]
alike {m = m} (trace_recipe {n = n} {es = es} {a = a} {G = G} {D = D} {w = w} s x y) (trace_side {c = c} {q = q} i k _) = elim i [ ]

-- THEOREM. A list is walked in one way: walks of two lists that begin one list agree.
pub trace_unique : {n m : ℕ} {es : Scope} {p : Part} {w x : Gathered} (r t : List ℕ)
    → Trace n es p w → Trace m es p x → w.list ++ r ≡ x.list ++ t → Agreed w x r t
trace_unique r t c d h = alike c d r t h

-- THEOREM. A list is read in one way: summaries of two lists that begin one list are the same.
pub unique : {n k : ℕ} {es : Scope} {G : Goal} {l m : List ℕ} {U W : Items} {v w : Bool} (r t : List ℕ)
    → Sum n es G l U v → Sum k es G m W w → l ++ r ≡ m ++ t → Agree l m r t U W v w
unique r t x y h =
    let a = trace_unique r t (sum_trace x) (sum_trace y) h in
    record { lists = a.lists; rests = a.rests; items = a.items; slacks = a.slacks }

-- a list has one summary, whatever nesting is left
pub same_summary : {n k : ℕ} {es : Scope} {G : Goal} {l : List ℕ} {U W : Items} {v w : Bool}
    → Sum n es G l U v → Sum k es G l W w → Same U W × (v ≡ w)
same_summary x y = let a = unique [] [] x y refl in (a.items, a.slacks)

-- THEOREM. The lists of a job are those whose walk accounts for them.
pub listed_accounts : (j : Job) (l : List ℕ) → Bounded j.scope (j.strict ∪ j.lax) → Listed j l ↔ Accounts j l
listed_accounts j l b = (λ x. to ((listed j l b).0 x), λ a. (listed j l b).1 (from a))
  where
    to : Counts j.depth j.scope j.goal j.strict j.lax l × (length l ≤ j.length_limit) → Accounts j l
    to (c, h) = record {
      gathered = divided l c.used c.slack;
      trace = sum_trace c.sum;
      list = refl;
      alive = refl;
      within = c.within;
      all_strict = c.all_strict;
      counted = h;
    }

    from : Accounts j l → Counts j.depth j.scope j.goal j.strict j.lax l × (length l ≤ j.length_limit)
    from a = (
      record {
        used = a.gathered.used;
        slack = a.gathered.slack;
        sum = sum_at (sym a.list) refl refl (trace_sum a.trace a.alive);
        within = a.within;
        all_strict = a.all_strict;
      },
      a.counted,
    )
