-- Readings of agendas: a list is read in one way, and what the task at the head asks of a reading.
use Prim.Native.Nat.{ℕ, zero, suc}
use mathlib.Core.Path.{◌≡◌, refl, sym, ap, ap₂, ◌∙◌}
use mathlib.Core.Logic.{◌↔◌, ◌⊎◌, inl, inr, ⊎_elim}
use mathlib.Core.Bool.{Bool, true, false, ◌&&◌, ◌||◌}
use mathlib.Core.List.{List, [], ◌∷◌, ◌++◌, append-nil, append_assoc}
use Rattle.calculus.specs.Formula.{Goal, Clause, atomᴳ, topᴳ, oneᴳ, zeroᴳ, tensor, oplus, atomᴰ, topᴰ, lolliᴰ, withᴰ, Fits, matched}
use Rattle.calculus.specs.Formula.{residual, usable}
use Rattle.calculus.specs.Items.{Items, ∅, ◌∪◌, only, Empty, Splits}
use Rattle.calculus.specs.Derivation.{Scope, clause_at, linear_at, residual_at}
use Rattle.calculus.specs.Inner.Summary.{Plus, Sum, sum_1, sum_⊤, sum_⊗, sum_⊕₁, sum_⊕₂, sum_rule, sum_item, Agree}
use Rattle.calculus.specs.Steps.{left_choice, right_choice}
use Rattle.calculus.proofs.SetLaws.{◌≐◌, ◌⟹◌, table, same_path, only_self, only_at, empty_∅, only_plus}
use Rattle.calculus.proofs.TraceExact.{unique}
use Rattle.agenda.specs.Inner.Agenda.{Task, task, Agenda, Reads, reads_nil, reads_on, Alike, pushed, core}

-- Laws of slack and of shares.
or_assoc : (a b c : Bool) → ((a || b) || c) ≡ (a || (b || c))
or_assoc = table 3 (λ a b c. ((a || b) || c) ≐ (a || (b || c))) refl

or_false : (a : Bool) → (a || false) ≡ a
or_false = table 1 (λ a. (a || false) ≐ a) refl

split_tail : {T U W U₁ U₂ : Items} → Splits T U W → Splits U U₁ U₂ → Splits (U₂ ∪ W) U₂ W
unfolding ◌∪◌
split_tail {T} {U} {W} {U₁} {U₂} s c = record {
  whole = λ i. refl;
  apart = λ i. table 4 (λ u w a b. u ≐ (a || b) ⟹ (u && w) ≐ false ⟹ (b && w) ≐ false) refl
      (U i) (W i) (U₁ i) (U₂ i) (c.whole i) (s.apart i);
}

split_right : {T U W U₁ U₂ : Items} → Splits T U W → Splits U U₁ U₂ → Splits T U₁ (U₂ ∪ W)
unfolding ◌∪◌
split_right {T} {U} {W} {U₁} {U₂} s c = record {
  whole = λ i. table 5 (λ t u w a b. t ≐ (u || w) ⟹ u ≐ (a || b) ⟹ t ≐ (a || (b || w))) refl
      (T i) (U i) (W i) (U₁ i) (U₂ i) (s.whole i) (c.whole i);
  apart = λ i. table 4 (λ u w a b. u ≐ (a || b) ⟹ (u && w) ≐ false ⟹ (a && b) ≐ false ⟹ (a && (b || w)) ≐ false) refl
      (U i) (W i) (U₁ i) (U₂ i) (c.whole i) (s.apart i) (c.apart i);
}

split_head : {T U W U₁ U₂ : Items} → Splits T U₁ W → Splits W U₂ U → Splits (U₁ ∪ U₂) U₁ U₂
unfolding ◌∪◌
split_head {T} {U} {W} {U₁} {U₂} s c = record {
  whole = λ i. refl;
  apart = λ i. table 4 (λ w a b u. w ≐ (b || u) ⟹ (a && w) ≐ false ⟹ (a && b) ≐ false) refl
      (W i) (U₁ i) (U₂ i) (U i) (c.whole i) (s.apart i);
}

split_left : {T U W U₁ U₂ : Items} → Splits T U₁ W → Splits W U₂ U → Splits T (U₁ ∪ U₂) U
unfolding ◌∪◌
split_left {T} {U} {W} {U₁} {U₂} s c = record {
  whole = λ i. table 5 (λ t w a b u. t ≐ (a || w) ⟹ w ≐ (b || u) ⟹ t ≐ ((a || b) || u)) refl
      (T i) (W i) (U₁ i) (U₂ i) (U i) (s.whole i) (c.whole i);
  apart = λ i. table 4 (λ w a b u. w ≐ (b || u) ⟹ (a && w) ≐ false ⟹ (b && u) ≐ false ⟹ ((a || b) && u) ≐ false) refl
      (W i) (U₁ i) (U₂ i) (U i) (c.whole i) (s.apart i) (c.apart i);
}

empty_left : {T U W : Items} → Splits T U W → Empty U → T ≡ W
empty_left {T} {U} {W} s e = same_path (record {
  same = λ i. table 3 (λ t u w. t ≐ (u || w) ⟹ u ≐ false ⟹ t ≐ w) refl (T i) (U i) (W i) (s.whole i) (e.vacant i);
})

empty_right : {T U W : Items} → Splits T U W → Empty W → T ≡ U
empty_right {T} {U} {W} s e = same_path (record {
  same = λ i. table 3 (λ t u w. t ≐ (u || w) ⟹ w ≐ false ⟹ t ≐ u) refl (T i) (U i) (W i) (s.whole i) (e.vacant i);
})

splits_none : (U : Items) → Splits U ∅ U
unfolding ∅
splits_none U = record { whole = λ i. refl; apart = λ i. refl }

splits_all : (U : Items) → Splits U U ∅
unfolding ∅
splits_all U = record {
  whole = λ i. table 1 (λ u. u ≐ (u || false)) refl (U i);
  apart = λ i. table 1 (λ u. (u && false) ≐ false) refl (U i);
}

-- A reading of an agenda with a task at its head, taken apart.
pub record On (es : Scope) (t : Task) (A : Agenda) (l : List ℕ) (U : Items) (v : Bool) : Type 0 where
  pub left : List ℕ
  pub right : List ℕ
  pub mine : Items
  pub others : Items
  pub slack : Bool
  pub slacks : Bool
  pub list : l ≡ left ++ right
  pub items : Splits U mine others
  pub either : v ≡ (slack || slacks)
  pub sum : Sum t.nest es t.goal left mine slack
  pub rest : Reads es A right others slacks

-- every such reading is so taken apart
pub on : {es : Scope} {t : Task} {A : Agenda} {l : List ℕ} {U : Items} {v : Bool} → Reads es (t ∷ A) l U v → On es t A l U v
on (reads_on {l₁} {l₂} {U₁} {U₂} {v₁} {v₂} p s e x r) = record {
  left = l₁;
  right = l₂;
  mine = U₁;
  others = U₂;
  slack = v₁;
  slacks = v₂;
  list = p;
  items = s;
  either = e;
  sum = x;
  rest = r;
}

-- the empty agenda is read by no steps, from no items, without slack
pub reads_empty : {es : Scope} {l : List ℕ} {U : Items} {v : Bool} → Reads es [] l U v → (l ≡ []) × Empty U × (v ≡ false)
reads_empty (reads_nil e) = (refl, e, refl)

-- a reading of an equal list, from equal items, with equal slack
reads_at : {es : Scope} {A : Agenda} {l m : List ℕ} {U W : Items} {v w : Bool}
    → l ≡ m → U ≡ W → v ≡ w → Reads es A m W w → Reads es A l U v
reads_at p q r s = rw p (rw q (rw r s))

-- the same for a summary
sum_at : {n : ℕ} {es : Scope} {G : Goal} {l m : List ℕ} {U W : Items} {v w : Bool}
    → l ≡ m → U ≡ W → v ≡ w → Sum n es G m W w → Sum n es G l U v
sum_at p q r s = rw p (rw q (rw r s))

-- THEOREM. A list is read in one way: readings of two lists that begin one list agree.
pub reads_unique : {es : Scope} {A : Agenda} {l m : List ℕ} {U W : Items} {v w : Bool} (r t : List ℕ)
    → Reads es A l U v → Reads es A m W w → l ++ r ≡ m ++ t → Agree l m r t U W v w
reads_unique {U} {W} r t (reads_nil e) (reads_nil f) h = record {
  lists = refl;
  rests = h;
  items = record { same = λ i. e.vacant i ∙ sym (f.vacant i) };
  slacks = refl;
}
reads_unique {U} {W} r t (reads_on {l₁} {l₂} {U₁} {U₂} p s e x z) (reads_on {l₁ = m₁} {l₂ = m₂} {U₁ = W₁} {U₂ = W₂} q c f y d) h =
    let g : l₁ ++ (l₂ ++ r) ≡ m₁ ++ (m₂ ++ t) = sym (append_assoc l₁ l₂ r) ∙ sym (ap (λ (k : List ℕ). k ++ r) p) ∙ h
    ∙ ap (λ (k : List ℕ). k ++ t) q ∙ append_assoc m₁ m₂ t in
    let a = unique (l₂ ++ r) (m₂ ++ t) x y g in
    let b = reads_unique r t z d a.rests in
    record {
      lists = p ∙ ap₂ (λ (k j : List ℕ). k ++ j) a.lists b.lists ∙ sym q;
      rests = b.rests;
      items = record {
        same = λ i. s.whole i ∙ ap₂ (λ (b c : Bool). b || c) (a.items.same i) (b.items.same i) ∙ sym (c.whole i);
      };
      slacks = e ∙ ap₂ (λ (b c : Bool). b || c) a.slacks b.slacks ∙ sym f;
    }

-- two readings of one list take the same items, with the same slack
pub reads_same : {es : Scope} {A : Agenda} {l m : List ℕ} {U W : Items} {v w : Bool}
    → Reads es A l U v → Reads es A m W w → l ≡ m → (U ≡ W) × (v ≡ w)
reads_same x y e = let a = reads_unique [] [] x y (ap (λ (k : List ℕ). k ++ []) e) in (same_path a.items, a.slacks)

-- A summary of both, taken apart.
record Both (n : ℕ) (es : Scope) (G H : Goal) (l : List ℕ) (U : Items) (v : Bool) : Type 0 where
  left : List ℕ
  right : List ℕ
  mine : Items
  others : Items
  slack : Bool
  slacks : Bool
  list : l ≡ left ++ right
  items : Splits U mine others
  either : v ≡ (slack || slacks)
  first : Sum n es G left mine slack
  second : Sum n es H right others slacks

both : {n : ℕ} {es : Scope} {G H : Goal} {l : List ℕ} {U : Items} {v : Bool} → Sum n es (tensor G H) l U v → Both n es G H l U v
both (sum_⊗ {l₁} {l₂} {U₁} {U₂} {v₁} {v₂} p s e x y) = record {
  left = l₁;
  right = l₂;
  mine = U₁;
  others = U₂;
  slack = v₁;
  slacks = v₂;
  list = p;
  items = s;
  either = e;
  first = x;
  second = y;
}

-- both, then the rest: the left part, the right part, then the rest
pub reads_⊗ : (es : Scope) (n : ℕ) (G H : Goal) (A : Agenda) → Alike es (task (tensor G H) n ∷ A) (task G n ∷ task H n ∷ A)
reads_⊗ es n G H A = record { alike = λ l U v. (λ r. to (on r), λ r. from (on r)) }
  where
    to : {l : List ℕ} {U : Items} {v : Bool} → On es (task (tensor G H) n) A l U v → Reads es (task G n ∷ task H n ∷ A) l U v
    to o =
        let b = both o.sum in
        reads_on (o.list ∙ ap (λ (k : List ℕ). k ++ o.right) b.list ∙ append_assoc b.left b.right o.right)
        (split_right o.items b.items)
        (o.either ∙ ap (λ (c : Bool). c || o.slacks) b.either ∙ or_assoc b.slack b.slacks o.slacks)
        b.first (reads_on refl (split_tail o.items b.items) refl b.second o.rest)

    from : {l : List ℕ} {U : Items} {v : Bool} → On es (task G n) (task H n ∷ A) l U v → Reads es (task (tensor G H) n ∷ A) l U v
    from o =
        let b = on o.rest in
        reads_on (o.list ∙ ap (λ (k : List ℕ). o.left ++ k) b.list ∙ sym (append_assoc o.left b.left b.right))
        (split_left o.items b.items)
        (o.either ∙ ap (λ (c : Bool). o.slack || c) b.either ∙ sym (or_assoc o.slack b.slack b.slacks))
        (sum_⊗ refl (split_head o.items b.items) refl o.sum b.sum) b.rest

ended_1 : {n : ℕ} {es : Scope} {l : List ℕ} {U : Items} {v : Bool} → Sum n es oneᴳ l U v → (l ≡ []) × Empty U × (v ≡ false)
ended_1 (sum_1 e) = (refl, e, refl)

ended_⊤ : {n : ℕ} {es : Scope} {l : List ℕ} {U : Items} {v : Bool} → Sum n es topᴳ l U v → (l ≡ []) × Empty U × (v ≡ true)
ended_⊤ (sum_⊤ e) = (refl, e, refl)

-- done, then the rest: the rest
pub reads_1 : (es : Scope) (n : ℕ) (A : Agenda) → Alike es (task oneᴳ n ∷ A) A
reads_1 es n A = record {
  alike = λ l U v. (λ r. to (on r), λ r. reads_on refl (splits_none U) refl (sum_1 empty_∅) r);
}
  where
    to : {l : List ℕ} {U : Items} {v : Bool} → On es (task oneᴳ n) A l U v → Reads es A l U v
    to o =
        let e = ended_1 o.sum in
        reads_at (o.list ∙ ap (λ (k : List ℕ). k ++ o.right) e.0) (empty_left o.items e.1)
        (o.either ∙ ap (λ (c : Bool). c || o.slacks) e.2) o.rest

-- rest, then the rest of the agenda: this, with slack
pub reads_⊤ : (es : Scope) (n : ℕ) (A : Agenda) (l : List ℕ) (U : Items) (v : Bool)
    → Reads es (task topᴳ n ∷ A) l U v ↔ ((v ≡ true) × (w : Bool) × Reads es A l U w)
reads_⊤ es n A l U v = (λ r. to (on r), λ x. reads_on refl (splits_none U) x.0 (sum_⊤ empty_∅) x.2)
  where
    to : On es (task topᴳ n) A l U v → (v ≡ true) × (w : Bool) × Reads es A l U w
    to o =
        let e = ended_⊤ o.sum in (
          o.either ∙ ap (λ (c : Bool). c || o.slacks) e.2,
          o.slacks,
          reads_at (o.list ∙ ap (λ (k : List ℕ). k ++ o.right) e.0) (empty_left o.items e.1) refl o.rest,
        )

no_0 : {n : ℕ} {es : Scope} {l : List ℕ} {U : Items} {v : Bool} → Sum n es zeroᴳ l U v → ⊥
no_0 {n = zero} x = elim x [ ]
no_0 {n = suc n} x = elim x [ ]

-- 0 is not read
pub reads_0 : {es : Scope} {n : ℕ} {A : Agenda} {l : List ℕ} {U : Items} {v : Bool} → Reads es (task zeroᴳ n ∷ A) l U v → ⊥
reads_0 r = no_0 (on r).sum

-- a task alone: its summaries
pub reads_alone : (es : Scope) (t : Task) (l : List ℕ) (U : Items) (v : Bool) → Reads es (t ∷ []) l U v ↔ Sum t.nest es t.goal l U v
reads_alone es t l U v =
    (λ r. to (on r), λ x. reads_on (sym (append-nil l)) (splits_all U) (sym (or_false v)) x (reads_nil empty_∅))
  where
    to : On es t [] l U v → Sum t.nest es t.goal l U v
    to o =
        let e = reads_empty o.rest in
        sum_at (o.list ∙ ap (λ (k : List ℕ). o.left ++ k) e.0 ∙ append-nil o.left) (empty_right o.items e.1)
        (o.either ∙ ap (λ (c : Bool). o.slack || c) e.2 ∙ or_false o.slack) o.sum

-- what is left of a clause in use, then the rest: what is left of its core, then its conditions, the one nearest the head first
pub reads_core : (es : Scope) (fits : Fits) (a n : ℕ) (D : Clause) (A : Agenda)
    → Alike es (task (residual fits a D) n ∷ A) (task (residual fits a (core D)) n ∷ pushed n D A)
unfolding residual pushed core
reads_core es fits a n (atomᴰ b) A = record { alike = λ l U v. (λ r. r, λ r. r) }
reads_core es fits a n topᴰ A = record { alike = λ l U v. (λ r. r, λ r. r) }
reads_core es fits a n (lolliᴰ G D) A = record {
  alike = λ l U v.
      let h = (reads_⊗ es n (residual fits a D) G A).alike l U v in
      let k = (reads_core es fits a n D (task G n ∷ A)).alike l U v in
      (λ r. k.0 (h.0 r), λ x. h.1 (k.1 x));
}
reads_core es fits a n (withᴰ D E) A = record { alike = λ l U v. (λ r. r, λ r. r) }

-- a clause and its core can be used for the same names
pub core_usable : (fits : Fits) (a : ℕ) (D : Clause) → usable fits a (core D) ≡ usable fits a D
unfolding usable core
core_usable fits a (atomᴰ b) = refl
core_usable fits a topᴰ = refl
core_usable fits a (lolliᴰ G D) = core_usable fits a D
core_usable fits a (withᴰ D E) = refl

-- a head that fits, then the rest: the rest
pub reads_head : (es : Scope) (fits : Fits) (a b n : ℕ) (A : Agenda) → fits b a ≡ true → Alike es (task (residual fits a (atomᴰ b)) n ∷ A) A
unfolding residual matched
reads_head es fits a b n A h = rw h (reads_1 es n A)

-- A summary of ⊕ begins with a choice; the side taken follows.
side_of : {n : ℕ} {es : Scope} {G H : Goal} {l : List ℕ} {U : Items} {v : Bool} → Sum n es (oplus G H) l U v
    → ((m : List ℕ) × (l ≡ left_choice ∷ m) × Sum n es G m U v) ⊎ ((m : List ℕ) × (l ≡ right_choice ∷ m) × Sum n es H m U v)
side_of (sum_⊕₁ {m} q x) = inl (m, q, x)
side_of (sum_⊕₂ {m} q x) = inr (m, q, x)

-- ⊕, then the rest: a choice, then the side taken and the rest
pub reads_⊕ : (es : Scope) (n : ℕ) (G H : Goal) (A : Agenda) (l : List ℕ) (U : Items) (v : Bool)
    → Reads es (task (oplus G H) n ∷ A) l U v
    ↔ (((m : List ℕ) × (l ≡ left_choice ∷ m) × Reads es (task G n ∷ A) m U v)
    ⊎ ((m : List ℕ) × (l ≡ right_choice ∷ m) × Reads es (task H n ∷ A) m U v))
reads_⊕ es n G H A l U v = (λ r. to (on r), ⊎_elim (λ x. left x.0 x.1 (on x.2)) (λ x. right x.0 x.1 (on x.2)))
  where
    to : On es (task (oplus G H) n) A l U v
        → ((m : List ℕ) × (l ≡ left_choice ∷ m) × Reads es (task G n ∷ A) m U v)
        ⊎ ((m : List ℕ) × (l ≡ right_choice ∷ m) × Reads es (task H n ∷ A) m U v)
    to o = ⊎_elim
        (λ x. inl (x.0 ++ o.right, o.list ∙ ap (λ (k : List ℕ). k ++ o.right) x.1, reads_on refl o.items o.either x.2 o.rest))
        (λ x. inr (x.0 ++ o.right, o.list ∙ ap (λ (k : List ℕ). k ++ o.right) x.1, reads_on refl o.items o.either x.2 o.rest))
        (side_of o.sum)

    left : (m : List ℕ) → l ≡ left_choice ∷ m → On es (task G n) A m U v → Reads es (task (oplus G H) n ∷ A) l U v
    left m q o = reads_on (q ∙ ap (λ (k : List ℕ). left_choice ∷ k) o.list) o.items o.either (sum_⊕₁ refl o.sum) o.rest

    right : (m : List ℕ) → l ≡ right_choice ∷ m → On es (task H n) A m U v → Reads es (task (oplus G H) n ∷ A) l U v
    right m q o = reads_on (q ∙ ap (λ (k : List ℕ). right_choice ∷ k) o.list) o.items o.either (sum_⊕₂ refl o.sum) o.rest

-- only a clause with a head that fits is read
pub reads_usable : (es : Scope) (fits : Fits) (a n : ℕ) (D : Clause) (A : Agenda) (l : List ℕ) (U : Items) (v : Bool)
    → Reads es (task (residual fits a D) n ∷ A) l U v → usable fits a D ≡ true
unfolding residual matched usable
reads_usable es fits a n (atomᴰ b) A l U v r = matched_so (fits b a) r
  where
    matched_so : (c : Bool) → Reads es (task (matched c) n ∷ A) l U v → c ≡ true
    matched_so true r = refl
    matched_so false r = absurd (reads_0 r)
reads_usable es fits a n topᴰ A l U v r = absurd (reads_0 r)
reads_usable es fits a n (lolliᴰ G D) A l U v r =
    reads_usable es fits a n D (task G n ∷ A) l U v (((reads_⊗ es n (residual fits a D) G A).alike l U v).0 r)
reads_usable es fits a n (withᴰ D E) A l U v r = ⊎_elim
    (λ x. ap (λ (c : Bool). c || usable fits a E) (reads_usable es fits a n D A x.0 U v x.2))
    (λ x. or_true_right (usable fits a D) (reads_usable es fits a n E A x.0 U v x.2))
    ((reads_⊕ es n (residual fits a D) (residual fits a E) A l U v).0 r)
  where
    or_true_right : (b : Bool) {c : Bool} → c ≡ true → (b || c) ≡ true
    or_true_right true h = refl
    or_true_right false h = h

-- Takes es e U W: the use of e and then the items W come to U. A rule takes none; a line or lent clause is gone, so W does not hold it.
pub data Takes (es : Scope) (e : ℕ) : Items → Items → Type 0 where
  takes_rule : {U : Items} → linear_at es e ≡ false → Takes es e U U
  takes_item : {U W : Items} → linear_at es e ≡ true → W e ≡ false → Plus U W e → Takes es e U W

-- A reading of a name and then A begins with a use: an entry with a head that fits; then what is left of it and A are read.
pub record Used (es : Scope) (a n : ℕ) (A : Agenda) (l : List ℕ) (U : Items) (v : Bool) : Type 0 where
  pub entry : ℕ
  pub onward : List ℕ
  pub others : Items
  pub list : l ≡ entry ∷ onward
  pub fits : usable es.fits a (clause_at es entry) ≡ true
  pub takes : Takes es entry U others
  pub rest : Reads es (task (residual_at es a entry) n ∷ A) onward others v

-- A summary of a name, taken apart.
record Use (n : ℕ) (es : Scope) (a : ℕ) (l : List ℕ) (U : Items) (v : Bool) : Type 0 where
  entry : ℕ
  onward : List ℕ
  others : Items
  list : l ≡ entry ∷ onward
  takes : Takes es entry U others
  sum : Sum n es (residual_at es a entry) onward others v

use_of : {n : ℕ} {es : Scope} {a : ℕ} {l : List ℕ} {U : Items} {v : Bool} → Sum (suc n) es (atomᴳ a) l U v → Use n es a l U v
use_of (sum_rule {e} {l} {U} r x) = record { entry = e; onward = l; others = U; list = refl; takes = takes_rule r; sum = x }
use_of (sum_item {e} {l} {W} r h p x) = record { entry = e; onward = l; others = W; list = refl; takes = takes_item r h p; sum = x }

-- what is taken besides the use, of the whole and of the name's own share
record Beside (es : Scope) (e : ℕ) (T W O : Items) : Type 0 where
  all : Items
  takes : Takes es e T all
  items : Splits all W O

beside : {es : Scope} {e : ℕ} {T U W O : Items} → Takes es e U W → Splits T U O → Beside es e T W O
unfolding ◌∪◌
beside {T} (takes_rule r) s = record { all = T; takes = takes_rule r; items = s }
beside {e} {T} {O} (takes_item {U} {W} r h p) s = record {
  all = W ∪ O;
  takes = takes_item r
      (table 4 (λ u w c x. x ≐ true ⟹ w ≐ false ⟹ u ≐ (w || x) ⟹ (u && c) ≐ false ⟹ (w || c) ≐ false) refl
      (U e) (W e) (O e) (only e e) (only_self e) h (p.plus e) (s.apart e))
      (record {
        plus = λ i. table 5 (λ t u w c x. t ≐ (u || c) ⟹ u ≐ (w || x) ⟹ t ≐ ((w || c) || x)) refl
            (T i) (U i) (W i) (O i) (only e i) (s.whole i) (p.plus i);
      });
  items = record {
    whole = λ i. refl;
    apart = λ i. table 4 (λ u w c x. u ≐ (w || x) ⟹ (u && c) ≐ false ⟹ (w && c) ≐ false) refl
        (U i) (W i) (O i) (only e i) (p.plus i) (s.apart i);
  };
}

-- a name, what is left of its entry read, then the rest
with_use : {n : ℕ} {es : Scope} {a e : ℕ} {A : Agenda} {m : List ℕ} {U W : Items} {v : Bool}
    → Takes es e U W → On es (task (residual_at es a e) n) A m W v → Reads es (task (atomᴳ a) (suc n) ∷ A) (e ∷ m) U v
unfolding ◌∪◌
with_use {e} (takes_rule r) o = reads_on (ap (λ (k : List ℕ). e ∷ k) o.list) o.items o.either (sum_rule r o.sum) o.rest
with_use {e} (takes_item {U} {W} r h p) o =
    let w : o.mine e ≡ false = table 3 (λ w a b. w ≐ (a || b) ⟹ w ≐ false ⟹ a ≐ false) refl
    (W e) (o.mine e) (o.others e) (o.items.whole e) h in
    let c : o.others e ≡ false = table 3 (λ w a b. w ≐ (a || b) ⟹ w ≐ false ⟹ b ≐ false) refl
    (W e) (o.mine e) (o.others e) (o.items.whole e) h in
    let s : Splits U (o.mine ∪ only e) o.others = record {
      whole = λ i. table 5 (λ u w a b x. u ≐ (w || x) ⟹ w ≐ (a || b) ⟹ u ≐ ((a || x) || b)) refl
          (U i) (W i) (o.mine i) (o.others i) (only e i) (p.plus i) (o.items.whole i);
      apart = λ i. table 3 (λ a b x. (a && b) ≐ false ⟹ (x ≐ true ⟹ b ≐ false) ⟹ ((a || x) && b) ≐ false) refl
          (o.mine i) (o.others i) (only e i) (o.items.apart i) (only_at o.others e c i);
    } in
    reads_on (ap (λ (k : List ℕ). e ∷ k) o.list) s o.either (sum_item r w (only_plus o.mine e) o.sum) o.rest

-- a name, then the rest: an entry with a head that fits, then what is left of it and the rest
pub reads_use : (es : Scope) (a n : ℕ) (A : Agenda) (l : List ℕ) (U : Items) (v : Bool)
    → Reads es (task (atomᴳ a) (suc n) ∷ A) l U v ↔ Used es a n A l U v
unfolding residual_at
reads_use es a n A l U v = (λ r. to (on r), from)
  where
    to : On es (task (atomᴳ a) (suc n)) A l U v → Used es a n A l U v
    to o =
        let u = use_of o.sum in
        let b = beside u.takes o.items in
        let r : Reads es (task (residual_at es a u.entry) n ∷ A) (u.onward ++ o.right) b.all v =
        reads_on refl b.items o.either u.sum o.rest in
        record {
          entry = u.entry;
          onward = u.onward ++ o.right;
          others = b.all;
          list = o.list ∙ ap (λ (k : List ℕ). k ++ o.right) u.list;
          fits = reads_usable es es.fits a n (clause_at es u.entry) A (u.onward ++ o.right) b.all v r;
          takes = b.takes;
          rest = r;
        }

    from : Used es a n A l U v → Reads es (task (atomᴳ a) (suc n) ∷ A) l U v
    from u = reads_at u.list refl refl (with_use u.takes (on u.rest))

no_nesting : {es : Scope} {a : ℕ} {l : List ℕ} {U : Items} {v : Bool} → Sum zero es (atomᴳ a) l U v → ⊥
no_nesting x = elim x [ ]

-- a name without nesting is not read
pub reads_unnested : {es : Scope} {a : ℕ} {A : Agenda} {l : List ℕ} {U : Items} {v : Bool} → Reads es (task (atomᴳ a) zero ∷ A) l U v → ⊥
reads_unnested r = no_nesting (on r).sum
