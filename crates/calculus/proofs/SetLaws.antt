-- Laws of item sets, each by the truth table of its statement at one item.
use Prim.Native.Nat.{ℕ, zero, suc}
use mathlib.Core.Path.{◌≡◌, refl, sym, ap, ◌∙◌, subst, fun_ext}
use mathlib.Core.Logic.{◌⊎◌, inl, inr, ◌↔◌}
use mathlib.Core.Bool.{Bool, true, false, not, ◌&&◌, ◌||◌, beq, false≢true}
use lib.Dec.{T, eqb, eqb→eq, eqb_refl}
use Rattle.calculus.specs.Formula.{Clause}
use Rattle.calculus.specs.Items.{Items, ∅, ◌∪◌, ◌∩◌, ◌∖◌, only, Empty, Splits, Within}
use Rattle.calculus.specs.Derivation.{Scope, lend}
use Rattle.calculus.specs.Inner.Summary.{Same, Joins, Without, Plus, Meets, spare, Covers}

-- A statement about Booleans: an equation, or that one statement implies another.
infix 20 ◌≐◌
infixr 15 ◌⟹◌
pub data Law : Type 0 where
  ◌≐◌ : Bool → Bool → Law
  ◌⟹◌ : Law → Law → Law

abbrev pub Stated : Law → Type 0
Stated (a ≐ b) = a ≡ b
Stated (p ⟹ q) = Stated p → Stated q

abbrev pub test : Law → Bool
test (a ≐ b) = beq a b
test (p ⟹ q) = not (test p) || test q

-- a statement over n Booleans
abbrev pub Rows : ℕ → Type 0
Rows zero = Law
Rows (suc n) = Bool → Rows n

-- it holds at every row
abbrev pub Every : (n : ℕ) → Rows n → Type 0
Every zero p = Stated p
Every (suc n) f = (b : Bool) → Every n (f b)

-- its truth table
abbrev pub passes : (n : ℕ) → Rows n → Bool
passes zero p = test p
passes (suc n) f = passes n (f true) && passes n (f false)

beq_sound : (a b : Bool) → beq a b ≡ true → a ≡ b
beq_sound true true h = refl
beq_sound true false h = absurd (false≢true h)
beq_sound false true h = absurd (false≢true h)
beq_sound false false h = refl

beq_refl : (a : Bool) → beq a a ≡ true
beq_refl true = refl
beq_refl false = refl

implied : (a b : Bool) → (not a || b) ≡ true → a ≡ true → b ≡ true
implied true b h k = h
implied false b h k = absurd (false≢true k)

implies : (a b : Bool) → (a ≡ true → b ≡ true) → (not a || b) ≡ true
implies true b f = f refl
implies false b f = refl

tested : (p : Law) → (test p ≡ true) ↔ Stated p
tested (a ≐ b) = (beq_sound a b, λ e. subst (λ (c : Bool). beq a c ≡ true) e (beq_refl a))
tested (p ⟹ q) = (
  λ h k. (tested q).0 (implied (test p) (test q) h ((tested p).1 k)),
  λ f. implies (test p) (test q) (λ t. (tested q).1 (f ((tested p).0 t))),
)

pub and_left : (a b : Bool) → (a && b) ≡ true → a ≡ true
and_left true b h = refl
and_left false b h = h

pub and_right : (a b : Bool) → (a && b) ≡ true → b ≡ true
and_right true b h = h
and_right false b h = absurd (false≢true h)

pub table : (n : ℕ) (f : Rows n) → passes n f ≡ true → Every n f
table zero p h = (tested p).0 h
table (suc n) f h = elim [
  | true ↦ table n (f true) (and_left _ (passes n (f false)) h)
  | false ↦ table n (f false) (and_right (passes n (f true)) _ h)
]

-- one membership implies another
infix 18 ◌⊑◌
abbrev pub ◌⊑◌ : Bool → Bool → Law
a ⊑ b = (a ≐ true) ⟹ (b ≐ true)

-- the same items are the same set
pub same_path : {I J : Items} → Same I J → I ≡ J
same_path s = fun_ext s.same

pub within_trans : {I J K : Items} → Within I J → Within J K → Within I K
within_trans h k = record { kept = λ i p. k.kept i (h.kept i p) }

-- what slack takes: anything, or nothing
pub spare_all : (es : Scope) {U I : Items} → Covers (spare es true) U I
unfolding spare
spare_all es = record { cover = λ i h. refl }

pub spare_none : (es : Scope) → Empty (spare es false)
unfolding spare
spare_none es = record { vacant = λ i. refl }

-- slack of either part, and of both
pub spare_joins : (es : Scope) (v w : Bool) {x : Bool} → x ≡ (v || w) → Joins (spare es x) (spare es v) (spare es w)
unfolding spare
spare_joins es v w e = record { joined = λ i. e }

pub spare_meets : (es : Scope) (v w : Bool) {x : Bool} → x ≡ (v && w) → Meets (spare es x) (spare es v) (spare es w)
unfolding spare
spare_meets es v w e = record { met = λ i. e }

-- a lent clause changes nothing of what is spare
pub spare_lend : (es : Scope) (D : Clause) (v : Bool) {U I : Items} → Covers (spare (lend es D) v) U I ↔ Covers (spare es v) U I
unfolding spare
spare_lend es D v = (λ c. c, λ c. c)

-- "there is slack or nothing is left"
pub covers : (es : Scope) {v : Bool} {U I : Items} → ((v ≡ true) ⊎ Within I U) ↔ Covers (spare es v) U I
unfolding spare
covers es {v} {U} {I} = (to v, from v)
  where
    to : (v : Bool) → (v ≡ true) ⊎ Within I U → Covers (λ i. v) U I
    to v (inl s) = record { cover = λ i. table 3 (λ v u i. v ≐ true ⟹ i ⊑ (v || u)) refl v (U i) (I i) s }
    to v (inr w) = record { cover = λ i. table 3 (λ v u i. i ⊑ u ⟹ i ⊑ (v || u)) refl v (U i) (I i) (w.kept i) }

    from : (v : Bool) → Covers (λ i. v) U I → (v ≡ true) ⊎ Within I U
    from true c = inl refl
    from false c = inr (record { kept = c.cover })

-- without slack nothing is left
pub all_used : (es : Scope) (v : Bool) {U I : Items} → v ≡ false → Covers (spare es v) U I → Within I U
unfolding spare
all_used es v {U} {I} h c = record {
  kept = λ i. table 3 (λ v u i. v ≐ false ⟹ i ⊑ (v || u) ⟹ i ⊑ u) refl v (U i) (I i) h (c.cover i);
}

pub within_covers : {R U I : Items} → Within I U → Covers R U I
within_covers {R} {U} {I} w = record {
  cover = λ i. table 3 (λ r u i. i ⊑ u ⟹ i ⊑ (r || u)) refl (R i) (U i) (I i) (w.kept i);
}

-- past a ⊤: what no slack takes, and the rest
pub eased_none : (es : Scope) (S : Items) → S ∖ spare es true ≡ ∅
unfolding spare ◌∖◌ ∅
eased_none es S = same_path (record { same = λ i. table 1 (λ s. (s && not true) ≐ false) refl (S i) })

pub eased_all : (es : Scope) (S L : Items) → (S ∩ spare es true) ∪ L ≡ S ∪ L
unfolding spare ◌∩◌ ◌∪◌
eased_all es S L = same_path (record { same = λ i. table 2 (λ s l. ((s && true) || l) ≐ (s || l)) refl (S i) (L i) })

-- a test that is not passed has failed
pub not_true : (b : Bool) → (b ≡ true → ⊥) → b ≡ false
not_true true f = absurd (f refl)
not_true false f = refl

T_true : (b : Bool) → T b → b ≡ true
T_true true t = refl
T_true false t = absurd t

true_T : (b : Bool) → b ≡ true → T b
true_T b e = subst T (sym e) tt

pub only_self : (e : ℕ) → only e e ≡ true
unfolding only
only_self e = T_true (eqb e e) (eqb_refl e)

pub only_eq : (e i : ℕ) → only e i ≡ true → i ≡ e
unfolding only
only_eq e i h = eqb→eq i e (true_T (eqb i e) h)

-- what holds at e holds wherever the item is e
pub only_at : (I : Items) (e : ℕ) {b : Bool} → I e ≡ b → (i : ℕ) → only e i ≡ true → I i ≡ b
only_at I e p i h = ap I (only_eq e i h) ∙ p

pub empty_∅ : Empty ∅
unfolding ∅
empty_∅ = record { vacant = λ i. refl }

pub empty_within : {I J : Items} → Empty I → Within I J
empty_within {I} {J} n = record { kept = λ i. table 2 (λ i j. i ≐ false ⟹ i ⊑ j) refl (I i) (J i) (n.vacant i) }

-- what is empty is covered, and what an empty set covers without slack is empty
pub empty_covered : {R U I : Items} → Empty I → Covers R U I
empty_covered {R} {U} {I} n = record { cover = λ i. table 3 (λ v u i. i ≐ false ⟹ i ⊑ v || u) refl (R i) (U i) (I i) (n.vacant i) }

pub covered_empty : {R U I : Items} → Empty R → Empty U → Covers R U I → Empty I
covered_empty {R} {U} {I} m n c = record {
  vacant = λ i. table 3 (λ r u i. r ≐ false ⟹ u ≐ false ⟹ i ⊑ r || u ⟹ i ≐ false) refl
      (R i) (U i) (I i) (m.vacant i) (n.vacant i) (c.cover i);
}

-- what covers a set covers each set within it
pub covers_within : {R U I J : Items} → Covers R U I → Within J I → Covers R U J
covers_within c w = record { cover = λ i h. c.cover i (w.kept i h) }

pub join_left : {T U W : Items} → Joins T U W → Within U T
join_left {T} {U} {W} s = record { kept = λ i. table 3 (λ t u w. t ≐ (u || w) ⟹ u ⊑ t) refl (T i) (U i) (W i) (s.joined i) }

pub join_right : {T U W : Items} → Joins T U W → Within W T
join_right {T} {U} {W} s = record { kept = λ i. table 3 (λ t u w. t ≐ (u || w) ⟹ w ⊑ t) refl (T i) (U i) (W i) (s.joined i) }

pub join_within : {T U W I : Items} → Joins T U W → Within U I → Within W I → Within T I
join_within {T} {U} {W} {I} s p q = record {
  kept = λ i. table 4 (λ t u w i. t ≐ (u || w) ⟹ u ⊑ i ⟹ w ⊑ i ⟹ t ⊑ i) refl
      (T i) (U i) (W i) (I i) (s.joined i) (p.kept i) (q.kept i);
}

pub ∪_joins : (U W : Items) → Joins (U ∪ W) U W
unfolding ◌∪◌
∪_joins U W = record { joined = λ i. refl }

-- of two tests one holds, or neither does
pub or_right : (a b : Bool) → b ≡ true → (a || b) ≡ true
or_right true b h = refl
or_right false b h = h

pub or_false : (a b : Bool) → (a || b) ≡ false → (a ≡ false) × (b ≡ false)
or_false true b h = absurd (false≢true (sym h))
or_false false b h = (refl, h)

pub or_cases : (a b : Bool) → (a || b) ≡ true → (a ≡ true) ⊎ (b ≡ true)
or_cases true b h = inl refl
or_cases false b h = inr h

pub or_map : (a b c d : Bool) → (a || b) ≡ true → (a ≡ true → c ≡ true) → (b ≡ true → d ≡ true) → (c || d) ≡ true
or_map true b c d h f g = ap (λ (x : Bool). x || d) (f refl)
or_map false b c d h f g = or_right c d (g h)

pub ∪_cases : (I J : Items) (i : ℕ) → (I ∪ J) i ≡ true → (I i ≡ true) ⊎ (J i ≡ true)
unfolding ◌∪◌
∪_cases I J i = or_cases (I i) (J i)

pub ∖_within : (I J : Items) → Within (I ∖ J) I
unfolding ◌∖◌
∖_within I J = record { kept = λ i. table 2 (λ i j. i && not j ⊑ i) refl (I i) (J i) }

pub only_without : (W : Items) (e : ℕ) → Without (W ∖ only e) W e
unfolding ◌∖◌
only_without W e = record { without = λ i. refl }

pub only_plus : (W : Items) (e : ℕ) → Plus (W ∪ only e) W e
unfolding ◌∪◌
only_plus W e = record { plus = λ i. refl }

pub ∅_∪_within : (I : Items) → Within (∅ ∪ I) I
unfolding ∅ ◌∪◌
∅_∪_within I = record { kept = λ i h. h }

pub ∪_swap : (I J K : Items) → Within (I ∪ J ∪ K) (I ∪ K ∪ J)
unfolding ◌∪◌
∪_swap I J K = record { kept = λ i. table 3 (λ i j k. i || j || k ⊑ i || k || j) refl (I i) (J i) (K i) }

pub ∖_spread : (I J K : Items) → Within ((I ∪ J) ∖ K) (I ∖ K ∪ J ∖ K)
unfolding ◌∪◌ ◌∖◌
∖_spread I J K = record { kept = λ i. table 3 (λ i j k. (i || j) && not k ⊑ (i && not k) || (j && not k)) refl (I i) (J i) (K i) }

pub ∖_gather : (I J K : Items) → Within (I ∖ K ∪ J ∖ K) ((I ∪ J) ∖ K)
unfolding ◌∪◌ ◌∖◌
∖_gather I J K = record { kept = λ i. table 3 (λ i j k. (i && not k) || (j && not k) ⊑ (i || j) && not k) refl (I i) (J i) (K i) }

-- what U covers it covers together with U
pub join_covers : {R T U I : Items} → Joins T I U → Covers R U I → Covers R U T
join_covers {R} {T} {U} {I} s c = record {
  cover = λ i. table 4 (λ v t u i. t ≐ (i || u) ⟹ i ⊑ v || u ⟹ t ⊑ v || u) refl (R i) (T i) (U i) (I i) (s.joined i) (c.cover i);
}

-- Shares (⊗).
pub split_left : {I J K : Items} → Splits I J K → Within J I
split_left {I} {J} {K} s = record { kept = λ i. table 3 (λ i j k. i ≐ (j || k) ⟹ j ⊑ i) refl (I i) (J i) (K i) (s.whole i) }

pub split_right : {I J K : Items} → Splits I J K → Within K I
split_right {I} {J} {K} s = record { kept = λ i. table 3 (λ i j k. i ≐ (j || k) ⟹ k ⊑ i) refl (I i) (J i) (K i) (s.whole i) }

-- sets within two shares are apart, and cover the whole if they cover the shares
pub split_apart : {I J K T U W : Items} → Splits I J K → Within U J → Within W K → Joins T U W → Splits T U W
split_apart {I} {J} {K} {T} {U} {W} s p q j = record {
  whole = j.joined;
  apart = λ i. table 4 (λ j k u w. (j && k) ≐ false ⟹ u ⊑ j ⟹ w ⊑ k ⟹ (u && w) ≐ false) refl (J i) (K i) (U i) (W i)
      (s.apart i) (p.kept i) (q.kept i);
}

pub split_joins : {T U W : Items} → Splits T U W → Joins T U W
split_joins s = record { joined = s.whole }

pub split_covers : {I J K U W X R Q : Items} → Joins X R Q → Splits I J K → Covers R U J → Covers Q W K → Covers X (U ∪ W) I
unfolding ◌∪◌
split_covers {I} {J} {K} {U} {W} {X} {R} {Q} e s p q = record {
  cover = λ i. table 8 (λ i j k u w x a b. x ≐ (a || b) ⟹ i ≐ (j || k) ⟹ j ⊑ a || u ⟹ k ⊑ b || w ⟹ i ⊑ x || (u || w)) refl
      (I i) (J i) (K i) (U i) (W i) (X i) (R i) (Q i) (e.joined i) (s.whole i) (p.cover i) (q.cover i);
}

-- the left share of I: what the left part takes and, of what is spare to it, all that the right does not take
unfoldable pub share : Items → Items → Items → Items → Items
share R U W I i = U i || (R i && (I i && not (W i)))

pub share_splits : {I T U W : Items} (R : Items) → Splits T U W → Within T I → Splits I (share R U W I) (I ∖ share R U W I)
unfolding ◌∖◌ share
share_splits {I} {T} {U} {W} R s p = record {
  whole = λ i. table 5 (λ v i t u w. t ≐ (u || w) ⟹ t ⊑ i
      ⟹ i ≐ ((u || (v && (i && not w))) || (i && not (u || (v && (i && not w)))))) refl (R i) (I i) (T i) (U i) (W i) (s.whole i) (p.kept i);
  apart = λ i. table 2 (λ i x. (x && (i && not x)) ≐ false) refl (I i) (share R U W I i);
}

pub share_left : (R : Items) (U W I : Items) → Within U (share R U W I)
unfolding share
share_left R U W I = record { kept = λ i. table 4 (λ v i u w. u ⊑ u || (v && (i && not w))) refl (R i) (I i) (U i) (W i) }

pub share_right : {I T U W : Items} (R : Items) → Splits T U W → Within T I → Within W (I ∖ share R U W I)
unfolding ◌∖◌ share
share_right {I} {T} {U} {W} R s p = record {
  kept = λ i. table 5 (λ v i t u w. t ≐ (u || w) ⟹ (u && w) ≐ false ⟹ t ⊑ i ⟹ w ⊑ i && not (u || (v && (i && not w)))) refl
      (R i) (I i) (T i) (U i) (W i) (s.whole i) (s.apart i) (p.kept i);
}

pub share_left_covers : (R : Items) (U W I : Items) → Covers R U (share R U W I)
unfolding share
share_left_covers R U W I = record {
  cover = λ i. table 4 (λ v i u w. u || (v && (i && not w)) ⊑ v || u) refl (R i) (I i) (U i) (W i);
}

pub share_right_covers : {I T U W X : Items} (R Q : Items)
    → Joins X R Q → Splits T U W → Covers X T I → Covers Q W (I ∖ share R U W I)
unfolding ◌∖◌ share
share_right_covers {I} {T} {U} {W} {X} R Q e s c = record {
  cover = λ i. table 7 (λ x v y i t u w. x ≐ (v || y) ⟹ t ≐ (u || w) ⟹ i ⊑ x || t ⟹ i && not (u || (v && (i && not w))) ⊑ y || w) refl
      (X i) (R i) (Q i) (I i) (T i) (U i) (W i) (e.joined i) (s.whole i) (c.cover i);
}

-- Two sides (&).
pub both_cover : {X R Q U W I : Items} → Meets X R Q → Covers R U I → Covers Q W I → Covers X (U ∪ W) I
unfolding ◌∪◌
both_cover {X} {R} {Q} {U} {W} {I} e p q = record {
  cover = λ i. table 6 (λ x v w u t i. x ≐ (v && w) ⟹ i ⊑ v || u ⟹ i ⊑ w || t ⟹ i ⊑ x || (u || t)) refl
      (X i) (R i) (Q i) (U i) (W i) (I i) (e.met i) (p.cover i) (q.cover i);
}

-- if a side covers the other, it covers what both cover
pub left_covers : {X R T U W I : Items} (Q : Items) → Meets X R Q → Joins T U W → Covers R U W → Covers X T I → Covers R U I
left_covers {X} {R} {T} {U} {W} {I} Q e s c d = record {
  cover = λ i. table 7 (λ x v y t u w i. x ≐ (v && y) ⟹ t ≐ (u || w) ⟹ w ⊑ v || u ⟹ i ⊑ x || t ⟹ i ⊑ v || u) refl
      (X i) (R i) (Q i) (T i) (U i) (W i) (I i) (e.met i) (s.joined i) (c.cover i) (d.cover i);
}

pub right_covers : {X Q T U W I : Items} (R : Items) → Meets X R Q → Joins T U W → Covers Q W U → Covers X T I → Covers Q W I
right_covers {X} {Q} {T} {U} {W} {I} R e s c d = record {
  cover = λ i. table 7 (λ x v y t u w i. x ≐ (v && y) ⟹ t ≐ (u || w) ⟹ u ⊑ y || w ⟹ i ⊑ x || t ⟹ i ⊑ y || w) refl
      (X i) (R i) (Q i) (T i) (U i) (W i) (I i) (e.met i) (s.joined i) (c.cover i) (d.cover i);
}

-- One item more (⊸): W is taken from I with e lent, U is W without e.
pub lent_within : {U W : Items} {e : ℕ} (I : Items) → Without U W e → Within W (I ∪ only e) → Within U I
unfolding ◌∪◌
lent_within {U} {W} {e} I s p = record {
  kept = λ i. table 4 (λ u w i o. u ≐ (w && not o) ⟹ w ⊑ i || o ⟹ u ⊑ i) refl (U i) (W i) (I i) (only e i) (s.without i) (p.kept i);
}

pub lent_covers : {R U W : Items} {e : ℕ} (I : Items) → Without U W e → I e ≡ false → Covers R W (I ∪ only e) → Covers R U I
unfolding ◌∪◌
lent_covers {R} {U} {W} {e} I s n c = record {
  cover = λ i. table 5 (λ v u w i o. u ≐ (w && not o) ⟹ (o ≐ true ⟹ i ≐ false) ⟹ i || o ⊑ v || w ⟹ i ⊑ v || u) refl
      (R i) (U i) (W i) (I i) (only e i) (s.without i) (only_at I e n i) (c.cover i);
}

pub lent_used : {R W : Items} (I : Items) (e : ℕ) → Covers R W (I ∪ only e) → (R e || W e) ≡ true
unfolding ◌∪◌
lent_used I e c = c.cover e (table 2 (λ i o. o ⊑ i || o) refl (I e) (only e e) (only_self e))

pub relend_within : {U W I : Items} {e : ℕ} → Without U W e → Within U I → Within W (I ∪ only e)
unfolding ◌∪◌
relend_within {U} {W} {I} {e} s p = record {
  kept = λ i. table 4 (λ u w i o. u ≐ (w && not o) ⟹ u ⊑ i ⟹ w ⊑ i || o) refl (U i) (W i) (I i) (only e i) (s.without i) (p.kept i);
}

pub relend_covers : {R U W I : Items} {e : ℕ} → Without U W e → (R e || W e) ≡ true → Covers R U I → Covers R W (I ∪ only e)
unfolding ◌∪◌
relend_covers {R} {U} {W} {I} {e} s h c = record {
  cover = λ i. table 5 (λ v u w i o. u ≐ (w && not o) ⟹ o ⊑ v || w ⟹ i ⊑ v || u ⟹ i || o ⊑ v || w) refl
      (R i) (U i) (W i) (I i) (only e i) (s.without i) (only_at (λ i. R i || W i) e h i) (c.cover i);
}

-- One item less (a use): W is taken from I without e, U is W and e.
pub used_out : {W : Items} (I : Items) (e : ℕ) → Within W (I ∖ only e) → W e ≡ false
unfolding ◌∖◌
used_out {W} I e p = table 3 (λ w i o. o ≐ true ⟹ w ⊑ i && not o ⟹ w ≐ false) refl (W e) (I e) (only e e) (only_self e) (p.kept e)

pub used_within : {U W : Items} {e : ℕ} (I : Items) → Plus U W e → I e ≡ true → Within W (I ∖ only e) → Within U I
unfolding ◌∖◌
used_within {U} {W} {e} I s h p = record {
  kept = λ i. table 4 (λ u w i o. u ≐ (w || o) ⟹ o ⊑ i ⟹ w ⊑ i && not o ⟹ u ⊑ i) refl
      (U i) (W i) (I i) (only e i) (s.plus i) (only_at I e h i) (p.kept i);
}

pub used_covers : {R U W : Items} {e : ℕ} (I : Items) → Plus U W e → Covers R W (I ∖ only e) → Covers R U I
unfolding ◌∖◌
used_covers {R} {U} {W} {e} I s c = record {
  cover = λ i. table 5 (λ v u w i o. u ≐ (w || o) ⟹ i && not o ⊑ v || w ⟹ i ⊑ v || u) refl
      (R i) (U i) (W i) (I i) (only e i) (s.plus i) (c.cover i);
}

pub before_use_at : {U W I : Items} {e : ℕ} → Plus U W e → Within U I → I e ≡ true
before_use_at {U} {W} {I} {e} s p = table 4 (λ u w i o. o ≐ true ⟹ u ≐ (w || o) ⟹ u ⊑ i ⟹ i ≐ true) refl
    (U e) (W e) (I e) (only e e) (only_self e) (s.plus e) (p.kept e)

pub before_use_within : {U W I : Items} {e : ℕ} → Plus U W e → W e ≡ false → Within U I → Within W (I ∖ only e)
unfolding ◌∖◌
before_use_within {U} {W} {I} {e} s n p = record {
  kept = λ i. table 4 (λ u w i o. u ≐ (w || o) ⟹ (o ≐ true ⟹ w ≐ false) ⟹ u ⊑ i ⟹ w ⊑ i && not o) refl
      (U i) (W i) (I i) (only e i) (s.plus i) (only_at W e n i) (p.kept i);
}

pub before_use_covers : {R U W I : Items} {e : ℕ} → Plus U W e → Covers R U I → Covers R W (I ∖ only e)
unfolding ◌∖◌
before_use_covers {R} {U} {W} {I} {e} s c = record {
  cover = λ i. table 5 (λ v u w i o. u ≐ (w || o) ⟹ i ⊑ v || u ⟹ i && not o ⊑ v || w) refl
      (R i) (U i) (W i) (I i) (only e i) (s.plus i) (c.cover i);
}
