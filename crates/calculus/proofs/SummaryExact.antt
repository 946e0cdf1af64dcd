-- Summaries: a list that walks a goal takes exactly the items U, and slack says that some ⊤ can take more. The items from which the list
-- derives the goal are then U alone or, with slack, any that hold U.
use Prim.Native.Nat.{ℕ, zero, suc, ◌+◌, ◌≤◌, ◌<◌}
use native.Mathlib.Omega.{arith}
use mathlib.Core.Path.{◌≡◌, refl, sym, ap, ◌∙◌, subst}
use mathlib.Core.Logic.{◌⊎◌, ⊎_elim, ◌↔◌}
use mathlib.Core.Bool.{Bool, true, false}
use mathlib.Core.List.{List, ◌∷◌, ◌++◌}
use lib.ListN.{length-append}
use Rattle.calculus.specs.Formula.{Goal, Clause, atomᴳ, tensor, with, oplus, lolliᴳ}
use Rattle.calculus.specs.Items.{Items, ◌∪◌, ◌∖◌, only, Splits, Within}
use Rattle.calculus.specs.Derivation.{Scope, Derives, size, linear_at, residual_at, extend, lend, res_1, res_⊤, res_⊗, res_&, res_⊸}
use Rattle.calculus.specs.Derivation.{res_⊕₁, res_⊕₂, res_atm_int, res_atm_lin}
use Rattle.calculus.specs.Steps.{steps, nesting, left_choice, right_choice}
use Rattle.calculus.specs.Inner.Summary.{Joins, Without, Plus, spare, Covers, Sum, sum_1, sum_⊤, sum_⊗, sum_&, sum_⊕₁, sum_⊕₂}
use Rattle.calculus.specs.Inner.Summary.{sum_⊸, sum_rule, sum_item, Bounded, ByList, Summed}
use Rattle.calculus.proofs.SetLaws.{spare_all, spare_none, spare_joins, spare_meets, spare_lend, covers, not_true, only_eq, empty_∅, empty_within}
use Rattle.calculus.proofs.SetLaws.{empty_covered, covered_empty, covers_within, within_trans, ∪_joins, join_left}
use Rattle.calculus.proofs.SetLaws.{join_right, join_within, ∖_within, only_without, only_plus, split_left, split_right, split_apart}
use Rattle.calculus.proofs.SetLaws.{split_joins, split_covers, share_splits, share_left, share_right, share_left_covers}
use Rattle.calculus.proofs.SetLaws.{share_right_covers, both_cover, left_covers, right_covers, lent_within, lent_covers, lent_used}
use Rattle.calculus.proofs.SetLaws.{relend_within, relend_covers, used_out, used_within, used_covers, before_use_at}
use Rattle.calculus.proofs.SetLaws.{before_use_within, before_use_covers, ∪_cases}

pub covered : {n : ℕ} {es : Scope} {I : Items} {G : Goal} {l : List ℕ} (s : Summed n es I G l) → Covers (spare es s.slack) s.used I
covered {es} s = s.left

summed : {n : ℕ} {es : Scope} {I : Items} {G : Goal} {l : List ℕ} {U : Items} {v : Bool}
    → Sum n es G l U v → Within U I → Covers (spare es v) U I → Summed n es I G l
summed {es} {U} {v} s p c = record { used = U; slack = v; sum = s; within = p; left = c }

pub bounded_within : {es : Scope} {I J : Items} → Within J I → Bounded es I → Bounded es J
bounded_within w b = record { bounded = λ i h. b.bounded i (w.kept i h) }

pub bounded_∪ : {es : Scope} {I J : Items} → Bounded es I → Bounded es J → Bounded es (I ∪ J)
bounded_∪ {I} {J} b c = record { bounded = λ i h. ⊎_elim (b.bounded i) (c.bounded i) (∪_cases I J i h) }

-- a lent clause takes a number that no item has
pub fresh : {es : Scope} {I : Items} → Bounded es I → I (size es) ≡ false
fresh {es} {I} b = not_true (I (size es)) (λ h. let k : size es < size es = b.bounded (size es) h in omega arith)

pub lend_size : (es : Scope) (D : Clause) → size (lend es D) ≡ size es + 1
unfolding size lend extend
lend_size es D = length-append es.entries _

pub bounded_lend : {es : Scope} {I : Items} (D : Clause) → Bounded es I → Bounded (lend es D) (I ∪ only (size es))
bounded_lend {es} {I} D b = record { bounded = λ i h. ⊎_elim (old i) (new i) (∪_cases I (only (size es)) i h) }
  where
    old : (i : ℕ) → I i ≡ true → i < size (lend es D)
    old i h = let k : i < size es = b.bounded i h in omega (arith, lend_size es D)

    new : (i : ℕ) → only (size es) i ≡ true → i < size (lend es D)
    new i h = omega (arith, lend_size es D, only_eq (size es) i h)

-- What is summed at the parts of a goal is summed at the goal.
summed_⊗ : {n : ℕ} {es : Scope} {I J K : Items} {G H : Goal} {l m : List ℕ}
    → Splits I J K → Summed n es J G l → Summed n es K H m → Summed n es I (tensor G H) (l ++ m)
summed_⊗ {es} s x y = summed (sum_⊗ refl apart refl x.sum y.sum)
    (join_within (split_joins apart) (within_trans x.within (split_left s)) (within_trans y.within (split_right s)))
    (split_covers (spare_joins es x.slack y.slack refl) s (covered x) (covered y))
  where
    apart : Splits (x.used ∪ y.used) x.used y.used
    apart = split_apart s x.within y.within (∪_joins x.used y.used)

summed_& : {n : ℕ} {es : Scope} {I : Items} {G H : Goal} {l m : List ℕ}
    → Summed n es I G l → Summed n es I H m → Summed n es I (with G H) (l ++ m)
summed_& {es} x y = summed
    (sum_& refl joins refl (covers_within (covered x) y.within) (covers_within (covered y) x.within) x.sum y.sum)
    (join_within joins x.within y.within) (both_cover (spare_meets es x.slack y.slack refl) (covered x) (covered y))
  where
    joins : Joins (x.used ∪ y.used) x.used y.used
    joins = ∪_joins x.used y.used

summed_⊕₁ : {n : ℕ} {es : Scope} {I : Items} {G H : Goal} {l : List ℕ} → Summed n es I G l → Summed n es I (oplus G H) (left_choice ∷ l)
summed_⊕₁ x = summed (sum_⊕₁ refl x.sum) x.within (covered x)

summed_⊕₂ : {n : ℕ} {es : Scope} {I : Items} {G H : Goal} {l : List ℕ} → Summed n es I H l → Summed n es I (oplus G H) (right_choice ∷ l)
summed_⊕₂ x = summed (sum_⊕₂ refl x.sum) x.within (covered x)

summed_⊸ : {n : ℕ} {es : Scope} {I : Items} {D : Clause} {G : Goal} {l : List ℕ}
    → I (size es) ≡ false → Summed n (lend es D) (I ∪ only (size es)) G l → Summed n es I (lolliᴳ D G) l
summed_⊸ {es} {I} {D} f x = summed (sum_⊸ rest (lent_used I (size es) cover) x.sum)
    (lent_within I rest x.within) (lent_covers I rest f cover)
  where
    cover : Covers (spare es x.slack) x.used (I ∪ only (size es))
    cover = (spare_lend es D x.slack).0 (covered x)

    rest : Without (x.used ∖ only (size es)) x.used (size es)
    rest = only_without x.used (size es)

summed_rule : {n : ℕ} {es : Scope} {I : Items} {a e : ℕ} {l : List ℕ}
    → linear_at es e ≡ false → Summed n es I (residual_at es a e) l → Summed (suc n) es I (atomᴳ a) (e ∷ l)
summed_rule r x = summed (sum_rule r x.sum) x.within (covered x)

summed_item : {n : ℕ} {es : Scope} {I : Items} {a e : ℕ} {l : List ℕ}
    → linear_at es e ≡ true → I e ≡ true → Summed n es (I ∖ only e) (residual_at es a e) l → Summed (suc n) es I (atomᴳ a) (e ∷ l)
summed_item {I} {e} r t x = summed (sum_item r (used_out I e x.within) more x.sum)
    (used_within I more t x.within) (used_covers I more (covered x))
  where
    more : Plus (x.used ∪ only e) x.used e
    more = only_plus x.used e

-- a derivation's list has a summary that its items fit
pub complete : {n : ℕ} {es : Scope} {I : Items} {G : Goal} (d : Derives es I G) → nesting d ≤ n → Summed n es I G (steps d)
unfolding steps nesting
complete (res_1 e) h = summed (sum_1 empty_∅) (empty_within empty_∅) (empty_covered e)
complete {es} res_⊤ h = summed (sum_⊤ empty_∅) (empty_within empty_∅) (spare_all es)
complete {n} (res_⊗ s d e) h = summed_⊗ s (complete {n = n} d (omega arith)) (complete {n = n} e (omega arith))
complete {n} (res_& d e) h = summed_& (complete {n = n} d (omega arith)) (complete {n = n} e (omega arith))
complete (res_⊕₁ d) h = summed_⊕₁ (complete d h)
complete (res_⊕₂ d) h = summed_⊕₂ (complete d h)
complete (res_⊸ f d) h = summed_⊸ f (complete d h)
complete {n = zero} (res_atm_int e r d) h = absurd (omega arith)
complete {n = suc n} (res_atm_int e r d) h = summed_rule r (complete {n = n} d (omega arith))
complete {n = zero} (res_atm_lin e r t d) h = absurd (omega arith)
complete {n = suc n} (res_atm_lin e r t d) h = summed_item r t (complete {n = n} d (omega arith))

-- What is derived by lists at the parts of a goal is derived at the goal.
by_⊗ : {n : ℕ} {es : Scope} {I J K : Items} {G H : Goal} {k l m : List ℕ}
    → k ≡ l ++ m → Splits I J K → ByList n es J G l → ByList n es K H m → ByList n es I (tensor G H) k
unfolding steps nesting
by_⊗ {n} p s x y = record { tree = res_⊗ s x.tree y.tree; list = cc; nested = omega arith }

by_& : {n : ℕ} {es : Scope} {I : Items} {G H : Goal} {k l m : List ℕ}
    → k ≡ l ++ m → ByList n es I G l → ByList n es I H m → ByList n es I (with G H) k
unfolding steps nesting
by_& {n} p x y = record { tree = res_& x.tree y.tree; list = cc; nested = omega arith }

by_⊕₁ : {n : ℕ} {es : Scope} {I : Items} {G H : Goal} {k l : List ℕ} → k ≡ left_choice ∷ l → ByList n es I G l → ByList n es I (oplus G H) k
unfolding steps nesting
by_⊕₁ p x = record { tree = res_⊕₁ x.tree; list = ap (λ l. left_choice ∷ l) x.list ∙ sym p; nested = x.nested }

by_⊕₂ : {n : ℕ} {es : Scope} {I : Items} {G H : Goal} {k l : List ℕ} → k ≡ right_choice ∷ l → ByList n es I H l → ByList n es I (oplus G H) k
unfolding steps nesting
by_⊕₂ p x = record { tree = res_⊕₂ x.tree; list = ap (λ l. right_choice ∷ l) x.list ∙ sym p; nested = x.nested }

by_⊸ : {n : ℕ} {es : Scope} {I : Items} {D : Clause} {G : Goal} {l : List ℕ}
    → I (size es) ≡ false → ByList n (lend es D) (I ∪ only (size es)) G l → ByList n es I (lolliᴳ D G) l
unfolding steps nesting
by_⊸ f x = record { tree = res_⊸ f x.tree; list = x.list; nested = x.nested }

by_rule : {n : ℕ} {es : Scope} {I : Items} {a e : ℕ} {l : List ℕ}
    → linear_at es e ≡ false → ByList n es I (residual_at es a e) l → ByList (suc n) es I (atomᴳ a) (e ∷ l)
unfolding steps nesting
by_rule {n} {e} r x = record { tree = res_atm_int e r x.tree; list = cc; nested = omega arith }

by_item : {n : ℕ} {es : Scope} {I : Items} {a e : ℕ} {l : List ℕ}
    → linear_at es e ≡ true → I e ≡ true → ByList n es (I ∖ only e) (residual_at es a e) l → ByList (suc n) es I (atomᴳ a) (e ∷ l)
unfolding steps nesting
by_item {n} {e} r t x = record { tree = res_atm_lin e r t x.tree; list = cc; nested = omega arith }

-- with slack or nothing left as `Covers`, which the induction needs
sound_covers : {n : ℕ} {es : Scope} {I : Items} {G : Goal} {l : List ℕ} {U : Items} {v : Bool}
    → Sum n es G l U v → Bounded es I → Within U I → Covers (spare es v) U I → ByList n es I G l
unfolding steps nesting
sound_covers {n} {es} (sum_1 e) b p c = record { tree = res_1 (covered_empty (spare_none es) e c); list = refl; nested = omega arith }
sound_covers {n} (sum_⊤ e) b p c = record { tree = res_⊤; list = refl; nested = omega arith }
sound_covers {es} {I} (sum_⊗ {U₁} {U₂} {v₁} {v₂} q s w x y) b p c =
    let R = spare es v₁ in
    by_⊗ q (share_splits R s p)
    (sound_covers x (bounded_within (split_left (share_splits R s p)) b) (share_left R U₁ U₂ I) (share_left_covers R U₁ U₂ I))
    (sound_covers y (bounded_within (split_right (share_splits R s p)) b) (share_right R s p)
    (share_right_covers R (spare es v₂) (spare_joins es v₁ v₂ w) s c))
sound_covers {es} (sum_& {v₁} {v₂} q j w s t x y) b p c = by_& q
    (sound_covers x b (within_trans (join_left j) p) (left_covers (spare es v₂) (spare_meets es v₁ v₂ w) j s c))
    (sound_covers y b (within_trans (join_right j) p) (right_covers (spare es v₁) (spare_meets es v₁ v₂ w) j t c))
sound_covers (sum_⊕₁ q x) b p c = by_⊕₁ q (sound_covers x b p c)
sound_covers (sum_⊕₂ q x) b p c = by_⊕₂ q (sound_covers x b p c)
sound_covers {es} (sum_⊸ {D} {v} s t x) b p c =
    by_⊸ (fresh b) (sound_covers x (bounded_lend D b) (relend_within s p) ((spare_lend es D v).1 (relend_covers s t c)))
sound_covers (sum_rule r x) b p c = by_rule r (sound_covers x b p c)
sound_covers {I} (sum_item {e} r t s x) b p c = by_item r (before_use_at s p)
    (sound_covers x (bounded_within (∖_within I (only e)) b) (before_use_within s t p) (before_use_covers s c))

-- a list derives the goal from all items that fit its summary
pub sound : {n : ℕ} {es : Scope} {I : Items} {G : Goal} {l : List ℕ} {U : Items} {v : Bool}
    → Sum n es G l U v → Bounded es I → Within U I → (v ≡ true) ⊎ Within I U → ByList n es I G l
sound {es} s b p left = sound_covers s b p ((covers es).0 left)

-- A list derives G from I within nesting n exactly if it has a summary, this is within I, and there is slack or nothing is left.
pub summary : {n : ℕ} {es : Scope} {I : Items} {G : Goal} {l : List ℕ} → Bounded es I → ByList n es I G l ↔ Summed n es I G l
summary {n} {es} {I} {G} b = (
  λ x. subst (Summed n es I G) x.list (complete x.tree x.nested),
  λ s. sound_covers s.sum b s.within s.left,
)
