-- Laws of counting items of a class.
use Prim.Native.Nat.{ℕ, ◌+◌, ◌≤◌, ◌<◌}
use native.Mathlib.Omega.{arith}
use native.Mathlib.Numerals.{add-one}
use mathlib.Core.Path.{◌≡◌, refl, ap, ap₂, ◌∙◌}
use mathlib.Core.Bool.{true, false, not, ◌&&◌, ◌||◌}
use Rattle.calculus.specs.Formula.{Clause}
use Rattle.calculus.specs.Items.{Items, only, Empty, Splits, Within}
use Rattle.calculus.specs.Derivation.{Scope, Entry, size, entry_at, clause_at, lend}
use Rattle.calculus.specs.Inner.Summary.{Without, Plus}
use Rattle.calculus.proofs.SetLaws.{table, ◌≐◌, ◌⟹◌, ◌⊑◌, only_self, only_eq, only_at, not_true}
use Rattle.calculus.proofs.SummaryExact.{lend_size}
use Rattle.calculus.proofs.RenamingKeeps.{entry_before, entry_lent}
use Rattle.lines.specs.Count.{bit, number}
use Rattle.lines.proofs.CountLaws.{number_mono, number_same, number_split, number_none, number_one}
use Rattle.bounds.specs.Inner.Count.{Class, of_class, count}

module _ (es : Scope) (K : Class) where
  pub count_none : {U : Items} → Empty U → count es K U ≡ 0
  unfolding count of_class
  count_none {U} n = number_none (of_class es K U) (size es) (λ i k. ap (λ b. b && K (clause_at es i)) (n.vacant i))

  pub count_within : {U W : Items} → Within U W → count es K U ≤ count es K W
  unfolding count of_class
  count_within {U} {W} h =
      number_mono (of_class es K U) (of_class es K W) (size es)
      (λ i k. table 3 (λ u w c. u ⊑ w ⟹ u && c ⊑ w && c) refl (U i) (W i) (K (clause_at es i)) (h.kept i))

  pub count_split : {U X W : Items} → Splits U X W → count es K U ≡ count es K X + count es K W
  unfolding count of_class
  count_split {U} {X} {W} s =
      number_split (of_class es K U) (of_class es K X) (of_class es K W) (size es)
      (λ i. table 4 (λ u v w c. u ≐ (v || w) ⟹ (u && c) ≐ ((v && c) || (w && c))) refl (U i) (X i) (W i) (K (clause_at es i)) (s.whole i))
      (λ i. table 3 (λ v w c. (v && w) ≐ false ⟹ ((v && c) && (w && c)) ≐ false) refl (X i) (W i) (K (clause_at es i)) (s.apart i))

  -- an item more
  pub count_plus : {U W : Items} {e : ℕ} → e < size es → W e ≡ false → Plus U W e → count es K U ≡ count es K W + bit (K (clause_at es e))
  unfolding count of_class
  count_plus {U} {W} {e} h n s =
      number_split (of_class es K U) (of_class es K W) (of_class es K (only e)) (size es)
      (λ i. table 4 (λ u w o c. u ≐ (w || o) ⟹ (u && c) ≐ ((w && c) || (o && c))) refl
      (U i) (W i) (only e i) (K (clause_at es i)) (s.plus i))
      (λ i. table 3 (λ w o c. (o ≐ true ⟹ w ≐ false) ⟹ ((w && c) && (o && c)) ≐ false) refl
      (W i) (only e i) (K (clause_at es i)) (only_at W e n i))
      ∙ ap (λ x. count es K W + x) alone
    where
      alone : number (of_class es K (only e)) (size es) ≡ bit (K (clause_at es e))
      alone =
          number_one (of_class es K (only e)) e (size es) h
          (λ i d. ap (λ b. b && K (clause_at es i)) (not_true (only e i) (λ p. d (only_eq e i p))))
          ∙ ap (λ b. bit (b && K (clause_at es e))) (only_self e)

  -- a clause is lent: W is counted with it, U without
  pub count_lend : (D : Clause) {U W : Items} → Without U W (size es)
      → count (lend es D) K W ≡ count es K U + bit (W (size es) && K D)
  unfolding count of_class clause_at number
  count_lend D {U} {W} s =
      ap (number (of_class (lend es D) K W)) (lend_size es D ∙ add-one (size es))
      ∙ ap₂ ◌+◌ (number_same (of_class (lend es D) K W) (of_class es K U) (size es) old)
      (ap (λ (x : Entry). bit (W (size es) && K x.clause)) (entry_lent es D (size es) refl))
    where
      old : (i : ℕ) → i < size es → (W i && K (entry_at (lend es D) i).clause) ≡ (U i && K (entry_at es i).clause)
      old i h =
          ap (λ (x : Entry). W i && K x.clause) (entry_before es D i h)
          ∙ ap (λ b. b && K (entry_at es i).clause)
          (table 3 (λ u w o. u ≐ (w && not o) ⟹ o ≐ false ⟹ w ≐ u) refl (U i) (W i) (only (size es) i) (s.without i)
          (not_true (only (size es) i) (λ p. omega (arith, only_eq (size es) i p))))
