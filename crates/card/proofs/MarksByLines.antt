-- Marks and sheet go by which of the lines in the list are surely used.
use Prim.Native.Nat.{ℕ, zero, suc, ◌+◌, ◌<◌}
use native.Mathlib.Omega.{arith}
use mathlib.Core.Path.{◌≡◌, refl, ap, ap₂}
use mathlib.Core.Bool.{Bool, true, false, cond}
use mathlib.Core.List.{List, [], ◌∷◌, ◌++◌}
use lib.ListN.{length}
use lib.Dec.{eqb}
use Rattle.calculus.specs.Items.{Items}
use Rattle.calculus.specs.Steps.{stands}
use Rattle.card.specs.Format.{rule_count, line_count, line_byte, listing}
use Rattle.card.specs.Sheet.{mark_of, marks_of, word, sheet_of}

listing_same : (n : ℕ) {f g : ℕ → ℕ} → ((i : ℕ) → i < n → f i ≡ g i) → listing n f ≡ listing n g
unfolding listing
listing_same zero h = refl
listing_same (suc n) h = ap₂ (λ (l : List ℕ) (x : ℕ). l ++ (x ∷ [])) (listing_same n (λ i k. h i (omega arith))) (h n (omega arith))

module _ (bs l : List ℕ) (U W : Items)
    (same : (i : ℕ) → i < line_count bs → stands (rule_count bs + i) l ≡ true → U (rule_count bs + i) ≡ W (rule_count bs + i)) where
  pub mark_same : (i : ℕ) → i < line_count bs → mark_of bs U l i ≡ mark_of bs W l i
  unfolding mark_of
  mark_same i h = by (stands (rule_count bs + i) l) refl
    where
      by : (b : Bool) → stands (rule_count bs + i) l ≡ b
          → ◌≡◌ {A = ℕ} (cond b (cond (U (rule_count bs + i)) 1 3) (cond (eqb (line_byte bs i) 1) 2 0))
          (cond b (cond (W (rule_count bs + i)) 1 3) (cond (eqb (line_byte bs i) 1) 2 0))
      by true t = ap (λ (b : Bool). cond b 1 3) (same i h t)
      by false t = refl

  marks_same : marks_of bs U l ≡ marks_of bs W l
  unfolding marks_of
  marks_same = listing_same (line_count bs) mark_same

  pub sheet_same : sheet_of bs U l ≡ sheet_of bs W l
  unfolding sheet_of
  sheet_same = ap (λ (m : List ℕ). word (5 + length l + line_count bs) ++ (1 ∷ length l ∷ line_count bs ∷ (l ++ m))) marks_same
