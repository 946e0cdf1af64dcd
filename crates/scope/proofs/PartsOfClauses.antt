-- A clause of the card, and the parts of a recipe or menu: lower, clauses too, and used for the same names.
use Rattle.std.proofs.Common.{refl, Bool, ℕ, ◌+◌, ◌*◌, ◌<◌, ◌≤◌, ◌≡◌, sym, ◌∙◌, ap, ap₂, true, false, ◌||◌, List, length, arith}
use mathlib.Core.Logic.{⊎_elim}
use Rattle.calculus.specs.Formula.{Fits, usable}
use Rattle.card.specs.Format.{node_count, kind_at, left_at, right_at}
use Rattle.card.specs.Fault.{Sound, clause_part}
use Rattle.card.specs.Decode.{clause_of}
use Rattle.card.specs.Kinds.{Numbered}
use Rattle.card.specs.declared.kinds.Kind.{Kind}
use Rattle.card.specs.declared.kinds.Kind.TheVariants.{Atom, Top, One, Tensor, With, Lend, Recipe, Oplus, Zero, Menu, Unknown}
use Rattle.card.proofs.SoundNodes.{clause_lower, clause_kind, clause_above, node_here, recipe_parts, usable_recipe, usable_rest, menu_parts, usable_menu}

module _ {bs : List ℕ} (s : Sound bs) (i : ℕ) (p : clause_part bs (node_count bs) i ≡ true) where
  pub below : i < node_count bs
  below = clause_lower bs (node_count bs) i p

  pub here : 16 + 5 * i ≤ length bs
  here = node_here s i below

  -- a part that reads as a clause is asked in turn
  pub part_call : {j t : ℕ} → clause_part bs i j ≡ true → i ≡ t → (j < t) × (Sound bs × (clause_part bs (node_count bs) j ≡ true))
  part_call {j} e q = (omega (arith, clause_lower bs i j e), (s, clause_above bs i j (node_count bs) (omega (arith, below)) e))

  -- the right part of a recipe
  module _ {j : ℕ} (k : kind_at bs i ≡ 7) (e : j ≡ right_at bs i) where
    pub recipe_part : clause_part bs i j ≡ true
    recipe_part = rw e (recipe_parts s i below k).1

    pub recipe_same : (fits : Fits) (a : ℕ) → usable fits a (clause_of bs j) ≡ usable fits a (clause_of bs i)
    recipe_same fits a = ap (λ n. usable fits a (clause_of bs n)) e ∙ sym (usable_recipe s i below k fits a)

  -- both parts of a menu
  module _ (k : kind_at bs i ≡ 10) where
    pub left_part : {j : ℕ} → j ≡ left_at bs i → clause_part bs i j ≡ true
    left_part e = rw e (menu_parts s i below k).0

    pub right_part : {j : ℕ} → j ≡ right_at bs i → clause_part bs i j ≡ true
    right_part e = rw e (menu_parts s i below k).1

    pub menu_same : (fits : Fits) (a : ℕ) {l r : ℕ} {b d : Bool} → l ≡ left_at bs i → r ≡ right_at bs i
        → b ≡ usable fits a (clause_of bs l) → d ≡ usable fits a (clause_of bs r) → (b || d) ≡ usable fits a (clause_of bs i)
    menu_same fits a p q f g =
        ap₂ ◌||◌ (f ∙ ap (λ n. usable fits a (clause_of bs n)) p) (g ∙ ap (λ n. usable fits a (clause_of bs n)) q)
        ∙ sym (usable_menu s i below k fits a)

  -- a clause that is neither a name nor a recipe nor a menu has no head
  pub headless : (fits : Fits) (a : ℕ) → (kind_at bs i ≡ 1 → ⊥) → (kind_at bs i ≡ 7 → ⊥) → (kind_at bs i ≡ 10 → ⊥)
      → false ≡ usable fits a (clause_of bs i)
  headless fits a n m o =
      ⊎_elim (λ k. absurd (n k)) (⊎_elim (λ k. sym (usable_rest bs i k fits a)) (⊎_elim (λ k. absurd (m k)) (λ k. absurd (o k))))
      (clause_kind bs (node_count bs) i p)

  pub other_headless : (k : Kind) → Numbered k (kind_at bs i) → (k ≡ Atom → ⊥) → (k ≡ Recipe → ⊥) → (k ≡ Menu → ⊥) → (fits : Fits) (a : ℕ)
      → false ≡ usable fits a (clause_of bs i)
  other_headless Atom e n m o fits a = absurd (n refl)
  other_headless Recipe e n m o fits a = absurd (m refl)
  other_headless Menu e n m o fits a = absurd (o refl)
  other_headless Top e n m o fits a = headless fits a (λ h. omega (arith, e, h)) (λ h. omega (arith, e, h)) (λ h. omega (arith, e, h))
  other_headless One e n m o fits a = headless fits a (λ h. omega (arith, e, h)) (λ h. omega (arith, e, h)) (λ h. omega (arith, e, h))
  other_headless Tensor e n m o fits a = headless fits a (λ h. omega (arith, e, h)) (λ h. omega (arith, e, h)) (λ h. omega (arith, e, h))
  other_headless With e n m o fits a = headless fits a (λ h. omega (arith, e, h)) (λ h. omega (arith, e, h)) (λ h. omega (arith, e, h))
  other_headless Lend e n m o fits a = headless fits a (λ h. omega (arith, e, h)) (λ h. omega (arith, e, h)) (λ h. omega (arith, e, h))
  other_headless Oplus e n m o fits a = headless fits a (λ h. omega (arith, e, h)) (λ h. omega (arith, e, h)) (λ h. omega (arith, e, h))
  other_headless Zero e n m o fits a = headless fits a (λ h. omega (arith, e, h)) (λ h. omega (arith, e, h)) (λ h. omega (arith, e, h))
  other_headless Unknown e n m o fits a = headless fits a (λ h. omega (arith, e, h)) (λ h. omega (arith, e, h)) (λ h. omega (arith, e, h))
