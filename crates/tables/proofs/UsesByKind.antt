-- What is settled of a bare name, and of a recipe of one condition, is settled of the use of the clause.
use Prim.Native.Nat.{ℕ, ◌+◌}
use mathlib.Core.Path.{◌≡◌, refl}
use mathlib.Core.Logic.{◌↔◌}
use mathlib.Core.Bool.{Bool, true}
use mathlib.Core.List.{List}
use Rattle.card.specs.Format.{node_count, kind_at, left_at, right_at}
use Rattle.card.specs.Fault.{clause_part}
use Rattle.card.proofs.SoundNodes.{recipe_parts}
use Rattle.card.specs.Decode.{clause_of}
use Rattle.bounds.specs.Inner.Table.{TableHeld, row_of, least_at, low_at, high_at, HeadFits, WaysFit, NameSettled, RecipeSettled, UseSettled}
use Rattle.node_bounds.proofs.WaysByKind.{below, part_clause, name_ways, recipe_ways}

module _ {bs names t : List ℕ} (z : TableHeld bs names t) {i : ℕ} (p : clause_part bs (node_count bs) i ≡ true) {b : Bool} where
  name_uses : kind_at bs i ≡ 1 → NameSettled names t i b (row_of names (left_at bs i)) ↔ UseSettled bs names t i b
  name_uses k = (
    λ w. record { class = λ c l. (way c _ _ _).0 (w.class c l) },
    λ u. record { class = λ c l. (way c _ _ _).1 (u.class c l) },
  )
    where
      way : (c s l h : ℕ) → HeadFits names t (left_at bs i) c s l h ↔ WaysFit bs names t (clause_of bs i) i c s l h
      way c s l h = name_ways z i p c s l h k refl (λ x. x, λ x. x)

  recipe_uses : kind_at bs i ≡ 7 → kind_at bs (right_at bs i) ≡ 1
      → RecipeSettled names t i b (left_at bs i) (row_of names (left_at bs (right_at bs i))) ↔ UseSettled bs names t i b
  recipe_uses k n = (
    λ w. record { class = λ c l. (way c _ _ _).0 (w.class c l) },
    λ u. record { class = λ c l. (way c _ _ _).1 (u.class c l) },
  )
    where
      here : clause_part bs (node_count bs) (right_at bs i) ≡ true
      here = part_clause z i p (right_at bs i) (recipe_parts z.sound i (below z i p) k).1

      way : (c s l h : ℕ) → HeadFits names t (left_at bs (right_at bs i)) c (s + least_at t (left_at bs i)) (l + low_at t (left_at bs i) c)
          (h + high_at t (left_at bs i) c) ↔ WaysFit bs names t (clause_of bs i) i c s l h
      way c s l h =
          recipe_ways z i p c s l h k refl refl refl refl refl (name_ways z (right_at bs i) here c _ _ _ n refl (λ x. x, λ x. x))

  pub name_use : {a r : ℕ} {q : Bool} → kind_at bs i ≡ 1 → a ≡ left_at bs i → r ≡ row_of names a → (q ≡ true) ↔ NameSettled names t i b r
      → (q ≡ true) ↔ UseSettled bs names t i b
  name_use k e f w =
      let v = rw e at (rw f at w) in
      (λ x. (name_uses k).0 (v.0 x), λ u. v.1 ((name_uses k).1 u))

  pub recipe_use : {a d g r : ℕ} {q : Bool} → kind_at bs i ≡ 7 → d ≡ right_at bs i → kind_at bs d ≡ 1 → g ≡ left_at bs i → a ≡ left_at bs d
      → r ≡ row_of names a → (q ≡ true) ↔ RecipeSettled names t i b g r → (q ≡ true) ↔ UseSettled bs names t i b
  recipe_use k ed n eg ea er w =
      let v = rw ed at (rw (eg, ea) at (rw er at w)) in
      let m = rw ed at n in
      (λ x. (recipe_uses k m).0 (v.0 x), λ u. v.1 ((recipe_uses k m).1 u))
