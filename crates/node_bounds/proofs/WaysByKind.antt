-- What a clause of the card asks of the bounds, by its kind.
use Prim.Native.Nat.{ℕ, ◌+◌, ◌<◌}
use native.Mathlib.Omega.{arith}
use mathlib.Core.Path.{◌≡◌, refl}
use mathlib.Core.Logic.{◌↔◌, ⊎_elim}
use mathlib.Core.Bool.{true, false}
use mathlib.Core.List.{List}
use borrow.Author.Tests.{eqb-true, eq-eqb}
use Rattle.card.specs.Format.{node_count, kind_at, left_at, right_at}
use Rattle.card.specs.Fault.{clause_part}
use Rattle.card.specs.Decode.{clause_of, scope_of}
use Rattle.card.proofs.NodesDecoded.{reads_name, reads_rest}
use Rattle.card.proofs.SoundNodes.{clause_lower, clause_kind, clause_above, sound_recipe, sound_menu}
use Rattle.bounds.proofs.WaysSmall.{clause_node}
use Rattle.bounds.specs.Inner.Table.{TableHeld, Node, HeadFits, WaysFit, least_at, low_at, high_at}
use Rattle.node_bounds.proofs.ChecksDecide.{fails}

module _ {bs names t : List ℕ} (z : TableHeld bs names t) (i : ℕ) (p : clause_part bs (node_count bs) i ≡ true) where
  pub below : i < node_count bs
  below = clause_lower bs (node_count bs) i p

  pub node : Node bs i
  node = clause_node z.sound p

  -- a part that reads as a clause
  pub part_lower : (j : ℕ) → clause_part bs i j ≡ true → j < i
  part_lower j e = clause_lower bs i j e

  pub part_clause : (j : ℕ) → clause_part bs i j ≡ true → clause_part bs (node_count bs) j ≡ true
  part_clause j e = clause_above bs i j (node_count bs) (omega (arith, below)) e

  module _ (c s l h : ℕ) where
    pub name_ways : {a : ℕ} {P : Type 0} → kind_at bs i ≡ 1 → a ≡ left_at bs i → P ↔ HeadFits names t a c s l h
        → P ↔ WaysFit bs names t (clause_of bs i) i c s l h
    unfolding WaysFit scope_of
    name_ways k e w =
        rw (reads_name bs i k).1 (
          λ q b f. rw (eqb-true (left_at bs i) b f) at (rw e at (w.0 q)),
          λ f. w.1 (rw e (f (left_at bs i) (eq-eqb (left_at bs i) (left_at bs i) refl))),
        )

    -- a clause that is neither a name nor a recipe nor a menu has no head
    pub rest_ways : (kind_at bs i ≡ 1 → ⊥) → (kind_at bs i ≡ 7 → ⊥) → (kind_at bs i ≡ 10 → ⊥) → WaysFit bs names t (clause_of bs i) i c s l h
    unfolding WaysFit
    rest_ways n m o =
        ⊎_elim (λ k. absurd (n k))
        (⊎_elim (λ k. rw (reads_rest bs i k).1 tt) (⊎_elim (λ k. absurd (m k)) (λ k. absurd (o k))))
        (clause_kind bs (node_count bs) i p)

    pub recipe_ways : {j g x y u : ℕ} {P : Type 0} → kind_at bs i ≡ 7 → j ≡ right_at bs i → g ≡ left_at bs i
        → x ≡ least_at t g → y ≡ low_at t g c → u ≡ high_at t g c
        → P ↔ WaysFit bs names t (clause_of bs j) j c (s + x) (l + y) (h + u)
        → P ↔ WaysFit bs names t (clause_of bs i) i c s l h
    unfolding WaysFit
    recipe_ways k d e a b f w = rw (sound_recipe z.sound i below k) (rw (a, b, f, d, e) at w)

    pub menu_ways : {d e : ℕ} {P : Type 0} → kind_at bs i ≡ 10 → d ≡ left_at bs i → e ≡ right_at bs i
        → WaysFit bs names t (clause_of bs d) d c (s + 1) l h → P ↔ WaysFit bs names t (clause_of bs e) e c (s + 1) l h
        → P ↔ WaysFit bs names t (clause_of bs i) i c s l h
    unfolding WaysFit
    menu_ways k a b v w = rw (sound_menu z.sound i below k) (λ q. (rw a at v, rw b at (w.0 q)), λ f. w.1 (rw b f.1))

    pub menu_fails : {d : ℕ} → kind_at bs i ≡ 10 → d ≡ left_at bs i → (WaysFit bs names t (clause_of bs d) d c (s + 1) l h → ⊥)
        → (false ≡ true) ↔ WaysFit bs names t (clause_of bs i) i c s l h
    unfolding WaysFit
    menu_fails k a n = rw (sound_menu z.sound i below k) (fails (λ f. n (rw a f.0)))
