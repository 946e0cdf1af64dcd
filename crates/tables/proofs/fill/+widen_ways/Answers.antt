-- The array keeps to its type.
use Prim.Native.Nat.{ℕ, ◌<◌}
use native.Mathlib.Omega.{arith}
use mathlib.Core.Path.{◌≡◌}
use mathlib.Core.List.{List}
use Rattle.card.specs.Format.{kind_at, left_at, right_at}
use Rattle.card.specs.Fault.{Sound}
use Rattle.card.proofs.SoundNodes.{parts_below}
use Rattle.bounds.proofs.WaysSmall.{way_on}
use Rattle.bounds.specs.Inner.Table.{Node}
use Rattle.tables.proofs.fill.+widen_ways.Goals as goal

-- the parts of a recipe or menu are lower
recipe_lower : {bs : List ℕ} {i : ℕ} → Sound bs → Node bs i → kind_at bs i ≡ 7 → (left_at bs i < i) × (right_at bs i < i)
recipe_lower {bs} {i} s n e = parts_below s i n.here (omega arith) (λ q. omega arith)

menu_lower : {bs : List ℕ} {i : ℕ} → Sound bs → Node bs i → kind_at bs i ≡ 10 → (left_at bs i < i) × (right_at bs i < i)
menu_lower {bs} {i} s n e = parts_below s i n.here (omega arith) (λ q. omega arith)

pub widen_ways-requires : goal.widen_ways-requires
widen_ways-requires t c =
    let z = c.requires.table_held in
    let lower = (recipe_lower z.sound c.requires.node.0 c.in-Recipe.ensures).1 in (
      omega (arith, lower, c.decreases, c.right_part.ensures.0),
      (
        z,
        (
          (c.right_part.ensures.1, c.requires.node.1),
          way_on c.requires.on_way (omega (arith, lower, c.right_part.ensures.0)) (omega (arith, c.least.ensures.1))
              (omega (arith, c.low.ensures.1)) (omega (arith, c.high.ensures.1)),
        ),
      ),
    )

pub widen_ways-first-requires : goal.widen_ways-first-requires
widen_ways-first-requires t c =
    let z = c.requires.table_held in
    let lower = (menu_lower z.sound c.requires.node.0 c.in-Menu.ensures).0 in (
      omega (arith, lower, c.decreases, c.left_part-d.ensures.0),
      (
        z,
        (
          (c.left_part-d.ensures.1, c.requires.node.1),
          way_on c.requires.on_way (omega (arith, lower, c.left_part-d.ensures.0)) (omega arith) (omega arith) (omega arith),
        ),
      ),
    )

pub widen_ways-second-requires : goal.widen_ways-second-requires
widen_ways-second-requires t c =
    let z = c.requires.table_held in
    let lower = (menu_lower z.sound c.requires.node.0 c.in-Menu.ensures).1 in (
      omega (arith, lower, c.decreases, c.right_part-e.ensures.0),
      (
        record { sound = z.sound; names_held = z.names_held; table_held = c.widen_ways-first.ensures },
        (
          (c.right_part-e.ensures.1, c.requires.node.1),
          way_on c.requires.on_way (omega (arith, lower, c.right_part-e.ensures.0)) (omega arith) (omega arith) (omega arith),
        ),
      ),
    )
