-- What a search says where an entry is used: the conditions of its clause go before the rest, up to its core, a menu or a head.
use Prim.Native.Nat.{ℕ, ◌+◌, ◌-◌, ◌*◌, ◌≤◌, ◌<◌}
use native.Mathlib.Omega.{arith}
use mathlib.Core.Path.{◌≡◌, refl}
use mathlib.Core.Logic.{◌⊎◌}
use mathlib.Core.Bool.{true}
use mathlib.Core.List.{List}
use lib.ListN.{length, get_or, set}
use Rattle.card.specs.Format.{rule_count, line_count, node_count, kind_at, left_at}
use Rattle.card.specs.Fault.{clause_part, height_at}
use Rattle.branch.specs.declared.Branch.{Branch}
use Rattle.branch.specs.declared.Floor.{Floor}
use Rattle.branch.specs.Inner.Values.{Answer, using_b, sized_b}
use Rattle.segment.specs.declared.tasks.Pushed.{Pushed}
use Rattle.segment.specs.Inner.Tasks.{Laid, Pushing}
use Rattle.engine.specs.Inner.Engine.{Ready, NameNext, CanUse, PartReady, ChoiceReady, top_node, top_nest, Solving, Entering, Using}
use Rattle.engine.proofs.NumbersFall.{number, most, fewest}
use Rattle.engine.proofs.NamesTell.{use_call, use_told}
use Rattle.engine.proofs.EntersTell.{clause_room, core_here, core_kinds, menu_call, menu_told, head_call, head_told}

module _ {bs waits tape nodes heads codes : List ℕ} {f : Floor} {b : Branch} (R : Ready bs waits tape nodes heads f b)
    (N : NameNext bs codes b) {e : ℕ} (U : CanUse bs waits heads codes b e) (c n name top p q : ℕ) (ec : c ≡ get_or nodes e 0)
    (en : n ≡ top_nest codes b - 1) (ea : name ≡ left_at bs (top_node codes b)) (et : top ≡ b.len - 1) (ep : p ≡ rule_count bs)
    (eq : q ≡ line_count bs) where
  -- past the use, before any condition is put
  abbrev past : Branch
  past = using_b b p q e top

  called : (8 * most past + 3 < 8 * number bs codes b + 1)
      × (Ready bs waits (set tape b.at e) nodes heads f past × PartReady bs codes true c name n past)
  called = use_call R N U c n name top p q ec en ea et ep eq past refl _ refl

  pub use_room : (clause_part bs (node_count bs) c ≡ true) × ((n < 32) × ((top + height_at bs c ≤ 105) × (length codes ≡ 104)))
  unfolding using_b
  use_room = clause_room called.1.0 called.1.1

  module _ {codes' : List ℕ} {x : Pushed} (P : Pushing bs codes codes' top c n x) where
    pushes : Pushing bs codes codes' past.len c n x
    unfolding using_b
    pushes = P

    pub use_core : 16 + 5 * x.core ≤ length bs
    use_core = core_here called.1.0 called.1.1 pushes

    pub use_kinds : (kind_at bs x.core ≡ 1) ⊎ (kind_at bs x.core ≡ 10)
    use_kinds = core_kinds called.1.0 called.1.1 pushes

    module _ (b₂ : Branch) (eb : b₂ ≡ using_b b p q e x.len) where
      resized : b₂ ≡ sized_b past x.len
      unfolding using_b
      resized = eb

      -- where the core is a menu
      module _ (k : kind_at bs x.core ≡ 10) where
        pub use_menu_call : (t : ℕ) → 8 * number bs codes b + 1 ≡ t → (8 * fewest b₂ + 5 < t)
            × (Ready bs waits (set tape b.at e) nodes heads f b₂ × ChoiceReady bs codes' true x.core name n b₂)
        use_menu_call t h =
            let l = called.0 in
            let m = menu_call called.1.0 called.1.1 pushes k b₂ resized _ refl in
            let s = m.0 in (omega arith, m.1)

        pub use_menu_told : {tape' nodes' heads' : List ℕ} {r : Answer}
            → Entering bs codes' true x.core name n f b₂ (set tape b.at e) tape' nodes nodes' heads heads' r
            → Using bs codes e f b tape tape' nodes nodes' heads heads' r
        use_menu_told S =
            use_told R N U c n name top p q ec en ea et ep eq past refl (menu_told called.1.0 called.1.1 pushes k b₂ resized S)

      -- where it is a head
      module _ (k : kind_at bs x.core ≡ 10 → ⊥) where
        pub use_head_call : (t : ℕ) → 8 * number bs codes b + 1 ≡ t → (8 * number bs codes' b₂ + 7 < t)
            × (Ready bs waits (set tape b.at e) nodes heads f b₂ × Laid bs codes' b₂.len b₂.count)
        use_head_call t h =
            let l = called.0 in
            let m = head_call called.1.0 called.1.1 pushes k b₂ resized _ refl in
            let s = m.0 in (omega arith, m.1)

        pub use_head_told : {tape' nodes' heads' : List ℕ} {r : Answer}
            → Solving bs codes' f b₂ (set tape b.at e) tape' nodes nodes' heads heads' r
            → Using bs codes e f b tape tape' nodes nodes' heads heads' r
        use_head_told S =
            use_told R N U c n name top p q ec en ea et ep eq past refl (head_told called.1.0 called.1.1 pushes k b₂ resized S)
