-- THEOREM. At every goal met the count in the branch's record is what a scan of the entries in scope finds: so many of them are open items
-- that have to be used.
use Prim.Native.Nat.{ℕ, ◌+◌, ◌-◌, ◌≤◌}
use native.Mathlib.Omega.{arith}
use mathlib.Core.Path.{◌≡◌, refl, ap, ◌∙◌}
use mathlib.Core.Bool.{Bool, true, false}
use mathlib.Core.List.{List}
use Rattle.calculus.specs.Items.{Items}
use Rattle.calculus.proofs.SetLaws.{∪_joins, join_left}
use Rattle.card.specs.Format.{rule_count}
use Rattle.lines.specs.Set.{member}
use Rattle.lines.specs.Count.{number, count_s}
use Rattle.lines.proofs.CountLaws.{number_add, number_none}
use Rattle.scope.specs.Inner.Sets.{items}
use Rattle.scope.proofs.SetsAreItems.{items_at_lem}
use Rattle.entries.proofs.TablesAreScopes.{scope_len}
use Rattle.branch.specs.declared.Branch.{Branch}
use Rattle.branch.specs.declared.Floor.{Floor}
use Rattle.engine.specs.Count.{CountIsScan}
use Rattle.engine.specs.Inner.Engine.{Ready}

module _ {bs waits tape nodes heads : List ℕ} {f : Floor} {b : Branch} (r : Ready bs waits tape nodes heads f b) where
  abbrev P : ℕ
  P = rule_count bs

  abbrev I : Items
  I = items (rule_count bs) b.strict

  -- no item is past the scope
  pub item_past : (i : ℕ) → b.count ≤ rule_count bs + i → member b.strict i ≡ false
  item_past i h = go (member b.strict i) refl
    where
      go : (v : Bool) → member b.strict i ≡ v → v ≡ false
      go true m =
          let own = items_at_lem P b.strict (P + i) (omega arith) ∙ ap (member b.strict) (omega arith) ∙ m in
          let all = (join_left (∪_joins I (items P b.lax))).kept (P + i) own in
          absurd (omega (arith, r.bounded.bounded (P + i) all, scope_len bs nodes b.count))
      go false m = refl

  -- THEOREM. So it is wherever the engine is ready.
  pub count_is_scan : CountIsScan bs b
  unfolding count_s
  count_is_scan =
      let n = b.count - P in
      let few = r.few in
      let room : n + (192 - n) ≡ 192 = omega arith in
      let c = number_add (member b.strict) n (192 - n) in
      let c0 = number_none (λ k. member b.strict (n + k)) (192 - n) (λ k h. item_past (n + k) (omega arith)) in
      let y : number (member b.strict) (n + (192 - n)) ≡ number (member b.strict) 192 = ap (number (member b.strict)) room in
      let k = r.counted in
      record { scan = omega arith }
