-- THEOREM. Each change of a branch keeps its invariant: the running count is what a scan of the strict items finds. Where the other fields
-- alone change, it does so as it stands.
use Prim.Native.Nat.{ℕ, ◌+◌, ◌-◌, ◌<◌}
use native.Mathlib.Omega.{arith}
use mathlib.Core.Path.{◌≡◌, refl, sym, ap, subst, ◌∙◌}
use mathlib.Core.Bool.{Bool, true, false, cond}
use lib.Dec.{ltb}
use Rattle.lines.specs.declared.LineSet.{LineSet}
use Rattle.lines.specs.Set.{member, is_empty_s, empty_s, take_s, cut_s, join_s, Words}
use Rattle.lines.specs.Count.{count_s}
use Rattle.lines.proofs.CountLaws.{count_empty, count_add, count_take, count_keep, count_none, empty_count}
use Rattle.branch.specs.declared.Branch.{Branch}
use Rattle.branch.specs.declared.Way.{Way}
use Rattle.branch.specs.Inner.Values.{Counted, freed_b, past_tensor_b, past_with_b, lent_b, spent_b, using_b}

-- what a change is, and that the branch is counted past it
pub kept : {b c : Branch} → Counted c → b ≡ c → (b ≡ c) × Counted b
kept k e = (e, subst Counted (sym e) k)

-- ⊤ takes the remainder; a part with more behind it has to use nothing
pub counted_freed : (b : Branch) → Counted (freed_b b)
counted_freed b = sym count_empty

-- the parts get theirs from what they are handed
by_slack : (v : Bool) (s t : LineSet) → cond v (count_s s) (count_s t) ≡ count_s (cond v s t)
by_slack true s t = refl
by_slack false s t = refl

pub counted_tensor : (b : Branch) (w : Way) → Counted (past_tensor_b b w)
unfolding past_tensor_b
counted_tensor b w =
    ap (λ (n : ℕ). cond w.slack n (count_s (cut_s b.strict w.used))) (sym count_empty)
    ∙ by_slack w.slack empty_s (cut_s b.strict w.used)

pub counted_with : (b : Branch) (w : Way) → Counted (past_with_b b w)
unfolding past_with_b
counted_with b w = by_slack w.slack (join_s b.strict w.used) w.used

-- a lend adds one
pub counted_lent : (b : Branch) (item : ℕ) → Counted b → item < 192 → member b.strict item ≡ false → Counted (lent_b b item)
counted_lent b item k h n = ap (λ (x : ℕ). x + 1) k ∙ sym (count_add b.strict item h n)

-- the use of a strict item takes one off
pub counted_spent : (b : Branch) (item : ℕ) → Counted b → spent_b b item ≡ count_s (take_s b.strict item)
unfolding spent_b
counted_spent b item k = go (member b.strict item) refl
  where
    go : (v : Bool) → member b.strict item ≡ v → cond v (b.due - 1) b.due ≡ count_s (take_s b.strict item)
    go true m = omega (arith, k, count_take b.strict item m)
    go false m = k ∙ sym (count_keep b.strict item m)

pub counted_using : (b : Branch) (P T e len : ℕ) → Counted b → Counted (using_b b P T e len)
unfolding using_b
counted_using b P T e len k = go (ltb e P)
  where
    go : (v : Bool) → cond v b.due (spent_b b (e - P)) ≡ count_s (cond v b.strict (take_s b.strict (e - P)))
    go true = k
    go false = counted_spent b (e - P) k

-- a strict item is counted
pub some_due : (b : Branch) (item : ℕ) → Counted b → member b.strict item ≡ true → 0 < b.due
some_due b item k m = omega (arith, k, count_take b.strict item m)

-- none is left exactly where the count is 0
pub none_due : (b : Branch) → Words b.strict → Counted b → b.due ≡ 0 → is_empty_s b.strict ≡ true
none_due b w k e = count_none w (sym k ∙ e)

pub one_due : (b : Branch) → Counted b → (b.due ≡ 0 → ⊥) → is_empty_s b.strict ≡ false
one_due b k n = go (is_empty_s b.strict) refl
  where
    go : (v : Bool) → is_empty_s b.strict ≡ v → v ≡ false
    go true e = absurd (n (k ∙ empty_count b.strict e))
    go false e = refl
