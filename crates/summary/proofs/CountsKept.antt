-- Each change of a summary keeps the running count: it goes on by what a scan finds. At the end it tells whether every must line is used.
use Prim.Native.Nat.{ℕ, ◌+◌, ◌-◌}
use native.Mathlib.Omega.{arith}
use mathlib.Core.Path.{◌≡◌, refl, sym, ◌∙◌, ap}
use mathlib.Core.Bool.{Bool, true, false, ◌&&◌, ◌||◌, false≢true}
use lib.Dec.{leb, eqb}
use borrow.Author.Tests.{eqb-true, eq-eqb}
use Rattle.calculus.specs.Items.{Within}
use Rattle.calculus.specs.Inner.Trace.{Says}
use Rattle.card.proofs.FrontChecked.{both_left, both_right}
use Rattle.lines.specs.declared.LineSet.{LineSet}
use Rattle.lines.specs.Set.{member, is_empty_s, cut_s, join_s}
use Rattle.lines.specs.Count.{bit, count_s}
use Rattle.lines.proofs.CountLaws.{count_apart, count_meet_empty, count_meet_add, count_meet_take, count_within, count_all}
use Rattle.scope.specs.Inner.Sets.{items}
use Rattle.scope.proofs.SetsAreItems.{items_at_lem}
use Rattle.summary.specs.declared.Position.{Position}
use Rattle.summary.specs.declared.Summary.{Summary}
use Rattle.summary.specs.Inner.Values.{scanned, MetCounted, ended_w, tensor_w, cover_w, pick_w, with_w, without_s, using_w}

neither_left : (a b : Bool) → (a || b) ≡ false → a ≡ false
neither_left true b h = h
neither_left false b h = refl

neither_right : (a b : Bool) → (a || b) ≡ false → b ≡ false
neither_right true b h = absurd (false≢true (sym h))
neither_right false b h = h

pub ended_counted : (strict : LineSet) (b : Position) (slack alive : Bool) → MetCounted strict b.met (ended_w b slack alive)
ended_counted strict b slack alive a n = let c = count_meet_empty strict in omega (arith, c)

module _ (strict : LineSet) (before : ℕ) (w : Summary) (k : MetCounted strict before w) where
  -- the right part goes on from the left one's count
  pub tensor_counted : (v : Summary) → MetCounted strict w.met v → MetCounted strict before (tensor_w w v)
  tensor_counted v m a n =
      let alive = both_left (w.alive && v.alive) _ a in
      let x = k (both_left w.alive v.alive alive) (neither_left w.slack v.slack n) in
      let y = m (both_right w.alive v.alive alive) (neither_right w.slack v.slack n) in
      let z = count_apart strict w.used v.used (both_right (w.alive && v.alive) _ a) in
      omega (arith, x, y, z)

  -- a side without slack takes what the other takes
  pub with_counted : (v : Summary) → MetCounted strict before v → MetCounted strict before (with_w w v)
  unfolding pick_w
  with_counted v m a n = by w.slack refl
    where
      alive : (w.alive && v.alive) ≡ true
      alive = both_left (w.alive && v.alive) _ a

      covers : (cover_w w v && cover_w v w) ≡ true
      covers = both_right (w.alive && v.alive) _ a

      taken : (x : Bool) (s t : LineSet) → x ≡ false → (x || is_empty_s (cut_s s t)) ≡ true → is_empty_s (cut_s s t) ≡ true
      taken true s t e h = absurd (false≢true (sym e))
      taken false s t e h = h

      by : (x : Bool) → w.slack ≡ x → (with_w w v).met ≡ before + scanned strict (join_s w.used v.used)
      by true e =
          let u : v.slack ≡ false = sym (ap (λ x. x && v.slack) e) ∙ n in
          let c = m (both_right w.alive v.alive alive) u in
          let z = count_within strict w.used v.used (taken v.slack w.used v.used u (both_right (cover_w w v) _ covers)) in
          rw e (c ∙ ap (λ x. before + x) (sym z.0))
      by false e =
          let c = k (both_left w.alive v.alive alive) e in
          let z = count_within strict v.used w.used (taken w.slack v.used w.used e (both_left (cover_w w v) _ covers)) in
          rw e (c ∙ ap (λ x. before + x) (sym z.1))

  pub without_counted : (item : ℕ) → member strict item ≡ false → MetCounted strict before (without_s w item)
  without_counted item f a n =
      k (both_left w.alive _ a) n ∙ ap (λ x. before + x) (sym (count_meet_take strict w.used item f))

  -- a must line is one more: it was free
  pub using_counted : (item due : ℕ) → due ≡ bit (member strict item) → MetCounted strict before (using_w w item due)
  using_counted item due e a n =
      let c = k (both_left w.alive _ a) n in
      let z = count_meet_add strict w.used item in
      let f = ap bit (free (member strict item) _ (both_right w.alive _ a)) in
      omega (arith, c, z, f, e)
    where
      free : (x y : Bool) → y ≡ true → (x && y) ≡ x
      free true y h = h
      free false y h = refl

-- as many are used as there are exactly if every one is used
pub all_met : (strict : LineSet) (w : Summary) → w.alive ≡ true → w.slack ≡ false → MetCounted strict 0 w → (P : ℕ)
    → Says (eqb w.met (count_s strict)) (Within (items P strict) (items P w.used))
unfolding items
all_met strict w a n c P = (
  λ h. record {
    kept = λ e i. rw (both_left (leb P e) _ i) ((count_all strict w.used).0 (sym k ∙ eqb-true _ _ h) (e - P) (both_right (leb P e) _ i));
  },
  λ c. eq-eqb w.met (count_s strict)
      (k ∙ (count_all strict w.used).1 (λ i h. sym (here w.used i) ∙ c.kept (P + i) (here strict i ∙ h))),
)
  where
    k : w.met ≡ scanned strict w.used
    k = let e = c a n in omega (arith, e)

    here : (s : LineSet) (i : ℕ) → items P s (P + i) ≡ member s i
    here s i = items_at_lem P s (P + i) (omega arith) ∙ ap (member s) (omega arith)
