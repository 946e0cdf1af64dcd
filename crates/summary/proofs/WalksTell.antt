-- What a walk tells of a part, from what it tells of the part's own parts.
use Prim.Native.Nat.{ℕ, suc, ◌+◌, ◌-◌, ◌≤◌, ◌<◌}
use native.Mathlib.Omega.{arith}
use native.Mathlib.Numerals.{add-one}
use mathlib.Core.Path.{◌≡◌, refl, sym, ◌∙◌, ap, ap₂, subst}
use mathlib.Core.Bool.{Bool, true, false, cond}
use mathlib.Core.List.{List, [], ◌∷◌, ◌++◌, append_assoc}
use lib.ListN.{length, get_or, take, drop, drop_of_length-le, length-drop, length-append}
use lib.Seq.{drop-cons, get_or-take, length-take-le}
use Rattle.calculus.specs.Formula.{Goal, Clause, atomᴳ, zeroᴳ, oplus, lolliᴳ, withᴰ, usable}
use Rattle.calculus.specs.Derivation.{Scope, size, clause_at, linear_at, lend}
use Rattle.calculus.specs.Walk.{goes, stops, ◌⨾◌, goal_walk, clause_walk}
use Rattle.calculus.specs.Wanted.{Part, goal, meet, Both, Side}
use Rattle.calculus.specs.Items.{Items, ∅, ◌∪◌, ◌∩◌, only}
use Rattle.calculus.specs.Inner.Trace.{part_walk, Gathered, Ends, Tensors, Withs}
use Rattle.calculus.specs.Inner.Surely.{Traced}
use Rattle.calculus.proofs.SurelyByList.{traced_0, traced_⊸, traced_side, traced_rule, traced_item}
use Rattle.calculus.proofs.WalkExact.{walk_both, walk_lent, walk_side, walk_none, walk_unfit, walk_deep, walk_use, along_walk, trace_along}
use Rattle.lines.specs.declared.LineSet.{LineSet}
use Rattle.lines.specs.Set.{member, Words}
use Rattle.lines.specs.Count.{bit}
use Rattle.lines.proofs.CountLaws.{bit_one}
use Rattle.card.specs.declared.faults.Refusal.{Refusal}
use Rattle.card.specs.Verdict.{where_of, number_of, step}
use Rattle.scope.specs.Inner.Sets.{LinesOf}
use Rattle.summary.specs.declared.Position.{Position}
use Rattle.summary.specs.declared.Summary.{Summary}
use Rattle.summary.specs.Inner.Values.{MetCounted, on_b, lent_p, stepped_b, ended_w, tensor_w, pick_w, with_w, without_s, using_w}
use Rattle.summary.specs.Inner.Walks.{from, gathered, EndsWith, StopsWith, CannotChoose}
use Rattle.summary.proofs.SummariesGather.{ended_gathers, never_gathers, tensor_gathers, with_gathers, lend_gathers, item_gathers}
use Rattle.summary.proofs.SummariesGather.{rule_gathers}
use Rattle.summary.proofs.CountsKept.{ended_counted, tensor_counted, with_counted, without_counted, using_counted}
use Rattle.summary.proofs.SurelyKept.{none_sure, tensor_sure, with_sure, using_sure}

-- The given steps

-- the next of the given steps, if there is one
pub from_next : (steps : List ℕ) (b : Position) → b.at < b.given → b.given ≤ length steps
    → from steps b b.at ≡ get_or steps b.at 0 ∷ from steps b (b.at + 1)
unfolding from
from_next steps b h k =
    drop-cons (take b.given steps) b.at 0 (let l = length-take-le b.given steps k in omega arith)
    ∙ ap₂ (λ e n. e ∷ drop n (take b.given steps)) (get_or-take b.given steps b.at 0 h) (sym (add-one b.at))

pub from_none : (steps : List ℕ) (b : Position) → b.given ≤ b.at → b.given ≤ length steps → from steps b b.at ≡ []
unfolding from
from_none steps b h k = drop_of_length-le (take b.given steps) {i = b.at} (let l = length-take-le b.given steps k in omega arith)

ahead : (steps : List ℕ) (b : Position) (n : ℕ) → b.given ≤ length steps → length (from steps b n) ≡ b.given - n
unfolding from
ahead steps b n h = let l = length-take-le b.given steps h in omega (arith, length-drop n (take b.given steps))

-- a use is nested one deeper
nested : {n : ℕ} {es : Scope} {p : Part} {g : Gathered} {U : Items} → 1 ≤ n → Traced (suc (n - 1)) es p g U → Traced n es p g U
nested {n} {es} {p} {g} {U} h t = subst (λ m. Traced m es p g U) (omega arith) t

module _ {steps : List ℕ} {b : Position} {es : Scope} where
  -- No step is taken

  pub ends_here : {strict : LineSet} {p : Part} (slack : Bool) → b.at ≤ b.given → ((w : Gathered) → Ends w slack → Traced b.depth es p w ∅)
      → EndsWith strict steps b es p (ended_w b slack true)
  ends_here {strict} slack h c = record {
    onward = omega arith;
    bounded = h;
    list = [];
    along = refl;
    surely = ∅;
    traced = c (gathered b.rules (ended_w b slack true) []) (ended_gathers b.rules b slack);
    counted = ended_counted strict b slack true;
    pace = omega arith;
    sure = none_sure b.rules;
  }

  pub fails_here : {strict : LineSet} → b.at ≤ b.given → EndsWith strict steps b es (goal zeroᴳ) (ended_w b false false)
  fails_here {strict} h = record {
    onward = omega arith;
    bounded = h;
    list = [];
    along = refl;
    surely = ∅;
    traced = traced_0 (never_gathers b.rules b);
    counted = ended_counted strict b false false;
    pace = omega arith;
    sure = none_sure b.rules;
  }

  -- what has ended has gone along its list
  pub ends_walk : {strict : LineSet} {p : Part} {w : Summary} → b.given ≤ length steps → EndsWith strict steps b es p w
      → part_walk b.depth p es b.at (from steps b b.at) ≡ goes w.at (from steps b w.at)
  unfolding gathered
  ends_walk {p = p} {w = w} g k =
      ap (part_walk b.depth p es b.at) (sym k.along)
      ∙ along_walk (trace_along k.traced.trace) b.at (from steps b w.at)
      ∙ ap (λ (i : ℕ). goes i (from steps b w.at)) count
    where
      count : b.at + length k.list ≡ w.at
      count =
          let x = length-append k.list (from steps b w.at) in
          let y = ap length k.along in
          let o = k.onward in
          let u = k.bounded in
          omega (arith, ahead steps b w.at g, ahead steps b b.at g)

  -- Two parts

  module _ {p q r : Part} (parts : Both r p q) {f : Refusal} where
    pub first_stops : StopsWith steps b es p f → StopsWith steps b es r f
    unfolding ◌⨾◌
    first_stops s = record {
      index = s.index;
      place = s.place;
      walk = walk_both b.depth parts es b.at (from steps b b.at) ∙ ap (λ x. x ⨾ part_walk b.depth q es) s.walk;
    }

    pub second_stops : {strict : LineSet} {w : Summary} {met : ℕ} → b.given ≤ length steps → EndsWith strict steps b es p w
        → StopsWith steps (on_b b w.at met) es q f
        → StopsWith steps b es r f
    unfolding ◌⨾◌ from
    second_stops g k s = record {
      index = s.index;
      place = s.place;
      walk =
          walk_both b.depth parts es b.at (from steps b b.at)
          ∙ ap (λ x. x ⨾ part_walk b.depth q es) (ends_walk g k)
          ∙ s.walk;
    }

  module _ {strict : LineSet} {p q r : Part} {w v : Summary} {met : ℕ} (k : EndsWith strict steps b es p w)
      (m : EndsWith strict steps (on_b b w.at met) es q v) where
    both_end : (u : Summary) {U : Items} → u.at ≡ v.at → MetCounted strict b.met u → u.met + b.at ≤ b.met + u.at
        → LinesOf b.rules u.sure U → Traced b.depth es r (gathered b.rules u (k.list ++ m.list)) U → EndsWith strict steps b es r u
    unfolding from
    both_end u {U} e n s z c = record {
      onward = let i = k.onward in let j = m.onward in omega arith;
      bounded = let j = m.bounded in omega arith;
      list = k.list ++ m.list;
      along =
          append_assoc k.list m.list (from steps b u.at)
          ∙ ap (λ n. k.list ++ (m.list ++ from steps b n)) e
          ∙ ap (λ l. k.list ++ l) m.along
          ∙ k.along;
      surely = U;
      traced = c;
      counted = n;
      pace = s;
      sure = z;
    }

    -- the right part was walked from the left one's count
    pub tensor_ends : met ≡ w.met → Words w.used → Words v.used
        → ((x y z : Gathered) (U W : Items) → Tensors z x y → Traced b.depth es p x U → Traced b.depth es q y W
        → Traced b.depth es r z (U ∪ W))
        → EndsWith strict steps b es r (tensor_w w v)
    tensor_ends e x y c =
        both_end (tensor_w w v) refl (tensor_counted strict b.met w k.counted v (rw e at m.counted))
        (let i = k.pace in let j = m.pace in omega (arith, i, j, e)) (tensor_sure k.sure m.sure)
        (c _ _ _ _ _ (tensor_gathers b.rules w v k.list m.list x y) k.traced m.traced)

    -- the right side was walked from the same count
    pub with_ends : met ≡ b.met → Words w.used → Words v.used
        → ((x y z : Gathered) (U W : Items) → Withs es z x y → Traced b.depth es p x U → Traced b.depth es q y W
        → Traced b.depth es r z (U ∩ W))
        → EndsWith strict steps b es r (with_w w v)
    unfolding pick_w
    with_ends e x y c =
        both_end (with_w w v) refl (with_counted strict b.met w k.counted v (rw e at m.counted)) (by w.slack)
        (with_sure k.sure m.sure) (c _ _ _ _ _ (with_gathers b.rules w v k.list m.list x y es) k.traced m.traced)
      where
        by : (slack : Bool) → cond slack v.met w.met + b.at ≤ b.met + v.at
        by true = let i = k.onward in let j = m.pace in omega (arith, i, j, e)
        by false = let i = k.pace in let j = m.onward in omega (arith, i, j)

  -- A lend

  pub lend_ends : {strict : LineSet} {D : Clause} {G : Goal} {w : Summary} → b.rules ≤ b.count → size es ≡ b.count
      → member strict (b.count - b.rules) ≡ false → EndsWith strict steps (lent_p b) (lend es D) (goal G) w
      → EndsWith strict steps b es (goal (lolliᴳ D G)) (without_s w (b.count - b.rules))
  unfolding from
  lend_ends {strict = strict} {w = w} h q n k = record {
    onward = k.onward;
    bounded = k.bounded;
    list = k.list;
    along = k.along;
    surely = k.surely;
    traced = traced_⊸ (lend_gathers b.rules b.count h w k.list es q) k.traced;
    counted = without_counted strict b.met w k.counted (b.count - b.rules) n;
    pace = k.pace;
    sure = k.sure;
  }

  pub lend_stops : {D : Clause} {G : Goal} {f : Refusal} → StopsWith steps (lent_p b) (lend es D) (goal G) f
      → StopsWith steps b es (goal (lolliᴳ D G)) f
  unfolding from
  lend_stops {D} {G} s = record {
    index = s.index;
    place = s.place;
    walk = walk_lent b.depth D G es b.at (from steps b b.at) ∙ s.walk;
  }

  -- A choice

  module _ {p q : Part} {c : ℕ} (side : Side es p c q) (next : from steps b b.at ≡ c ∷ from steps b (b.at + 1)) where
    pub side_ends : {strict : LineSet} {w : Summary} → EndsWith strict steps (on_b b (b.at + 1) b.met) es q w → EndsWith strict steps b es p w
    unfolding from
    side_ends {w = w} k = record {
      onward = let o = k.onward in omega arith;
      bounded = k.bounded;
      list = c ∷ k.list;
      along = ap (λ l. c ∷ l) k.along ∙ sym next;
      surely = k.surely;
      traced = traced_side side (rule_gathers b.rules c w k.list) k.traced;
      counted = k.counted;
      pace = let o = k.pace in omega arith;
      sure = k.sure;
    }

    pub side_stops : {f : Refusal} → StopsWith steps (on_b b (b.at + 1) b.met) es q f → StopsWith steps b es p f
    unfolding from
    side_stops s = record {
      index = s.index;
      place = s.place;
      walk =
          ap (part_walk b.depth p es b.at) next
          ∙ walk_side b.depth es side b.at (from steps b (b.at + 1))
          ∙ s.walk;
    }

  -- what is wrong at a choice
  module _ {f : Refusal} where
    pub one_of_stops : {G H : Goal} → CannotChoose steps b true true f → StopsWith steps b es (goal (oplus G H)) f
    unfolding part_walk goal_walk
    one_of_stops n = record { index = b.at; place = n.place; walk = n.walk _ _ }

    pub menu_stops : {a : ℕ} {D E : Clause} → CannotChoose steps b (usable es.fits a D) (usable es.fits a E) f
        → StopsWith steps b es (meet a (withᴰ D E)) f
    unfolding part_walk clause_walk
    menu_stops n = record { index = b.at; place = n.place; walk = n.walk _ _ }

  -- A use

  module _ {a e : ℕ} (deep : 1 ≤ b.depth) (next : from steps b b.at ≡ e ∷ from steps b (b.at + 1)) where
    module _ {strict : LineSet} {w : Summary} (k : EndsWith strict steps (stepped_b b 1) es (meet a (clause_at es e)) w) where
      pub rule_ends : linear_at es e ≡ false → EndsWith strict steps b es (goal (atomᴳ a)) w
      unfolding from
      rule_ends q = record {
        onward = let o = k.onward in omega arith;
        bounded = k.bounded;
        list = e ∷ k.list;
        along = ap (λ l. e ∷ l) k.along ∙ sym next;
        surely = k.surely;
        traced = nested deep (traced_rule q (rule_gathers b.rules e w k.list) k.traced);
        counted = k.counted;
        pace = let o = k.pace in omega arith;
        sure = k.sure;
      }

      -- the step pays for a must line
      pub item_ends : linear_at es e ≡ true → b.rules ≤ e → e - b.rules < 192 → (due : ℕ) → due ≡ bit (member strict (e - b.rules))
          → EndsWith strict steps b es (goal (atomᴳ a)) (using_w w (e - b.rules) due)
      unfolding from
      item_ends q low few due ed = record {
        onward = let o = k.onward in omega arith;
        bounded = k.bounded;
        list = e ∷ k.list;
        along = ap (λ l. e ∷ l) k.along ∙ sym next;
        surely = only e ∪ k.surely;
        traced = nested deep (traced_item q (item_gathers b.rules e low w k.list due few) k.traced);
        counted = using_counted strict b.met w k.counted (e - b.rules) due ed;
        pace = let o = k.pace in let d = bit_one (member strict (e - b.rules)) in omega (arith, o, d, ed);
        sure = using_sure low k.sure;
      }

    pub use_stops : usable es.fits a (clause_at es e) ≡ true → {f : Refusal}
        → StopsWith steps (stepped_b b 1) es (meet a (clause_at es e)) f → StopsWith steps b es (goal (atomᴳ a)) f
    unfolding from
    use_stops u {f} s = record {
      index = s.index;
      place = s.place;
      walk =
          subst (λ n. part_walk n (goal (atomᴳ a)) es b.at (from steps b b.at) ≡ stops (number_of f.fault) s.index)
          (let d = deep in omega arith)
          (ap (part_walk (suc (b.depth - 1)) (goal (atomᴳ a)) es b.at) next
          ∙ walk_use (b.depth - 1) a es b.at e (from steps b (b.at + 1)) u ∙ s.walk);
    }

  -- What is wrong at a name

  module _ {a : ℕ} {f : Refusal} (here : where_of f.place ≡ step b.at) where
    stops_here : {m : ℕ} → number_of f.fault ≡ m → part_walk b.depth (goal (atomᴳ a)) es b.at (from steps b b.at) ≡ stops m b.at
        → StopsWith steps b es (goal (atomᴳ a)) f
    stops_here n w = record { index = b.at; place = here; walk = rw n w }

    pub none_left : number_of f.fault ≡ 18 → from steps b b.at ≡ [] → StopsWith steps b es (goal (atomᴳ a)) f
    none_left n z = stops_here n (ap (part_walk b.depth (goal (atomᴳ a)) es b.at) z ∙ walk_none b.depth a es b.at)

    module _ {e : ℕ} (next : from steps b b.at ≡ e ∷ from steps b (b.at + 1)) where
      pub unfit : number_of f.fault ≡ 13 → usable es.fits a (clause_at es e) ≡ false → StopsWith steps b es (goal (atomᴳ a)) f
      unfit n u = stops_here n (ap (part_walk b.depth (goal (atomᴳ a)) es b.at) next
          ∙ walk_unfit b.depth a es b.at e (from steps b (b.at + 1)) u)

      pub too_deep : number_of f.fault ≡ 17 → usable es.fits a (clause_at es e) ≡ true → b.depth ≡ 0
          → StopsWith steps b es (goal (atomᴳ a)) f
      too_deep n u z = stops_here n (ap₂ (λ m l. part_walk m (goal (atomᴳ a)) es b.at l) z next
          ∙ walk_deep a es b.at e (from steps b (b.at + 1)) u)
