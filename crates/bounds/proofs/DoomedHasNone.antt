-- THEOREM. An agenda that the table dooms has no list in its window and room, under any eligibility and floor; and the table's least steps
-- of an agenda may be kept free for it.
use Prim.Native.Nat.{ℕ, zero, suc, ◌-◌, ◌/◌, ◌≤◌, ◌<◌}
use native.Mathlib.Omega.{arith}
use mathlib.Core.Path.{◌≡◌}
use mathlib.Core.Bool.{Bool}
use mathlib.Core.List.{List}
use lib.ListN.{get_or}
use Rattle.lines.specs.declared.LineSet.{LineSet}
use Rattle.lines.specs.Set.{join_s}
use Rattle.card.specs.Format.{rule_count}
use Rattle.card.specs.Fault.{Sound}
use Rattle.card.specs.Decode.{scope_of}
use Rattle.scope.specs.Inner.Sets.{items}
use Rattle.scope.specs.Inner.Tables.{table_scope, TableEntered}
use Rattle.scope.proofs.SetsAreItems.{items_join}
use Rattle.agenda.specs.Inner.Sought.{Place, None, Spares}
use Rattle.segment.specs.Inner.Tasks.{node_of, task_of, agenda_of}
use Rattle.bounds.specs.Inner.Bound.{least_a, low_a, high_a, LendsA, too_long, too_few, too_many}
use Rattle.bounds.specs.Inner.Table.{classes, OfCard, Settled, names_of, class_of}
use Rattle.bounds.specs.Inner.Doom.{Coded, ScopeOfCard, task_sum, least_sum, low_sum, high_sum, Short, few, many, Doomed, long, short}
use Rattle.bounds.proofs.NodesBounded.{goal_under, goal_lends, closed}
use Rattle.bounds.proofs.AgendasBounded.{hopeless_none, least_spares}
use Rattle.bounds.proofs.StockCounted.{stock_scoped, stock_counts}

coded_less : {bs codes : List ℕ} {n : ℕ} → Coded bs codes (suc n) → Coded bs codes n
coded_less g = record { goals = λ k h. g.goals k (omega arith) }

module _ {bs names t masks : List ℕ} (s : Sound bs) (z : Settled bs names t masks) (codes : List ℕ) where
  agenda_lends : (n : ℕ) → Coded bs codes n → LendsA (OfCard bs) (agenda_of bs codes n)
  unfolding LendsA agenda_of task_of node_of
  agenda_lends zero g = tt
  agenda_lends (suc n) g =
      let i = get_or codes n 0 / 32 in (goal_lends s z (suc i) i (omega arith) (g.goals n (omega arith)), agenda_lends n (coded_less g))

  module _ (c : ℕ) (q : c < classes names) where
    least_under : (n : ℕ) → Coded bs codes n → least_sum t codes n ≤ least_a (class_of names c) (names_of names t c) (agenda_of bs codes n)
    unfolding least_sum task_sum least_a agenda_of task_of node_of
    least_under zero g = omega arith
    least_under (suc n) g =
        let i = get_or codes n 0 / 32 in
        let x = (goal_under s z c q (suc i) i (omega arith) (g.goals n (omega arith))).long in
        let y = least_under n (coded_less g) in
        omega arith

    low_under : (n : ℕ) → Coded bs codes n → low_sum t codes c n ≤ low_a (class_of names c) (names_of names t c) (agenda_of bs codes n)
    unfolding low_sum task_sum low_a agenda_of task_of node_of
    low_under zero g = omega arith
    low_under (suc n) g =
        let i = get_or codes n 0 / 32 in
        let x = (goal_under s z c q (suc i) i (omega arith) (g.goals n (omega arith))).some in
        let y = low_under n (coded_less g) in
        omega arith

    high_under : (n : ℕ) → Coded bs codes n → high_sum t codes c n < 255
        → high_a (class_of names c) (names_of names t c) (agenda_of bs codes n) ≤ high_sum t codes c n
    unfolding high_sum task_sum high_a agenda_of task_of node_of
    high_under zero g h = omega arith
    high_under (suc n) g h =
        let i = get_or codes n 0 / 32 in
        let x = (goal_under s z c q (suc i) i (omega arith) (g.goals n (omega arith))).few (omega arith) in
        let y = high_under n (coded_less g) (omega arith) in
        omega arith

  module _ {nodes : List ℕ} {linear : List Bool} {n : ℕ} (en : TableEntered bs nodes linear n) (k : ScopeOfCard bs nodes linear n)
      (len : ℕ) (g : Coded bs codes len) where
    pub doomed_none : (eligible : List ℕ → ℕ → Bool) (p : Place) (strict lax : LineSet)
        → p.strict ≡ items (rule_count bs) strict → p.lax ≡ items (rule_count bs) lax
        → Doomed bs names t masks nodes codes len n strict lax p.room
        → None eligible (table_scope bs nodes linear n) (agenda_of bs codes len) p
    doomed_none eligible p strict lax e f (long h) =
        let u = least_under 0 z.some len g in
        hopeless_none (OfCard bs) (scope_of bs).fits (class_of names 0) (names_of names t 0) (closed s z 0 z.some)
        (stock_scoped k) (agenda_lends len g) eligible p (too_long (omega arith))
    doomed_none eligible p strict lax e f (short u) = uneven u.class u.known u.uneven
      where
        uneven : (c : ℕ) → c < classes names → Short bs names t masks nodes codes len n strict lax c
            → None eligible (table_scope bs nodes linear n) (agenda_of bs codes len) p
        uneven c q (few h) =
            hopeless_none (OfCard bs) (scope_of bs).fits (class_of names c) (names_of names t c) (closed s z c q)
            (stock_scoped k) (agenda_lends len g) eligible p
            (too_few
            (rw (e, f, ← items_join (rule_count bs) strict lax)
            (omega (arith, stock_counts s z en k c q (join_s strict lax), low_under c q len g))))
        uneven c q (many h m) =
            let u = high_under c q len g h in
            hopeless_none (OfCard bs) (scope_of bs).fits (class_of names c) (names_of names t c) (closed s z c q)
            (stock_scoped k) (agenda_lends len g) eligible p
            (too_many (omega arith) (rw e (omega (arith, stock_counts s z en k c q strict))))

    pub spared_leaves : (room r : ℕ) → r ≤ least_sum t codes len → Spares (table_scope bs nodes linear n) (agenda_of bs codes len) room (room - r)
    spared_leaves room r h =
        let u = least_under 0 z.some len g in
        least_spares (OfCard bs) (scope_of bs).fits (class_of names 0) (names_of names t 0) (closed s z 0 z.some)
        (stock_scoped k) (agenda_lends len g) room r (omega arith)
