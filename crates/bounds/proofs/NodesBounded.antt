-- THEOREM. A settled table's bounds at a node are bounds of the goal there, or of a recipe's conditions, from the bounds of the names; and
-- these allow every use of a clause of the card.
use Prim.Native.Nat.{ℕ, zero, suc, max, min, ◌+◌, ◌-◌, ◌≤◌, ◌<◌}
use native.Mathlib.Omega.{arith}
use native.Mathlib.Decide.{dec_le}
use mathlib.Core.Path.{◌≡◌, refl, sym, ap, ap₂, ◌∙◌, subst}
use mathlib.Core.Logic.{◌⊎◌, ⊎_elim}
use mathlib.Core.Bool.{Bool, true, false, cond, ◌&&◌}
use mathlib.Core.List.{List}
use lib.Dec.{leb}
use borrow.Author.Tests.{leb-true}
use Rattle.calculus.specs.Formula.{Goal, Clause, atomᴳ, topᴳ, oneᴳ, zeroᴳ, tensor, with, oplus, lolliᴳ}
use Rattle.card.specs.Format.{node_count, kind_at, left_at, right_at}
use Rattle.card.specs.Fault.{Sound, goal_part, clause_part}
use Rattle.card.specs.Decode.{goal_at, clause_of, scope_of}
use Rattle.card.proofs.NodesDecoded.{reads_name, reads_rest, reads_done, reads_never}
use Rattle.card.proofs.SoundNodes.{goal_lower, goal_kind, clause_lower, clause_kind, goal_above, clause_above, both_parts}
use Rattle.card.proofs.SoundNodes.{either_parts, one_of_parts, lend_parts, recipe_parts, menu_parts, sound_both, sound_either}
use Rattle.card.proofs.SoundNodes.{sound_one_of, sound_lend, sound_recipe, sound_menu}
use Rattle.lines.specs.Count.{bit}
use Rattle.bounds.specs.Inner.Bound.{off, least_g, low_g, high_g, Admits, Allows, Settles}
use Rattle.bounds.specs.Inner.Bound.{LendsG, LendsD, Closed}
use Rattle.bounds.specs.Inner.Table.{head_of, menu_code, takes_in, head_at, row_of, class_at, classes, low_at, high_at, least_at, by_kind}
use Rattle.bounds.specs.Inner.Table.{in_class, head_step, least_step, low_step, high_step}
use Rattle.bounds.specs.Inner.Table.{NodeFits, HeadFits, WaysFit, NodeSettled, UseSettled, lent, OfCard, Settled, names_of, class_of}
use Rattle.bounds.proofs.GoalsBounded.{off_below}

-- what is shown of a node: bounds of a goal or of conditions
pub record Under (least low high least' low' high' : ℕ) : Type 0 where
  pub long : least ≤ least'
  pub some : low ≤ low'
  pub few : high < 255 → high' ≤ high

-- a greatest number less an item that is taken for sure grows with it
off_mono : (h g : ℕ) (b : Bool) → (h < 255 → g ≤ h) → off h b < 255 → off g b ≤ off h b
unfolding off
off_mono h g b p k =
    let o = off_below h b k in
    let q = p o.0 in
    at (leb 255 g) refl o.1
  where
    at : (c : Bool) → leb 255 g ≡ c → off h b ≡ h - bit b → cond c g (g - bit b) ≤ off h b
    at true e d = absurd (omega (arith, leb-true 255 g e, (off_below h b k).0, p (off_below h b k).0))
    at false e d = omega (arith, p (off_below h b k).0)

-- the kinds of goals, one by one
six : (k : ℕ) (A : Type 0) → 1 ≤ k → k ≤ 6 → (k ≡ 1 → A) → (k ≡ 2 → A) → (k ≡ 3 → A) → (k ≡ 4 → A) → (k ≡ 5 → A) → (k ≡ 6 → A) → A
six zero A l h a b c d e f = absurd (omega arith)
six (suc zero) A l h a b c d e f = a refl
six (suc (suc zero)) A l h a b c d e f = b refl
six (suc (suc (suc zero))) A l h a b c d e f = c refl
six (suc (suc (suc (suc zero)))) A l h a b c d e f = d refl
six (suc (suc (suc (suc (suc zero))))) A l h a b c d e f = e refl
six (suc (suc (suc (suc (suc (suc zero)))))) A l h a b c d e f = f refl
six (suc (suc (suc (suc (suc (suc (suc k))))))) A l h a b c d e f = absurd (omega arith)

goal_kinds : (k : ℕ) (A : Type 0) → (1 ≤ k) × ((k ≤ 6) ⊎ ((k ≡ 8) ⊎ (k ≡ 9)))
    → (k ≡ 1 → A) → (k ≡ 2 → A) → (k ≡ 3 → A) → (k ≡ 4 → A) → (k ≡ 5 → A) → (k ≡ 6 → A) → (k ≡ 8 → A) → (k ≡ 9 → A) → A
goal_kinds k A g a b c d e f one_of_lem never = ⊎_elim (λ h. six k A g.0 h a b c d e f) (⊎_elim one_of_lem never) g.1

-- the bounds at the node are bounds of the goal, of the clause's conditions
abbrev pub GoalUnder : List ℕ → List ℕ → ℕ → ℕ → Goal → Type 0
GoalUnder names t c j G =
    let K = class_of names c in
    let T = names_of names t c in
    Under (least_at t j) (low_at t j c) (high_at t j c) (least_g K T G) (low_g K T G) (high_g K T G)

-- the bounds of a head take in less
head_takes : (names t : List ℕ) (c a : ℕ) {u v w u' v' w' : ℕ} → u ≤ u' → v ≤ v' → (w < 255 → w' ≤ w)
    → HeadFits names t a c u v w → Admits (class_of names c) (names_of names t c) a u' v' w'
unfolding names_of
head_takes names t c a x y j f = record {
  least = omega (arith, f.least);
  low = omega (arith, f.low);
  high = λ m. let g = f.high (omega arith) in omega (arith, j (omega arith));
}

-- One node, from its parts
module _ (bs names t : List ℕ) (c i : ℕ) (w : NodeSettled bs names t i) (f : NodeFits bs names t i c) where
  name_under : kind_at bs i ≡ 1 → GoalUnder names t c i (atomᴳ (left_at bs i))
  unfolding least_step low_step high_step by_kind least_g low_g high_g names_of
  name_under k =
      let a : least_step bs names t i ≡ least_at t (row_of names (left_at bs i)) = rw k refl in
      let b : low_step bs names t i c ≡ low_at t (row_of names (left_at bs i)) c = rw k refl in
      let d : high_step bs names t i c ≡ high_at t (row_of names (left_at bs i)) c = rw k refl in
      record { long = omega (arith, w.least); some = omega (arith, f.low); few = λ h. omega (arith, f.high h) }

  rest_under : kind_at bs i ≡ 2 → GoalUnder names t c i topᴳ
  unfolding least_step low_step high_step by_kind least_g low_g high_g
  rest_under k =
      let a : least_step bs names t i ≡ 0 = rw k refl in
      let b : low_step bs names t i c ≡ 0 = rw k refl in
      let d : high_step bs names t i c ≡ 255 = rw k refl in
      record { long = omega (arith, w.least); some = omega (arith, f.low); few = λ h. omega (arith, f.high h) }

  done_under : kind_at bs i ≡ 3 → GoalUnder names t c i oneᴳ
  unfolding least_step low_step high_step by_kind least_g low_g high_g
  done_under k =
      let a : least_step bs names t i ≡ 0 = rw k refl in
      let b : low_step bs names t i c ≡ 0 = rw k refl in
      record { long = omega (arith, w.least); some = omega (arith, f.low); few = λ h. omega arith }

  never_under : kind_at bs i ≡ 9 → GoalUnder names t c i zeroᴳ
  unfolding least_step low_step high_step by_kind least_g low_g high_g
  never_under k =
      let a : least_step bs names t i ≡ 255 = rw k refl in
      let b : low_step bs names t i c ≡ 255 = rw k refl in
      record { long = omega (arith, w.least); some = omega (arith, f.low); few = λ h. omega arith }

  module _ (G H : Goal) (x : GoalUnder names t c (left_at bs i) G) (y : GoalUnder names t c (right_at bs i) H) where
    both_under : kind_at bs i ≡ 4 → GoalUnder names t c i (tensor G H)
    unfolding least_step low_step high_step by_kind least_g low_g high_g
    both_under k =
        let a : least_step bs names t i ≡ least_at t (left_at bs i) + least_at t (right_at bs i) = rw k refl in
        let b : low_step bs names t i c ≡ low_at t (left_at bs i) c + low_at t (right_at bs i) c = rw k refl in
        let d : high_step bs names t i c ≡ high_at t (left_at bs i) c + high_at t (right_at bs i) c = rw k refl in
        record {
          long = omega (arith, w.least, x.long, y.long);
          some = omega (arith, f.low, x.some, y.some);
          few = λ h. let g = f.high h in omega (arith, x.few (omega arith), y.few (omega arith));
        }

    either_under : kind_at bs i ≡ 5 → GoalUnder names t c i (with G H)
    unfolding least_step low_step high_step by_kind least_g low_g high_g
    either_under k =
        let a : least_step bs names t i ≡ least_at t (left_at bs i) + least_at t (right_at bs i) = rw k refl in
        let b : low_step bs names t i c ≡ max (low_at t (left_at bs i) c) (low_at t (right_at bs i) c) = rw k refl in
        let d : high_step bs names t i c ≡ min (high_at t (left_at bs i) c) (high_at t (right_at bs i) c) = rw k refl in
        record {
          long = omega (arith, w.least, x.long, y.long);
          some = omega (arith, f.low, x.some, y.some);
          few = λ h. let g = f.high h in at h (dec_le (high_at t (left_at bs i) c) (high_at t (right_at bs i) c)) (omega arith);
        }
      where
        at : high_at t i c < 255 → Dec (high_at t (left_at bs i) c ≤ high_at t (right_at bs i) c)
            → min (high_at t (left_at bs i) c) (high_at t (right_at bs i) c) ≤ high_at t i c
            → min (high_g (class_of names c) (names_of names t c) G) (high_g (class_of names c) (names_of names t c) H) ≤ high_at t i c
        at h (yes q) g = omega (arith, x.few (omega arith))
        at h (no q) g = omega (arith, y.few (omega arith))

    one_of_under : kind_at bs i ≡ 8 → GoalUnder names t c i (oplus G H)
    unfolding least_step low_step high_step by_kind least_g low_g high_g
    one_of_under k =
        let a : least_step bs names t i ≡ suc (min (least_at t (left_at bs i)) (least_at t (right_at bs i))) = rw k refl in
        let b : low_step bs names t i c ≡ min (low_at t (left_at bs i) c) (low_at t (right_at bs i) c) = rw k refl in
        let d : high_step bs names t i c ≡ max (high_at t (left_at bs i) c) (high_at t (right_at bs i) c) = rw k refl in
        record {
          long = omega (arith, w.least, x.long, y.long);
          some = omega (arith, f.low, x.some, y.some);
          few = λ h. let g = f.high h in omega (arith, x.few (omega arith), y.few (omega arith));
        }

  module _ (D : Clause) (G : Goal) (e : head_at names (left_at bs i) ≡ head_of D) (y : GoalUnder names t c (right_at bs i) G) where
    lend_under : kind_at bs i ≡ 6 → GoalUnder names t c i (lolliᴳ D G)
    unfolding least_step low_step high_step by_kind least_g low_g high_g in_class class_of
    lend_under k =
        let j : Bool = takes_in (class_at names c) (head_of D) in
        let a : least_step bs names t i ≡ least_at t (right_at bs i) = rw k refl in
        let b : low_step bs names t i c ≡ low_at t (right_at bs i) c - bit j = rw (k, e) refl in
        let d : high_step bs names t i c ≡ off (high_at t (right_at bs i) c) j = rw (k, e) refl in
        record {
          long = omega (arith, w.least, y.long);
          some = omega (arith, f.low, y.some);
          few = λ h.
              let g = f.high h in
              omega (arith, off_mono (high_at t (right_at bs i) c) (high_g (class_of names c) (names_of names t c) G) j y.few (omega arith));
        }

module _ {bs names t masks : List ℕ} (s : Sound bs) (z : Settled bs names t masks) where
  abbrev N : ℕ
  N = node_count bs

  -- heads
  head_at_lem : (n i : ℕ) → i < n → clause_part bs N i ≡ true → head_at names i ≡ head_of (clause_of bs i)
  unfolding head_step by_kind head_of
  head_at_lem zero i h p = absurd (omega arith)
  head_at_lem (suc n) i h p =
      let low : i < N = clause_lower bs N i p in
      let part : (j : ℕ) → clause_part bs i j ≡ true → head_at names j ≡ head_of (clause_of bs j) =
      λ j g. head_at_lem n j (omega (arith, clause_lower bs i j g)) (clause_above bs i j N (omega (arith, low)) g) in
      let own = (z.nodes i low).head in
      ⊎_elim
      (λ k. own ∙ (rw k refl) ∙ sym (ap head_of (reads_name bs i k).1))
      (⊎_elim
      (λ k. own ∙ (rw k refl) ∙ sym (ap head_of (reads_rest bs i k).1))
      (⊎_elim
      (λ k. own ∙ (rw k refl) ∙ part (right_at bs i) (recipe_parts s i low k).1 ∙ sym (ap head_of (sound_recipe s i low k)))
      (λ k.
      let g = menu_parts s i low k in
      own ∙ (rw k refl) ∙ ap₂ menu_code (part (left_at bs i) g.0) (part (right_at bs i) g.1) ∙ sym (ap head_of (sound_menu s i low k)))))
      (clause_kind bs N i p)

  module _ (c : ℕ) (q : c < classes names) where
    pub goal_under : (n i : ℕ) → i < n → goal_part bs N i ≡ true → GoalUnder names t c i (goal_at bs i)
    goal_under zero i h p = absurd (omega arith)
    goal_under (suc n) i h p =
        let low : i < N = goal_lower bs N i p in
        let w = z.nodes i low in
        let f = w.class c q in
        let part : (j : ℕ) → goal_part bs i j ≡ true → GoalUnder names t c j (goal_at bs j) =
        λ j g. goal_under n j (omega (arith, goal_lower bs i j g)) (goal_above bs i j N (omega (arith, low)) g) in
        goal_kinds (kind_at bs i) (GoalUnder names t c i (goal_at bs i)) (goal_kind bs N i p)
        (λ k. rw (reads_name bs i k).0 (name_under bs names t c i w f k))
        (λ k. rw (reads_rest bs i k).0 (rest_under bs names t c i w f k))
        (λ k. rw (reads_done bs i k) (done_under bs names t c i w f k))
        (λ k.
        let g = both_parts s i low k in
        rw (sound_both s i low k) (both_under bs names t c i w f _ _ (part (left_at bs i) g.0) (part (right_at bs i) g.1) k))
        (λ k.
        let g = either_parts s i low k in
        rw (sound_either s i low k) (either_under bs names t c i w f _ _ (part (left_at bs i) g.0) (part (right_at bs i) g.1) k))
        (λ k.
        let g = lend_parts s i low k in
        let l = clause_lower bs i (left_at bs i) g.0 in
        rw (sound_lend s i low k)
        (lend_under bs names t c i w f _ _
        (head_at_lem (suc (left_at bs i)) (left_at bs i) (omega arith) (clause_above bs i (left_at bs i) N (omega (arith, low)) g.0))
        (part (right_at bs i) g.1) k))
        (λ k.
        let g = one_of_parts s i low k in
        rw (sound_one_of s i low k) (one_of_under bs names t c i w f _ _ (part (left_at bs i) g.0) (part (right_at bs i) g.1) k))
        (λ k. rw (reads_never bs i k) (never_under bs names t c i w f k))

    -- every way to a head of a clause, by the table and by the bounds of its conditions
    ways_allow : (a n i : ℕ) → i < n → clause_part bs N i ≡ true → (u v w u' v' w' : ℕ) → u ≤ u' → v ≤ v' → (w < 255 → w' ≤ w)
        → WaysFit bs names t (clause_of bs i) i c u v w
        → Allows (class_of names c) (names_of names t c) (scope_of bs).fits a (clause_of bs i) u' v' w'
    unfolding WaysFit Allows
    ways_allow a zero i h p u v w u' v' w' x y j = absurd (omega arith)
    ways_allow a (suc n) i h p u v w u' v' w' x y j =
        let low : i < N = clause_lower bs N i p in
        let part : (k : ℕ) → clause_part bs i k ≡ true → (u v w u' v' w' : ℕ) → u ≤ u' → v ≤ v' → (w < 255 → w' ≤ w)
        → WaysFit bs names t (clause_of bs k) k c u v w → Allows (class_of names c) (names_of names t c) (scope_of bs).fits a (clause_of bs k) u' v' w' =
        λ k g. ways_allow a n k (omega (arith, clause_lower bs i k g)) (clause_above bs i k N (omega (arith, low)) g) in
        ⊎_elim
        (λ k. rw (reads_name bs i k).1 (λ f e. head_takes names t c a x y j (f a e)))
        (⊎_elim
        (λ k. rw (reads_rest bs i k).1 (λ f. tt))
        (⊎_elim
        (λ k.
        let g = recipe_parts s i low k in
        let r =
        goal_under (suc (left_at bs i)) (left_at bs i) (omega arith) (goal_above bs i (left_at bs i) N (omega (arith, low)) g.0) in
        rw (sound_recipe s i low k)
        (part (right_at bs i) g.1 _ _ _ _ _ _ (omega (arith, r.long)) (omega (arith, r.some))
        (λ m. omega (arith, j (omega arith), r.few (omega arith)))))
        (λ k.
        let g = menu_parts s i low k in
        rw (sound_menu s i low k)
        (λ f. (
          part (left_at bs i) g.0 _ _ _ _ _ _ (omega arith) y j f.0,
          part (right_at bs i) g.1 _ _ _ _ _ _ (omega arith) y j f.1,
        )))))
        (clause_kind bs N i p)

  -- what goals and conditions of the card lend is of the card
  pub goal_lends : (n i : ℕ) → i < n → goal_part bs N i ≡ true → LendsG (OfCard bs) (goal_at bs i)
  unfolding LendsG
  goal_lends zero i h p = absurd (omega arith)
  goal_lends (suc n) i h p =
      let low : i < N = goal_lower bs N i p in
      let part : (j : ℕ) → goal_part bs i j ≡ true → LendsG (OfCard bs) (goal_at bs j) =
      λ j g. goal_lends n j (omega (arith, goal_lower bs i j g)) (goal_above bs i j N (omega (arith, low)) g) in
      goal_kinds (kind_at bs i) (LendsG (OfCard bs) (goal_at bs i)) (goal_kind bs N i p)
      (λ k. rw (reads_name bs i k).0 tt)
      (λ k. rw (reads_rest bs i k).0 tt)
      (λ k. rw (reads_done bs i k) tt)
      (λ k. let g = both_parts s i low k in rw (sound_both s i low k) (part (left_at bs i) g.0, part (right_at bs i) g.1))
      (λ k. let g = either_parts s i low k in rw (sound_either s i low k) (part (left_at bs i) g.0, part (right_at bs i) g.1))
      (λ k.
      let g = lend_parts s i low k in
      rw (sound_lend s i low k) (
        record {
          node = left_at bs i;
          here = clause_above bs i (left_at bs i) N (omega (arith, low)) g.0;
          reads = refl;
          origin = lent i (left_at bs i) low k refl;
        },
        part (right_at bs i) g.1,
      ))
      (λ k. let g = one_of_parts s i low k in rw (sound_one_of s i low k) (part (left_at bs i) g.0, part (right_at bs i) g.1))
      (λ k. rw (reads_never bs i k) tt)

  clause_lends : (n i : ℕ) → i < n → clause_part bs N i ≡ true → LendsD (OfCard bs) (clause_of bs i)
  unfolding LendsD
  clause_lends zero i h p = absurd (omega arith)
  clause_lends (suc n) i h p =
      let low : i < N = clause_lower bs N i p in
      let part : (j : ℕ) → clause_part bs i j ≡ true → LendsD (OfCard bs) (clause_of bs j) =
      λ j g. clause_lends n j (omega (arith, clause_lower bs i j g)) (clause_above bs i j N (omega (arith, low)) g) in
      ⊎_elim
      (λ k. rw (reads_name bs i k).1 tt)
      (⊎_elim
      (λ k. rw (reads_rest bs i k).1 tt)
      (⊎_elim
      (λ k.
      let g = recipe_parts s i low k in
      rw (sound_recipe s i low k) (
        part (right_at bs i) g.1,
        goal_lends (suc (left_at bs i)) (left_at bs i) (omega arith) (goal_above bs i (left_at bs i) N (omega (arith, low)) g.0),
      ))
      (λ k. let g = menu_parts s i low k in rw (sound_menu s i low k) (part (left_at bs i) g.0, part (right_at bs i) g.1))))
      (clause_kind bs N i p)

  -- heads of the clauses of the card
  pub head_is : (i : ℕ) → clause_part bs N i ≡ true → head_at names i ≡ head_of (clause_of bs i)
  head_is i p = head_at_lem (suc i) i (omega arith) p

  use_settles : (c : ℕ) → c < classes names → (i : ℕ) (b : Bool) → clause_part bs N i ≡ true → UseSettled bs names t i b → (a : ℕ)
      → Settles (class_of names c) (names_of names t c) (scope_of bs).fits a (clause_of bs i) b
  unfolding Settles class_of in_class
  use_settles c q i b p x a =
      let e = head_is i p in
      let m : bit (b && takes_in (class_at names c) (head_at names i)) ≡ bit (b && takes_in (class_at names c) (head_of (clause_of bs i))) =
      ap (λ d. bit (b && takes_in (class_at names c) d)) e in
      ways_allow c q a (suc i) i (omega arith) p 1 _ _ 1 _ _ (omega arith) (omega arith) (λ h. omega arith) (x.class c q)

  -- THEOREM. The bounds of names allow every use of a clause of the card.
  pub closed : (c : ℕ) → c < classes names → Closed (OfCard bs) (scope_of bs).fits (class_of names c) (names_of names t c)
  closed c q = record {
    settles = λ D b o a.
        subst (λ (E : Clause). Settles (class_of names c) (names_of names t c) (scope_of bs).fits a E b) o.reads
        (use_settles c q o.node b o.here (z.uses o.node b o.origin) a);
    lends = λ D b o. subst (LendsD (OfCard bs)) o.reads (clause_lends (suc o.node) o.node (omega arith) o.here);
  }
