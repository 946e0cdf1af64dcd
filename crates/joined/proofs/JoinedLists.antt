-- A list of each card, its entries renumbered, one behind the other, is a list of the joined card.
use Prim.Native.Nat.{ℕ, ◌+◌, ◌-◌, ◌<◌, ◌≤◌}
use native.Mathlib.Omega.{arith}
use native.Mathlib.Decide.{dec_lt}
use mathlib.Core.Path.{◌≡◌, sym, ◌∙◌, ap, ap₂, subst}
use mathlib.Core.Logic.{◌⊎◌, inl, inr}
use mathlib.Core.Bool.{Bool, true, false, cond, ◌||◌}
use mathlib.Core.List.{List, ◌++◌, map}
use lib.ListN.{length}
use lib.Dec.{ltb}
use borrow.Author.Tests.{lt-ltb, le-ltb}
use Rattle.calculus.specs.Formula.{tensor}
use Rattle.calculus.specs.Items.{◌∪◌}
use Rattle.calculus.specs.Derivation.{Entry, entry_at, clause_at, linear_at}
use Rattle.calculus.specs.Steps.{renumber}
use Rattle.calculus.specs.Job.{Listed}
use Rattle.calculus.specs.Inner.Renaming.{Renaming, over, Beside}
use Rattle.calculus.proofs.JobsBeside.{beside_listed}
use Rattle.card.specs.Format.{rule_count, line_count, step_limit}
use Rattle.card.specs.Fault.{Sound}
use Rattle.card.specs.Decode.{lines_with, scope_of, job_of}
use Rattle.card.proofs.NodesDecoded.{scope_size, rule_at, line_at, line_within, listed_short}
use Rattle.card.proofs.StepsFitAByte.{over_listed}
use Rattle.joined.specs.Joined.{joined_rules, joined_card, overfull}
use Rattle.joined.specs.JoinedJob.{first_entry, second_entry}
use Rattle.joined.proofs.JoinedBytes.{joined_rule_count, joined_line_count, joined_depth_lem, joined_steps_lem}
use Rattle.joined.proofs.JoinedSound.{of_two}
use Rattle.joined.proofs.JoinedAsks.{line_only, first_flag, second_flag, first_rule_same, second_rule_same, first_line_same, second_line_same}
use Rattle.joined.proofs.JoinedAsks.{both_goals_lem}

if_true : {A : Type 0} (t : Bool) (x y : A) → t ≡ true → cond t x y ≡ x
if_true t x y e = ap (λ (u : Bool). cond u x y) e

if_false : {A : Type 0} (t : Bool) (x y : A) → t ≡ false → cond t x y ≡ y
if_false t x y e = ap (λ (u : Bool). cond u x y) e

-- one test of head and name on all cards
fits_alike : (c d : List ℕ) (head wanted : ℕ) → (job_of c).scope.fits head wanted ≡ true → (job_of d).scope.fits head wanted ≡ true
unfolding job_of scope_of
fits_alike c d head wanted h = h

-- a list of a sound card with its entries renumbered
renumbered : {bs l : List ℕ} → Sound bs → (f : ℕ → ℕ) (x : Listed (job_of bs) l) → over f x.derivation.tree ≡ map (renumber f) l
renumbered s f x =
    over_listed s f (record { derivation = x.derivation; limited = x.limited }) ∙ ap (map (renumber f)) x.list

module _ (a b : List ℕ) where
  abbrev J : List ℕ
  J = joined_card a b

  -- which entry of the first card, and of the second, has a joined number
  first_back : ℕ → ℕ
  first_back e =
      cond (ltb e (rule_count a)) e
      (cond (ltb e (joined_rules a b + line_count a)) (e - rule_count b) (e - (rule_count b + line_count b)))

  second_back : ℕ → ℕ
  second_back e = cond (ltb e (joined_rules a b)) (e - rule_count a) (e - (rule_count a + line_count a))

  -- rules, lines and lent clauses of the first
  first_rule : (e : ℕ) → e < rule_count a → first_entry a b e ≡ e
  unfolding first_entry
  first_rule e h = if_true (ltb e (rule_count a)) e _ (lt-ltb e (rule_count a) h)

  first_line : (i : ℕ) → i < line_count a → first_entry a b (rule_count a + i) ≡ rule_count J + i
  unfolding first_entry
  first_line i h =
      let e = rule_count a + i in
      if_false (ltb e (rule_count a)) e _ (le-ltb e (rule_count a) (omega arith))
      ∙ if_true (ltb e (rule_count a + line_count a)) (e + rule_count b) _ (lt-ltb e (rule_count a + line_count a) (omega arith))
      ∙ omega (arith, joined_rule_count a b)

  first_lent : (k : ℕ) → first_entry a b (rule_count a + line_count a + k) ≡ rule_count J + line_count J + k
  unfolding first_entry
  first_lent k =
      let e = rule_count a + line_count a + k in
      if_false (ltb e (rule_count a)) e _ (le-ltb e (rule_count a) (omega arith))
      ∙ if_false (ltb e (rule_count a + line_count a)) (e + rule_count b) _ (le-ltb e (rule_count a + line_count a) (omega arith))
      ∙ omega (arith, joined_rule_count a b, joined_line_count a b)

  -- of the second
  second_rule : (e : ℕ) → e < rule_count b → second_entry a b e ≡ rule_count a + e
  unfolding second_entry
  second_rule e h = if_true (ltb e (rule_count b)) (e + rule_count a) _ (lt-ltb e (rule_count b) h) ∙ omega arith

  second_line : (i : ℕ) → second_entry a b (rule_count b + i) ≡ rule_count J + (line_count a + i)
  unfolding second_entry
  second_line i =
      let e = rule_count b + i in
      if_false (ltb e (rule_count b)) (e + rule_count a) _ (le-ltb e (rule_count b) (omega arith)) ∙ omega (arith, joined_rule_count a b)

  second_lent : (k : ℕ) → second_entry a b (rule_count b + line_count b + k) ≡ rule_count J + line_count J + k
  second_lent k =
      ap (second_entry a b) (omega arith) ∙ second_line (line_count b + k) ∙ omega (arith, joined_line_count a b)

  -- and back
  back_first_rule : (e : ℕ) → e < rule_count a → first_back e ≡ e
  unfolding first_back
  back_first_rule e h = if_true (ltb e (rule_count a)) e _ (lt-ltb e (rule_count a) h)

  back_first_line : (i : ℕ) → i < line_count a → first_back (rule_count J + i) ≡ rule_count a + i
  unfolding first_back
  back_first_line i h =
      let e = rule_count J + i in
      if_false (ltb e (rule_count a)) e _ (le-ltb e (rule_count a) (omega (arith, joined_rule_count a b)))
      ∙ if_true (ltb e (joined_rules a b + line_count a)) (e - rule_count b) _
      (lt-ltb e (joined_rules a b + line_count a) (omega (arith, joined_rule_count a b)))
      ∙ omega (arith, joined_rule_count a b)

  back_first_lent : (k : ℕ) → first_back (rule_count J + line_count J + k) ≡ rule_count a + line_count a + k
  unfolding first_back
  back_first_lent k =
      let e = rule_count J + line_count J + k in
      if_false (ltb e (rule_count a)) e _ (le-ltb e (rule_count a) (omega (arith, joined_rule_count a b)))
      ∙ if_false (ltb e (joined_rules a b + line_count a)) (e - rule_count b) _
      (le-ltb e (joined_rules a b + line_count a) (omega (arith, joined_rule_count a b, joined_line_count a b)))
      ∙ omega (arith, joined_rule_count a b, joined_line_count a b)

  back_second_rule : (e : ℕ) → e < rule_count b → second_back (rule_count a + e) ≡ e
  unfolding second_back
  back_second_rule e h =
      if_true (ltb (rule_count a + e) (joined_rules a b)) (rule_count a + e - rule_count a) _
      (lt-ltb (rule_count a + e) (joined_rules a b) (omega arith))
      ∙ omega arith

  back_second_line : (i : ℕ) → second_back (rule_count J + (line_count a + i)) ≡ rule_count b + i
  unfolding second_back
  back_second_line i =
      let e = rule_count J + (line_count a + i) in
      if_false (ltb e (joined_rules a b)) (e - rule_count a) _ (le-ltb e (joined_rules a b) (omega (arith, joined_rule_count a b)))
      ∙ omega (arith, joined_rule_count a b)

  -- an entry is a rule, a line or a lent clause
  three : (P : ℕ → Type 0) (p t : ℕ) → ((e : ℕ) → e < p → P e) → ((i : ℕ) → i < t → P (p + i)) → ((k : ℕ) → P (p + t + k)) → (e : ℕ) → P e
  three P p t rule line lent e = go (dec_lt e (p + t))
    where
      go : Dec (e < p + t) → P e
      go (yes h) = of_two P p t rule line e h
      go (no n) = subst P (omega arith) (lent (e - (p + t)))

  first_undone : (e : ℕ) → first_back (first_entry a b e) ≡ e
  first_undone =
      three (λ e. first_back (first_entry a b e) ≡ e) (rule_count a) (line_count a)
      (λ e h. ap first_back (first_rule e h) ∙ back_first_rule e h)
      (λ i h. ap first_back (first_line i h) ∙ back_first_line i h)
      (λ k. ap first_back (first_lent k) ∙ back_first_lent k)

  second_undone : (e : ℕ) → second_back (second_entry a b e) ≡ e
  second_undone e = go (dec_lt e (rule_count b))
    where
      go : Dec (e < rule_count b) → second_back (second_entry a b e) ≡ e
      go (yes h) = ap second_back (second_rule e h) ∙ back_second_rule e h
      go (no n) =
          subst (λ (x : ℕ). second_back (second_entry a b x) ≡ x) (omega arith)
          (ap second_back (second_line (e - rule_count b)) ∙ back_second_line (e - rule_count b))

  -- a scope goes over into the joined one where its entries do
  renaming : (bs : List ℕ) (f g : ℕ → ℕ) → ((e : ℕ) → e < rule_count bs + line_count bs → f e < rule_count J + line_count J)
      → ((e : ℕ) → e < rule_count bs + line_count bs → entry_at (job_of J).scope (f e) ≡ entry_at (job_of bs).scope e)
      → ((e : ℕ) → g (f e) ≡ e)
      → ((k : ℕ) → f (rule_count bs + line_count bs + k) ≡ rule_count J + line_count J + k)
      → Renaming (job_of bs).scope (job_of J).scope f g
  unfolding clause_at linear_at
  renaming bs f g within same undone lent =
      record {
        within = λ e h. omega (arith, within e (omega (arith, scope_size bs)), scope_size J);
        clause = λ e h. ap (λ (x : Entry). x.clause) (same e (omega (arith, scope_size bs)));
        linear = λ e h. ap (λ (x : Entry). x.linear) (same e (omega (arith, scope_size bs)));
        fit = fits_alike bs J;
        undone = undone;
        beyond = λ k. ap (λ n. f (n + k)) (scope_size bs) ∙ lent k ∙ ap (λ n. n + k) (sym (scope_size J));
      }

  module _ (s : Sound a) (r : Sound b) where
    -- each entry stands under its joined number
    first_entry_lem : (e : ℕ) → e < rule_count a + line_count a → entry_at (job_of J).scope (first_entry a b e) ≡ entry_at (job_of a).scope e
    first_entry_lem =
        of_two (λ e. entry_at (job_of J).scope (first_entry a b e) ≡ entry_at (job_of a).scope e) (rule_count a) (line_count a)
        (λ e h. ap (entry_at (job_of J).scope) (first_rule e h)
        ∙ rule_at J e (omega (arith, joined_rule_count a b))
        ∙ first_rule_same a b s r e h
        ∙ sym (rule_at a e h))
        (λ i h. ap (entry_at (job_of J).scope) (first_line i h)
        ∙ line_at J i (omega (arith, joined_line_count a b))
        ∙ first_line_same a b s r i h
        ∙ sym (line_at a i h))

    second_entry_lem : (e : ℕ) → e < rule_count b + line_count b → entry_at (job_of J).scope (second_entry a b e) ≡ entry_at (job_of b).scope e
    second_entry_lem =
        of_two (λ e. entry_at (job_of J).scope (second_entry a b e) ≡ entry_at (job_of b).scope e) (rule_count b) (line_count b)
        (λ e h. ap (entry_at (job_of J).scope) (second_rule e h)
        ∙ rule_at J (rule_count a + e) (omega (arith, joined_rule_count a b))
        ∙ second_rule_same a b s r e h
        ∙ sym (rule_at b e h))
        (λ i h. ap (entry_at (job_of J).scope) (second_line i)
        ∙ line_at J (line_count a + i) (omega (arith, joined_line_count a b))
        ∙ second_line_same a b s r i h
        ∙ sym (line_at b i h))

    first_renaming : Renaming (job_of a).scope (job_of J).scope (first_entry a b) first_back
    first_renaming =
        renaming a (first_entry a b) first_back
        (of_two (λ e. first_entry a b e < rule_count J + line_count J) (rule_count a) (line_count a)
        (λ e h. omega (arith, first_rule e h, joined_rule_count a b))
        (λ i h. omega (arith, first_line i h, joined_line_count a b)))
        first_entry_lem first_undone first_lent

    second_renaming : Renaming (job_of b).scope (job_of J).scope (second_entry a b) second_back
    second_renaming =
        renaming b (second_entry a b) second_back
        (of_two (λ e. second_entry a b e < rule_count J + line_count J) (rule_count b) (line_count b)
        (λ e h. omega (arith, second_rule e h, joined_rule_count a b))
        (λ i h. omega (arith, second_line i, joined_line_count a b)))
        second_entry_lem second_undone second_lent

  -- the lines of each are lines of the joined card, as must or may lines as before
  lines_of : (bs : List ℕ) (e : ℕ) → ((job_of bs).strict ∪ (job_of bs).lax) e ≡ true
      → (P : ℕ → Type 0) → ((i : ℕ) → i < line_count bs → ((job_of bs).strict ∪ (job_of bs).lax) (rule_count bs + i) ≡ true → P (rule_count bs + i)) → P e
  lines_of bs e h P f =
      let w = line_only bs e h in
      let q : rule_count bs + (e - rule_count bs) ≡ e = omega (arith, w.0) in
      subst P q (f (e - rule_count bs) (omega (arith, w.0, w.1)) (subst (λ x. ((job_of bs).strict ∪ (job_of bs).lax) x ≡ true) (sym q) h))

  first_lines : (e : ℕ) → ((job_of a).strict ∪ (job_of a).lax) e ≡ true → ((job_of J).strict ∪ (job_of J).lax) (first_entry a b e) ≡ true
  unfolding job_of ◌∪◌
  first_lines e h =
      lines_of a e h (λ x. ((job_of J).strict ∪ (job_of J).lax) (first_entry a b x) ≡ true)
      (λ i l t. ap ((job_of J).strict ∪ (job_of J).lax) (first_line i l) ∙ ap₂ ◌||◌ (first_flag a b 1 i l) (first_flag a b 0 i l) ∙ t)

  second_lines : (e : ℕ) → ((job_of b).strict ∪ (job_of b).lax) e ≡ true → ((job_of J).strict ∪ (job_of J).lax) (second_entry a b e) ≡ true
  unfolding job_of ◌∪◌
  second_lines e h =
      lines_of b e h (λ x. ((job_of J).strict ∪ (job_of J).lax) (second_entry a b x) ≡ true)
      (λ i l t. ap ((job_of J).strict ∪ (job_of J).lax) (second_line i) ∙ ap₂ ◌||◌ (second_flag a b 1 i l) (second_flag a b 0 i l) ∙ t)

  lines_apart : (x y : ℕ) → ((job_of a).strict ∪ (job_of a).lax) x ≡ true → ((job_of b).strict ∪ (job_of b).lax) y ≡ true
      → first_entry a b x ≡ second_entry a b y → ⊥
  lines_apart x y h k =
      lines_of a x h (λ u. first_entry a b u ≡ second_entry a b y → ⊥)
      (λ i l t. lines_of b y k (λ u. first_entry a b (rule_count a + i) ≡ second_entry a b u → ⊥)
      (λ j m u e. omega (arith, e, first_line i l, second_line j)))

  -- each must line of the joined card is one of theirs
  strict_from : (x : ℕ) → (job_of J).strict x ≡ true
      → ((first_entry a b (first_back x) ≡ x) × ((job_of a).strict (first_back x) ≡ true))
      ⊎ ((second_entry a b (second_back x) ≡ x) × ((job_of b).strict (second_back x) ≡ true))
  unfolding job_of
  strict_from x h =
      let w = line_within J 1 x h in
      let q : rule_count J + (x - rule_count J) ≡ x = omega (arith, w.0) in
      subst From q
      (of_two (λ i. lines_with J 1 (rule_count J + i) ≡ true → From (rule_count J + i)) (line_count a) (line_count b)
      from_first from_second (x - rule_count J) (omega (arith, w.0, w.1, joined_line_count a b))
      (subst (λ z. lines_with J 1 z ≡ true) (sym q) h))
    where
      From : ℕ → Type 0
      From z =
          ((first_entry a b (first_back z) ≡ z) × (lines_with a 1 (first_back z) ≡ true))
          ⊎ ((second_entry a b (second_back z) ≡ z) × (lines_with b 1 (second_back z) ≡ true))

      from_first : (i : ℕ) → i < line_count a → lines_with J 1 (rule_count J + i) ≡ true → From (rule_count J + i)
      from_first i l t =
          let q = back_first_line i l in
          inl (ap (first_entry a b) q ∙ first_line i l, ap (lines_with a 1) q ∙ sym (first_flag a b 1 i l) ∙ t)

      from_second : (i : ℕ) → i < line_count b → lines_with J 1 (rule_count J + (line_count a + i)) ≡ true → From (rule_count J + (line_count a + i))
      from_second i l t =
          let q = back_second_line i in
          inr (ap (second_entry a b) q ∙ second_line i, ap (lines_with b 1) q ∙ sym (second_flag a b 1 i l) ∙ t)

  module _ (s : Sound a) (r : Sound b) (fits : overfull a b ≡ false) where
    -- limits and goal
    shallow : ((job_of a).depth ≤ (job_of J).depth) × ((job_of b).depth ≤ (job_of J).depth)
    unfolding job_of
    shallow = (omega (arith, joined_depth_lem a b), omega (arith, joined_depth_lem a b))

    long_enough : (n m : ℕ) → n ≤ step_limit a → m ≤ step_limit b → n + m ≤ 255 → n + m ≤ (job_of J).length_limit
    unfolding job_of
    long_enough n m h k l = omega (arith, joined_steps_lem a b)

    goals : tensor (job_of a).goal (job_of b).goal ≡ (job_of J).goal
    unfolding job_of
    goals = sym (both_goals_lem a b s r fits)

    beside : Beside (job_of a) (job_of b) (job_of J) (first_entry a b) first_back (second_entry a b) second_back
    beside =
        record {
          first = first_renaming s r;
          second = second_renaming s r;
          strict_from = strict_from;
          first_lines = first_lines;
          second_lines = second_lines;
          apart = lines_apart;
          both_goals_lem = goals;
          first_shallow = shallow.0;
          second_shallow = shallow.1;
        }

    -- THEOREM. "If both cards have lists within limits that together fit 255 steps", the joined card has a list: the first's with its entries
    -- renumbered, then the second's. Choices stay.
    pub joined_listed : {l m : List ℕ} → Listed (job_of a) l → Listed (job_of b) m → length l + length m ≤ 255
        → Listed (job_of J) (map (renumber (first_entry a b)) l ++ map (renumber (second_entry a b)) m)
    joined_listed {l} {m} x y h =
        subst (Listed (job_of J)) (ap₂ ◌++◌ (renumbered s (first_entry a b) x) (renumbered r (second_entry a b) y))
        (beside_listed beside x y (long_enough (length l) (length m) (listed_short a l x) (listed_short b m y) h))
