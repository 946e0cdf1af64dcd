-- What the table of kinds says of every kind: a test that each row passes, and an unknown kind too, holds of all numbers.
use Prim.Native.Nat.{ℕ, zero, suc, ◌≤◌, ◌<◌}
use native.Mathlib.Omega.{arith}
use mathlib.Core.Path.{◌≡◌, refl, sym, ap₂, ◌∙◌}
use mathlib.Core.Logic.{◌⊎◌, inl, inr, ⊎_elim}
use mathlib.Core.Bool.{Bool, true, false, not, ◌&&◌, ◌||◌}
use mathlib.Core.List.{List, [], ◌∷◌}
use lib.ListN.{length, get_or, get_or-eq_default}
use lib.Dec.{leb, eqb}
use borrow.Author.Tests.{leb-true, eqb-true, lt-leb, ne_eqb}
use Rattle.calculus.proofs.SetLaws.{or_cases}
use Rattle.card.specs.declared.kinds.Field.{Field}
use Rattle.card.specs.declared.kinds.Field.TheVariants.{Unused, Name, GoalPart, ClausePart, Unknown}
use Rattle.card.specs.Kinds.{Kind, unknown, kinds, kind_of}
use Rattle.card.specs.Fault.{given, is_goal, is_clause}
use Rattle.card.proofs.FrontChecked.{both_left, both_right}

-- the rows pass the test, each with its number
passes : (ℕ → Kind → Bool) → List Kind → Bool
passes f [] = true
passes f (x ∷ xs) = f zero x && passes (λ k. f (suc k)) xs

at_row : (f : ℕ → Kind → Bool) (xs : List Kind) → passes f xs ≡ true → ((k : ℕ) → f k unknown ≡ true) → (k : ℕ)
    → f k (get_or xs k unknown) ≡ true
unfolding passes
at_row f [] e u k = u k
at_row f (x ∷ xs) e u zero = both_left (f zero x) (passes (λ k. f (suc k)) xs) e
at_row f (x ∷ xs) e u (suc k) =
    at_row (λ n. f (suc n)) xs (both_right (f zero x) (passes (λ n. f (suc n)) xs) e) (λ n. u (suc n)) k

-- past the last row no kind is known
pub past_last : (k : ℕ) → length kinds ≤ k → kind_of k ≡ unknown
unfolding kind_of
past_last k h = get_or-eq_default kinds unknown h

follows : (a b : Bool) → (not a || b) ≡ true → a ≡ true → b ≡ true
follows true b e h = e
follows false b e h = absurd (let z : ◌≡◌ {A = ℕ} 0 1 = cc in omega arith)

-- one of two kinds
two_of : (k a b : ℕ) → (eqb k a || eqb k b) ≡ true → (k ≡ a) ⊎ (k ≡ b)
two_of k a b h = ⊎_elim (λ g. inl (eqb-true k a g)) (λ g. inr (eqb-true k b g)) (or_cases (eqb k a) (eqb k b) h)

-- which kinds read as a goal
goal_test : ℕ → Kind → Bool
goal_test k x = not (given x.goal) || (leb 1 k && (leb k 6 || (eqb k 8 || eqb k 9)))

pub goal_kinds : (k : ℕ) → is_goal k ≡ true → (1 ≤ k) × ((k ≤ 6) ⊎ ((k ≡ 8) ⊎ (k ≡ 9)))
unfolding is_goal kind_of goal_test given passes kinds
goal_kinds k e =
    let rest : Bool = leb k 6 || (eqb k 8 || eqb k 9) in
    let b = follows (given (kind_of k).goal) (leb 1 k && rest) (at_row goal_test kinds refl (λ n. refl) k) e in (
      leb-true _ _ (both_left (leb 1 k) rest b),
      ⊎_elim (λ h. inl (leb-true _ _ h)) (λ h. inr (two_of k 8 9 h))
          (or_cases (leb k 6) (eqb k 8 || eqb k 9) (both_right (leb 1 k) rest b)),
    )

-- which read as a clause
clause_test : ℕ → Kind → Bool
clause_test k x = not (given x.clause) || (eqb k 1 || (eqb k 2 || (eqb k 7 || eqb k 10)))

pub clause_kinds : (k : ℕ) → is_clause k ≡ true → (k ≡ 1) ⊎ ((k ≡ 2) ⊎ ((k ≡ 7) ⊎ (k ≡ 10)))
unfolding is_clause kind_of clause_test given passes kinds
clause_kinds k e =
    ⊎_elim (λ h. inl (eqb-true k 1 h))
    (λ h. inr (⊎_elim (λ g. inl (eqb-true k 2 g)) (λ g. inr (two_of k 7 10 g)) (or_cases (eqb k 2) (eqb k 7 || eqb k 10) h)))
    (or_cases (eqb k 1) (eqb k 2 || (eqb k 7 || eqb k 10))
    (follows (given (kind_of k).clause) _ (at_row clause_test kinds refl (λ n. refl) k) e))

-- a field in which nothing fits but a part
unfoldable pub part_only : Field → Bool
part_only Unused = false
part_only Name = false
part_only GoalPart = true
part_only ClausePart = true
part_only Unknown = true

-- a kind above 3 has two parts, but for 9
parts_test : ℕ → Kind → Bool
parts_test k x = (part_only x.left && part_only x.right) || (leb k 3 || eqb k 9)

pub two_parts : (k : ℕ) → 3 < k → (k ≡ 9 → ⊥) → (part_only (kind_of k).left ≡ true) × (part_only (kind_of k).right ≡ true)
unfolding kind_of parts_test part_only passes kinds
two_parts k h n =
    let l = part_only (kind_of k).left in
    let r = part_only (kind_of k).right in
    let other : (leb k 3 || eqb k 9) ≡ false = ap₂ ◌||◌ (lt-leb k 3 h) (ne_eqb k 9 n) in
    let b = by_test (l && r) (leb k 3 || eqb k 9) other (at_row parts_test kinds refl at_unknown k) in
    (both_left l r b, both_right l r b)
  where
    at_unknown : (n : ℕ) → parts_test n unknown ≡ true
    at_unknown n = refl

    by_test : (a b : Bool) → b ≡ false → (a || b) ≡ true → a ≡ true
    by_test true b n e = refl
    by_test false b n e = sym n ∙ e
