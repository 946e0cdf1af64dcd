-- Small walks, computed: what each number of 02, #102, looks like, and how the choices of #103 are walked.
use Prim.Native.Nat.{ℕ}
use mathlib.Core.Path.{◌≡◌, refl}
use mathlib.Core.Bool.{false, true}
use mathlib.Core.List.{List, [], ◌∷◌}
use lib.Dec.{eqb}
use Rattle.calculus.specs.Formula.{Clause, atomᴳ, oneᴳ, zeroᴳ, tensor, oplus, lolliᴳ, atomᴰ, lolliᴰ, withᴰ, usable}
use Rattle.calculus.specs.Derivation.{Entry, Scope, entry_at, clause_at, extend, lend}
use Rattle.calculus.specs.Walk.{Walk, goes, stops, ◌⨾◌, choice_walk, goal_walk, clause_walk, name_walk, name_within}

abbrev rule : Clause → Entry
rule D = record { clause = D; linear = false }

-- the rules a, b and a gives (b gives c), of names 0, 1 and 2
abbrev three : Scope
three = record { entries = rule (atomᴰ 0) ∷ rule (atomᴰ 1) ∷ rule (lolliᴰ (atomᴳ 0) (lolliᴰ (atomᴳ 1) (atomᴰ 2))) ∷ []; fits = eqb }

-- the walk of c, with nesting limit d
abbrev of_c : ℕ → List ℕ → Walk
of_c d l = goal_walk (name_within d) (atomᴳ 2) three 0 l

-- c is made by entry 2, then b and a
right : of_c 2 (2 ∷ 1 ∷ 0 ∷ []) ≡ goes 3 []
unfolding goal_walk clause_walk name_walk name_within ◌⨾◌ usable clause_at entry_at
right = refl

-- 13 at step 1: b is wanted there
other_order : of_c 2 (2 ∷ 0 ∷ 1 ∷ []) ≡ stops 13 1
unfolding goal_walk clause_walk name_walk name_within ◌⨾◌ usable clause_at entry_at
other_order = refl

-- 13 at step 2: there is no entry 3
no_entry_3 : of_c 2 (2 ∷ 1 ∷ 3 ∷ []) ≡ stops 13 2
unfolding goal_walk clause_walk name_walk name_within ◌⨾◌ usable clause_at entry_at
no_entry_3 = refl

-- 17 at step 1, though step 2 is wrong too
too_deep_at_1 : of_c 1 (2 ∷ 1 ∷ 3 ∷ []) ≡ stops 17 1
unfolding goal_walk clause_walk name_walk name_within ◌⨾◌ usable clause_at entry_at
too_deep_at_1 = refl

-- 13 before 17 at one step
unfit_and_deep : of_c 1 (2 ∷ 0 ∷ []) ≡ stops 13 1
unfolding goal_walk clause_walk name_walk name_within ◌⨾◌ usable clause_at entry_at
unfit_and_deep = refl

-- 18 at step 1, even if that step would be nested above d
missing_at_1 : of_c 1 (2 ∷ []) ≡ stops 18 1
unfolding goal_walk clause_walk name_walk name_within ◌⨾◌ usable clause_at entry_at
missing_at_1 = refl

-- a step too many: the walk has ended at step 3
ends_at_3 : of_c 2 (2 ∷ 1 ∷ 0 ∷ 0 ∷ []) ≡ goes 3 (0 ∷ [])
unfolding goal_walk clause_walk name_walk name_within ◌⨾◌ usable clause_at entry_at
ends_at_3 = refl

-- one line a: who has used it is not minded
abbrev line : Scope
line = record { entries = record { clause = atomᴰ 0; linear = true } ∷ []; fits = eqb }

used_twice : goal_walk (name_within 1) (tensor (atomᴳ 0) (atomᴳ 0)) line 0 (0 ∷ 0 ∷ []) ≡ goes 2 []
unfolding goal_walk name_walk name_within clause_walk ◌⨾◌ usable clause_at entry_at
used_twice = refl

-- a lent clause is in scope for its goal alone: entry 1 inside, none outside
lent_inside : goal_walk (name_within 1) (lolliᴳ (atomᴰ 1) (atomᴳ 1)) line 0 (1 ∷ []) ≡ goes 1 []
unfolding goal_walk name_walk name_within clause_walk usable clause_at entry_at lend extend
lent_inside = refl

lent_outside : goal_walk (name_within 1) (tensor (lolliᴳ (atomᴰ 1) oneᴳ) (atomᴳ 1)) line 0 (1 ∷ []) ≡ stops 13 0
unfolding goal_walk name_walk name_within clause_walk ◌⨾◌ usable clause_at entry_at lend extend
lent_outside = refl

-- the rules b, c and `b gives ((c gives a) menu a)`, of names 1, 2 and 0
abbrev offer : Scope
offer = record {
  entries = rule (atomᴰ 1) ∷ rule (atomᴰ 2) ∷ rule (lolliᴰ (atomᴳ 1) (withᴰ (lolliᴰ (atomᴳ 2) (atomᴰ 0)) (atomᴰ 0))) ∷ [];
  fits = eqb;
}

-- the walk of a name, with nesting limit d
abbrev of_name : ℕ → ℕ → List ℕ → Walk
of_name a d l = goal_walk (name_within d) (atomᴳ a) offer 0 l

-- entry 254 c b, or entry 255 b; a choice adds no nesting
left_way : of_name 0 2 (2 ∷ 254 ∷ 1 ∷ 0 ∷ []) ≡ goes 4 []
unfolding goal_walk clause_walk choice_walk name_walk name_within ◌⨾◌ usable clause_at entry_at
left_way = refl

right_way : of_name 0 2 (2 ∷ 255 ∷ 0 ∷ []) ≡ goes 3 []
unfolding goal_walk clause_walk choice_walk name_walk name_within ◌⨾◌ usable clause_at entry_at
right_way = refl

-- 13: an entry for a choice, a choice for an entry; 18: no choice
entry_for_choice : of_name 0 2 (2 ∷ 0 ∷ []) ≡ stops 13 1
unfolding goal_walk clause_walk choice_walk name_walk name_within ◌⨾◌ usable clause_at entry_at
entry_for_choice = refl

choice_for_entry : of_name 0 2 (254 ∷ []) ≡ stops 13 0
unfolding goal_walk name_walk name_within usable clause_at entry_at
choice_for_entry = refl

no_choice : of_name 0 2 (2 ∷ []) ≡ stops 18 1
unfolding goal_walk clause_walk choice_walk name_walk name_within ◌⨾◌ usable clause_at entry_at
no_choice = refl

-- 13 at a choice whose side has no head that is the name wanted
abbrev either : Scope
either = record { entries = rule (withᴰ (atomᴰ 1) (atomᴰ 2)) ∷ []; fits = eqb }

other_side : goal_walk (name_within 1) (atomᴳ 1) either 0 (0 ∷ 255 ∷ []) ≡ stops 13 1
unfolding goal_walk clause_walk choice_walk name_walk name_within usable clause_at entry_at
other_side = refl

-- one of, with no nesting left; never stops nothing
chosen_side : goal_walk (name_within 0) (oplus (atomᴳ 1) oneᴳ) offer 0 (255 ∷ []) ≡ goes 1 []
unfolding goal_walk choice_walk
chosen_side = refl

past_never : goal_walk (name_within 1) (tensor zeroᴳ (atomᴳ 1)) offer 0 (0 ∷ []) ≡ goes 1 []
unfolding goal_walk clause_walk name_walk name_within ◌⨾◌ usable clause_at entry_at
past_never = refl
