-- How the number that a call for C answers is read (include/kit_planner.h). It has 32 bits: the refusal's number in bits 31 to 24 and its
-- place in bits 19 to 16 (both 0 where there is none), the index there, or what the call tells, in bits 15 to 0. Bits 23 to 20 say which
-- card, where a call has two.
use Rattle.std.specs.Prelude.{ℕ, ◌/◌, ◌%◌, ◌^◌, ◌<◌, ◌≡◌, cond, ◌&&◌, List, [], ◌∷◌, length, get_or, eqb}
use Rattle.card.specs.Verdict.{Where, card, node, rule, line, sheet, steps, mark, step}
use Rattle.planning.specs.Plan.{PlanVerdict, planned, refused}
use Rattle.reader.specs.Read.{ReadVerdict, accepted, refused as not_accepted}

abbrev pub number_in : ℕ → ℕ
number_in r = r / 2 ^ 24

abbrev pub card_in : ℕ → ℕ
card_in r = r / 2 ^ 20 % 2 ^ 4

abbrev pub place_in : ℕ → ℕ
place_in r = r / 2 ^ 16 % 2 ^ 4

abbrev pub index_in : ℕ → ℕ
index_in r = r % 2 ^ 16

-- the places by their numbers, from 0, with the index
unfoldable pub places : ℕ → List Where
places i = card ∷ node i ∷ rule i ∷ line i ∷ sheet ∷ steps ∷ mark i ∷ step i ∷ []

unfoldable pub place_of : ℕ → ℕ → Where
place_of p i = get_or (places i) p card

-- "0 where there is neither": a refusal's place is one of the table, and where it has no index, none is told.
pub record Plain (r : ℕ) : Type 0 where
  pub known : (number_in r ≡ 0 → ⊥) → place_in r < length (places 0)
  pub bare : (number_in r ≡ 0 → ⊥) → place_of (place_in r) 0 ≡ place_of (place_in r) 1 → index_in r ≡ 0

-- what a number says: with 0 as number and place, the call's own word with k; else the refusal
unfoldable pub said_by : {A : Type 0} → (ℕ → A) → (ℕ → Where → A) → ℕ → A
said_by fine refusal r =
    cond (eqb (number_in r) 0 && eqb (place_in r) 0) (fine (index_in r)) (refusal (number_in r) (place_of (place_in r) (index_in r)))

unfoldable pub plan_in : ℕ → PlanVerdict
plan_in r = said_by planned refused r

unfoldable pub read_in : ℕ → ReadVerdict
read_in r = said_by accepted not_accepted r
