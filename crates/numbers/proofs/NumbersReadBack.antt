-- A number reads as the outcome that it tells, and every decision has a number.
use Prim.Native.Nat.{ℕ, zero, suc, ◌+◌, ◌*◌, ◌^◌, ◌≤◌, ◌<◌}
use native.Mathlib.Omega.{arith}
use mathlib.Core.Path.{◌≡◌, refl, sym, ap, ap₂, ◌∙◌}
use mathlib.Core.Logic.{◌⊎◌, inl, inr}
use mathlib.Core.List.{List}
use borrow.Author.Tests.{eq-eqb, ne_eqb}
use Rattle.std.specs.Prelude.{false, ◌&&◌, eqb, Result, Ok, Err, IfErr}
use Rattle.card.specs.declared.faults.Fault.{Fault}
use Rattle.card.specs.declared.faults.Fault.TheVariants as faults
use Rattle.card.specs.declared.faults.Refusal.{Refusal}
use Rattle.card.specs.Format.{Bytes}
use Rattle.card.specs.Fault.{Placed}
use Rattle.card.specs.Verdict.{Where, card, node, rule, line, sheet, steps, mark, step, number_of}
use Rattle.planning.specs.Plan.{PlanVerdict, planned, refused, told_plan, PlanDecided, is_planned, is_refused}
use Rattle.reader.specs.Read.{ReadVerdict, accepted, refused as not_accepted, told_read, ReadDecided, is_accepted}
use Rattle.reader.specs.Read.{is_refused as is_not_accepted}
use Rattle.numbers.specs.Numbers.{number_in, card_in, place_in, index_in, places, place_of, said_by, plan_in, read_in}

-- every fault but one has a number that is not 0
pub number_positive : (f : Fault) → (f ≡ faults.Other 0 → ⊥) → 1 ≤ number_of f
number_positive faults.Short k = omega arith
number_positive faults.LengthField k = omega arith
number_positive faults.Version k = omega arith
number_positive faults.Range k = omega arith
number_positive faults.Size k = omega arith
number_positive faults.Node k = omega arith
number_positive faults.Goal k = omega arith
number_positive faults.Rule k = omega arith
number_positive faults.Line k = omega arith
number_positive faults.NoRoom k = omega arith
number_positive faults.NoList k = omega arith
number_positive faults.SheetFront k = omega arith
number_positive faults.Step k = omega arith
number_positive faults.Mark k = omega arith
number_positive faults.Overfull k = omega arith
number_positive faults.NoLine k = omega arith
number_positive faults.Depth k = omega arith
number_positive faults.StepCount k = omega arith
number_positive faults.Undivided k = omega arith
number_positive (faults.Other zero) k = absurd (k refl)
number_positive (faults.Other (suc n)) k = omega arith

apart : (a b : ℕ) → (a ≡ 0 → 1 ≤ b) → eqb a 0 && eqb b 0 ≡ false
apart zero zero h = absurd (omega (arith, h refl))
apart zero (suc b) h = ne_eqb (suc b) 0 (λ z. omega (arith, z))
apart (suc a) b h = simp (ne_eqb (suc a) 0 (λ z. omega (arith, z))) refl

-- what a number says, once its parts are known
module _ {A : Type 0} (fine : ℕ → A) (refusal : ℕ → Where → A) (r : ℕ) where
  pub said_fine : {k : ℕ} → (number_in r ≡ 0) × (place_in r ≡ 0) × (index_in r ≡ k) → said_by fine refusal r ≡ fine k
  unfolding said_by
  said_fine h = simp (eq-eqb (number_in r) 0 h.0, eq-eqb (place_in r) 0 h.1) (ap fine h.2)

  -- a refusal, which has a place that is not 0 where its number is 0
  pub said_apart : {n : ℕ} {w : Where} → (n ≡ 0 → 1 ≤ place_in r) → (number_in r ≡ n) × (place_of (place_in r) (index_in r) ≡ w)
      → said_by fine refusal r ≡ refusal n w
  unfolding said_by
  said_apart g h = simp (apart (number_in r) (place_in r) (λ z. g (sym h.0 ∙ z))) (ap₂ refusal h.0 h.1)

  pub said_refused : {n : ℕ} {w : Where} → 1 ≤ n → (number_in r ≡ n) × (place_of (place_in r) (index_in r) ≡ w)
      → said_by fine refusal r ≡ refusal n w
  said_refused g h = said_apart (λ z. absurd (omega (arith, g, z))) h

-- the parts of a number, packed
unfoldable pub pack : ℕ → ℕ → ℕ → ℕ
pack number place index = number * 2 ^ 24 + place * 2 ^ 16 + index

module _ (n p i : ℕ) (h : p < 16) (g : i < 65536) where
  pub number_back : number_in (pack n p i) ≡ n
  unfolding pack
  number_back = omega arith

  pub place_back : place_in (pack n p i) ≡ p
  unfolding pack
  place_back = omega arith

  pub index_back : index_in (pack n p i) ≡ i
  unfolding pack
  index_back = omega arith

  pub no_card : card_in (pack n p i) ≡ 0
  unfolding pack
  no_card = omega arith

  pub pack_low : n < 256 → pack n p i < 2 ^ 32
  unfolding pack
  pack_low l = omega arith

-- a place has a number and an index that read as it
pub record Numbered (w : Where) : Type 0 where
  pub place : ℕ
  pub index : ℕ
  pub few : place < 16
  pub fits : index < 65536
  pub reads : place_of place index ≡ w

pub numbered : {bs : List ℕ} → Bytes bs → (w : Where) → Placed bs w → Numbered w
unfolding place_of places Placed
numbered b card h = record { place = 0; index = 0; few = omega arith; fits = omega arith; reads = refl }
numbered b (node i) h = record { place = 1; index = i; few = omega arith; fits = omega (arith, b.byte 5, b.byte 6); reads = refl }
numbered b (rule i) h = record { place = 2; index = i; few = omega arith; fits = omega (arith, b.byte 3); reads = refl }
numbered b (line i) h = record { place = 3; index = i; few = omega arith; fits = omega (arith, b.byte 4); reads = refl }
numbered b sheet h = record { place = 4; index = 0; few = omega arith; fits = omega arith; reads = refl }
numbered b steps h = record { place = 5; index = 0; few = omega arith; fits = omega arith; reads = refl }
numbered b (mark i) h = record { place = 6; index = i; few = omega arith; fits = omega (arith, b.byte 4); reads = refl }
numbered b (step i) h = record { place = 7; index = i; few = omega arith; fits = omega (arith, b.byte 10); reads = refl }

-- an outcome's number has 32 bits and reads as it
module _ {A : Type 0} (fine : ℕ → A) (refusal : ℕ → Where → A) where
  fine_back : (k : ℕ) → k < 65536 → (r : ℕ) × (r < 2 ^ 32) × (said_by fine refusal r ≡ fine k)
  fine_back k h = (k, omega arith, said_fine fine refusal k (omega arith, omega arith, omega arith))

  refused_back : {bs : List ℕ} → Bytes bs → (n : ℕ) (w : Where) → Placed bs w → 1 ≤ n → n < 256
      → (r : ℕ) × (r < 2 ^ 32) × (said_by fine refusal r ≡ refusal n w)
  refused_back b n w p h g =
      let x = numbered b w p in
      let q : ℕ = x.place in
      let i : ℕ = x.index in
      let few : q < 16 = x.few in
      let fits : i < 65536 = x.fits in (
        pack n q i,
        pack_low n q i few fits g,
        said_refused fine refusal (pack n q i) h
            (number_back n q i few fits, ap₂ place_of (place_back n q i few fits) (index_back n q i few fits) ∙ x.reads),
      )

-- THEOREM. A planner's decision has a number that reads as it.
pub plan_back : {bs old new : List ℕ} {v : PlanVerdict} → Bytes bs → PlanDecided bs old new v → (r : ℕ) × (r < 2 ^ 32) × (plan_in r ≡ v)
unfolding plan_in
plan_back b (is_planned {k} h) = fine_back planned refused k (omega (arith, b.byte 10))
plan_back b (is_refused {n} {w} h p e) = refused_back planned refused b n w p h.0 (omega (arith, h.1))

-- the reader's numbers are 1 to 19
abbrev Read : ℕ → Type 0
Read n = ((1 ≤ n) × (n ≤ 9)) ⊎ (((12 ≤ n) × (n ≤ 14)) ⊎ ((17 ≤ n) × (n ≤ 19)))

read_low : {n : ℕ} → Read n → 1 ≤ n
read_low (inl h) = h.0
read_low (inr (inl h)) = omega (arith, h.0)
read_low (inr (inr h)) = omega (arith, h.0)

read_high : {n : ℕ} → Read n → n < 256
read_high (inl h) = omega (arith, h.1)
read_high (inr (inl h)) = omega (arith, h.1)
read_high (inr (inr h)) = omega (arith, h.1)

-- THEOREM. A reader's decision has a number that reads as it.
pub read_back : {bs : List ℕ} {v : ReadVerdict} → Bytes bs → ReadDecided bs v → (r : ℕ) × (r < 2 ^ 32) × (read_in r ≡ v)
unfolding read_in
read_back b (is_accepted {k} h) = fine_back accepted not_accepted k (omega (arith, b.byte 10))
read_back b (is_not_accepted {n} {w} h p) =
    refused_back accepted not_accepted b n w p (read_low h) (read_high h)

-- a decision's refusal has a number that is not 0
plan_numbers : {bs old new : List ℕ} {v : PlanVerdict} {n : ℕ} {w : Where} → PlanDecided bs old new v → v ≡ refused n w → 1 ≤ n
plan_numbers (is_planned h) e = let z : ◌≡◌ {A = ℕ} 0 1 = cc in absurd (omega arith)
plan_numbers {n = m} (is_refused {n} h p e) q = let z : n ≡ m = cc in omega (arith, h.0)

pub plan_nonzero : {bs old new : List ℕ} (a : Result ℕ Refusal) → PlanDecided bs old new (told_plan a)
    → IfErr a (λ r. 1 ≤ number_of r.fault)
unfolding told_plan
plan_nonzero (Ok k) d = tt
plan_nonzero (Err r) d = plan_numbers d refl

read_numbers : {bs : List ℕ} {v : ReadVerdict} {n : ℕ} {w : Where} → ReadDecided bs v → v ≡ not_accepted n w → 1 ≤ n
read_numbers (is_accepted h) e = let z : ◌≡◌ {A = ℕ} 0 1 = cc in absurd (omega arith)
read_numbers {n = m} (is_not_accepted {n} h p) q = let z : n ≡ m = cc in omega (arith, read_low h)

pub read_nonzero : {bs : List ℕ} (a : Result ℕ Refusal) → ReadDecided bs (told_read a) → IfErr a (λ r. 1 ≤ number_of r.fault)
unfolding told_read
read_nonzero (Ok k) d = tt
read_nonzero (Err r) d = read_numbers d refl

-- and so has the refusal of an answer that is known
pub some_number : {a : Result ℕ Refusal} {r : Refusal} → a ≡ Err r → IfErr a (λ r. 1 ≤ number_of r.fault) → 1 ≤ number_of r.fault
some_number e h = rw e at h
