-- Refusals and their places (01, "Refused, and where"), and what a check's answer tells of them.
use Rattle.std.specs.Prelude.{ℕ, zero, suc, Bool, true, false, Result, Ok, Err, ⊤}
use Rattle.card.specs.declared.faults.Place.{Place}
use Rattle.card.specs.declared.faults.Place.TheVariants.{Card, Node, Rule, Line, Sheet, Steps, Mark, Step}
use Rattle.card.specs.declared.faults.Fault.{Fault}
use Rattle.card.specs.declared.faults.Fault.TheVariants as faults
use Rattle.card.specs.declared.faults.Refusal.{Refusal}

-- "the place names its thing: card, node i, rule i, line i, sheet, steps or mark i"; 02, #102: "place step i"
pub data Where : Type 0 where
  card sheet steps : Where
  node rule line mark step : ℕ → Where

-- What a check finds: nothing, or a number with its place.
pub data Verdict : Type 0 where
  sound : Verdict
  fault : ℕ → Where → Verdict

-- "applies if": the fault, where the test holds
unfoldable pub refuse : Bool → ℕ → Where → Verdict
refuse true n w = fault n w
refuse false n w = sound

-- "Each check is taken apart before the next begins ..; the first that applies ends the call."
infixr 30 ◌▹◌
unfoldable pub ◌▹◌ : Verdict → Verdict → Verdict
sound ▹ v = v
fault n w ▹ v = fault n w

-- "nodes, rules, lines and marks each by rising index"
unfoldable pub first_of : ℕ → (ℕ → Verdict) → Verdict
first_of zero f = sound
first_of (suc n) f = first_of n f ▹ f n

-- 01's place for each case of the enum `Place`
unfoldable pub where_of : Place → Where
where_of Card = card
where_of (Node i) = node i
where_of (Rule i) = rule i
where_of (Line i) = line i
where_of Sheet = sheet
where_of Steps = steps
where_of (Mark i) = mark i
where_of (Step i) = step i

-- 01's number for each case of the enum `Fault`; of a fault of another's, the number that it holds
abbrev pub number_of : Fault → ℕ
number_of faults.Short = 1
number_of faults.LengthField = 2
number_of faults.Version = 3
number_of faults.Range = 4
number_of faults.Size = 5
number_of faults.Node = 6
number_of faults.Goal = 7
number_of faults.Rule = 8
number_of faults.Line = 9
number_of faults.NoRoom = 10
number_of faults.NoList = 11
number_of faults.SheetFront = 12
number_of faults.Step = 13
number_of faults.Mark = 14
number_of faults.Overfull = 15
number_of faults.NoLine = 16
number_of faults.Depth = 17
number_of faults.StepCount = 18
number_of faults.Undivided = 19
number_of (faults.Other n) = n

-- 01's number and place of the refusal that a check answers
unfoldable pub told : Result ⊤ Refusal → Verdict
told (Ok u) = sound
told (Err r) = fault (number_of r.fault) (where_of r.place)
