-- What the reader's walk says of a list.
use Rattle.std.specs.Prelude.{ℕ, ◌≡◌, ◌⊎◌, true, List, Result, Ok, Err}
use Rattle.calculus.specs.Items.{◌∪◌, Within}
use Rattle.calculus.specs.Job.{Listed as ListOf}
use Rattle.calculus.specs.Walk.{ItemsDivide}
use Rattle.card.specs.Format.{rule_count}
use Rattle.card.specs.declared.faults.Refusal.{Refusal}
use Rattle.card.specs.Verdict.{Verdict, Where, sound, fault, step, steps, number_of, where_of}
use Rattle.card.specs.Decode.{job_of}
use Rattle.lines.specs.declared.LineWord.{LineWord}
use Rattle.scope.specs.Inner.Sets.{items, SureLines}
use Rattle.summary.specs.declared.Summary.{Summary}
use Rattle.trace.specs.Steps.{steps_fault}

-- The items divided, they lie within the lines, and there is slack or every must line is among them.
pub record Covered (bs : List ℕ) (w : Summary) : Type 0 where
  pub alive : w.alive ≡ true
  pub within : Within (items (rule_count bs) w.used) ((job_of bs).strict ∪ (job_of bs).lax)
  pub all_strict : (w.slack ≡ true) ⊎ Within (job_of bs).strict (items (rule_count bs) w.used)

-- what is found of a walk along k steps that has ended
pub data Ending (bs : List ℕ) (w : Summary) (k : ℕ) : Verdict → Type 0 where
  early : (w.at ≡ k → ⊥) → Ending bs w k (fault 18 (step w.at))
  bare : w.at ≡ k → (Covered bs w → ⊥) → Ending bs w k (fault 19 steps)
  whole : w.at ≡ k → Covered bs w → Ending bs w k sound

-- 01's number and place of the refusal of the steps, if they are refused
unfoldable pub told_followed : Result LineWord Refusal → Verdict
told_followed (Ok s) = sound
told_followed (Err f) = fault (number_of f.fault) (where_of f.place)

-- the lines that are told, if any
unfoldable pub HasLines : LineWord → Result LineWord Refusal → Type 0
HasLines sure (Ok s) = s ≡ sure
HasLines sure (Err f) = Unit {0}

-- what is found of a list: 13, 17 or 18; 19; or nothing, and it is the list of a derivation within limits
pub data Following (bs l : List ℕ) : Verdict → Type 0 where
  strays : {n : ℕ} {w : Where} → steps_fault bs l ≡ fault n w → Following bs l (fault n w)
  divides_not : steps_fault bs l ≡ sound → (ItemsDivide (job_of bs) l → ⊥) → Following bs l (fault 19 steps)
  follows : ListOf (job_of bs) l → Following bs l sound

-- the lines that are told of a list are those surely used
unfoldable pub SurelyFollows : List ℕ → List ℕ → Result LineWord Refusal → Type 0
SurelyFollows bs l (Ok s) = SureLines bs l s
SurelyFollows bs l (Err f) = Unit {0}
