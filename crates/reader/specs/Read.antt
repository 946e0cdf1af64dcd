-- What the reader answers (01, "Refused, and where"; 02, #102), in terms of derivations.
use Rattle.std.specs.Prelude.{Result, Ok, Err, ℕ, ◌≤◌, ◌≡◌, ◌↔◌, ◌⊎◌, List, length}
use Rattle.calculus.specs.Items.{Items}
use Rattle.calculus.specs.Job.{Listed, surely_used}
use Rattle.calculus.specs.Walk.{ItemsDivide}
use Rattle.card.specs.Format.{line_count, step_limit}
use Rattle.card.specs.Verdict.{Verdict, Where, sound, fault, steps, first_of, number_of, where_of}
use Rattle.card.specs.declared.faults.Refusal.{Refusal}
use Rattle.card.specs.Fault.{first_fault, Placed, Sound}
use Rattle.card.specs.Decode.{job_of}
use Rattle.card.specs.Sheet.{sheet_of}
use Rattle.sheet_front.specs.Front.{steps_of, marks_in, sheet_fault}
use Rattle.marks.specs.Marks.{mark_fault}
use Rattle.trace.specs.Steps.{steps_fault}

-- "the reader answers accepted with k, or a refusal"
pub data ReadVerdict : Type 0 where
  accepted : ℕ → ReadVerdict
  refused : ℕ → Where → ReadVerdict

-- the reader's answer: k, or 01's number and place of a refusal
unfoldable pub told_read : Result ℕ Refusal → ReadVerdict
told_read (Ok k) = accepted k
told_read (Err r) = refused (number_of r.fault) (where_of r.place)

-- 14, of the sheet's marks in their order, where a derivation with its steps surely uses the items U
unfoldable pub marks_fault : List ℕ → Items → List ℕ → Verdict
marks_fault bs U sh = first_of (line_count bs) (mark_fault bs U (steps_of sh) (marks_in sh))

-- The outcome: for the card bs and the sheet sh, the answer. "Each check is taken apart before the next begins, in this order ..; the
-- first that applies ends the call".
pub data Reading (bs sh : List ℕ) : ReadVerdict → Type 0 where
  -- 1 to 9
  faulty : {n : ℕ} {w : Where} → first_fault bs ≡ fault n w → Reading bs sh (refused n w)
  -- 12
  misfit : {n : ℕ} {w : Where} → Sound bs → sheet_fault bs sh ≡ fault n w → Reading bs sh (refused n w)
  -- 13, 17 and 18, "The earliest step decides"
  astray : {n : ℕ} {w : Where} → Sound bs → sheet_fault bs sh ≡ sound → steps_fault bs (steps_of sh) ≡ fault n w → Reading bs sh (refused n w)
  -- "then 19": "the walk is right but the items don't divide as the rules ask, place steps"
  undivided : Sound bs → sheet_fault bs sh ≡ sound → steps_fault bs (steps_of sh) ≡ sound → (ItemsDivide (job_of bs) (steps_of sh) → ⊥)
      → Reading bs sh (refused 19 steps)
  -- "then 14": the steps are the list of a derivation within limits, and the marks go by what it surely uses (02, #105)
  wrong_mark : {n : ℕ} {w : Where} → Sound bs → sheet_fault bs sh ≡ sound → (x : Listed (job_of bs) (steps_of sh))
      → marks_fault bs (surely_used x) sh ≡ fault n w → Reading bs sh (refused n w)
  -- none of these
  accepted_as : Sound bs → sheet_fault bs sh ≡ sound → (x : Listed (job_of bs) (steps_of sh)) → marks_fault bs (surely_used x) sh ≡ sound
      → Reading bs sh (accepted (length (steps_of sh)))

-- Demand 1. A decision: accepted with k ≤ s; or refused with a number of 1 to 9, 12 to 14 or 17 to 19 and a place that
-- there is.
pub data ReadDecided (bs : List ℕ) : ReadVerdict → Type 0 where
  is_accepted : {k : ℕ} → k ≤ step_limit bs → ReadDecided bs (accepted k)
  is_refused : {n : ℕ} {w : Where} → ((1 ≤ n) × (n ≤ 9)) ⊎ (((12 ≤ n) × (n ≤ 14)) ⊎ ((17 ≤ n) × (n ≤ 19))) → Placed bs w
      → ReadDecided bs (refused n w)

-- "A sheet holds a list with its true marks if its bytes are these and no others": here the list is that of a derivation within limits
-- of a sound card, and k is its length.
pub record Holds (bs sh : List ℕ) (k : ℕ) : Type 0 where
  pub card : Sound bs
  pub list : List ℕ
  pub listed : Listed (job_of bs) list
  pub bytes : sh ≡ sheet_of bs (surely_used listed) list
  pub count : length list ≡ k

-- Demand 3, second half: accepted with k exactly when the card is sound and the sheet holds the list of such a derivation with its true
-- marks, k its length.
pub record AcceptsExactly (bs sh : List ℕ) (a : ReadVerdict) : Type 0 where
  pub exactly : (k : ℕ) → (a ≡ accepted k) ↔ Holds bs sh k
