-- What the planner answers and leaves in the lent buffer (01, "Refused, and where"), in terms of derivations.
use Rattle.std.specs.Prelude.{Result, Ok, Err, ℕ, ◌+◌, ◌≤◌, ◌<◌, ◌≡◌, List, ◌++◌, length, drop}
use Rattle.calculus.specs.Job.{DerivableWithin, First, surely_used}
use Rattle.card.specs.Format.{line_count, step_limit}
use Rattle.card.specs.Verdict.{Where, fault, card, sheet, number_of, where_of}
use Rattle.card.specs.declared.faults.Refusal.{Refusal}
use Rattle.card.specs.Fault.{first_fault, Placed, Sound}
use Rattle.card.specs.Decode.{job_of}
use Rattle.card.specs.Sheet.{sheet_of}

-- "The planner answers planned with k, or a refusal".
pub data PlanVerdict : Type 0 where
  planned : ℕ → PlanVerdict
  refused : ℕ → Where → PlanVerdict

-- the planner's answer: k, or 01's number and place of a refusal
unfoldable pub told_plan : Result ℕ Refusal → PlanVerdict
told_plan (Ok k) = planned k
told_plan (Err r) = refused (number_of r.fault) (where_of r.place)

-- 10, "buffer shorter than 5 + s + T": what the buffer has to hold
abbrev pub room_of : List ℕ → ℕ
room_of bs = 5 + step_limit bs + line_count bs

-- The outcome: for the card bs and the old buffer, the answer and the new buffer. "Each check is taken apart before the next begins, in
-- this order ..; the first that applies ends the call"; "after a refusal neither it nor anything else lent has changed".
pub data Planning (bs old : List ℕ) : PlanVerdict → List ℕ → Type 0 where
  -- 1 to 9
  faulty : {n : ℕ} {w : Where} → first_fault bs ≡ fault n w → Planning bs old (refused n w) old
  -- 10
  short : Sound bs → length old < room_of bs → Planning bs old (refused 10 sheet) old
  -- 11, "no derivation within limits"
  none_within : Sound bs → room_of bs ≤ length old → (DerivableWithin (job_of bs) → ⊥) → Planning bs old (refused 11 card) old
  -- "Of all lists within limits the planner gives the smallest". "After planned, the buffer's first 5 + k + T bytes are the sheet"; "Bytes
  -- past the sheet .. keep what they held."
  planned_as : Sound bs → room_of bs ≤ length old → (l : List ℕ) (f : First (job_of bs) l)
      → Planning bs old (planned (length l)) (sheet_of bs (surely_used f.listed) l ++ drop (5 + length l + line_count bs) old)

-- Demand 1. A decision: planned with k ≤ s; or refused with a number of 1 to 11 and a place that there is, the buffer as it was.
pub data PlanDecided (bs old new : List ℕ) : PlanVerdict → Type 0 where
  is_planned : {k : ℕ} → k ≤ step_limit bs → PlanDecided bs old new (planned k)
  is_refused : {n : ℕ} {w : Where} → (1 ≤ n) × (n ≤ 11) → Placed bs w → new ≡ old → PlanDecided bs old new (refused n w)

-- Demand 2, the sheet. After planned with k, the buffer begins with the sheet of the card's first list, k is its length, the sheet lies
-- within the buffer, and the bytes past it are the old ones.
pub record Carries (bs old new : List ℕ) (k : ℕ) : Type 0 where
  pub card : Sound bs
  pub list : List ℕ
  pub first : First (job_of bs) list
  pub count : length list ≡ k
  pub within : 5 + k + line_count bs ≤ length old
  pub bytes : new ≡ sheet_of bs (surely_used first.listed) list ++ drop (5 + k + line_count bs) old

-- The program "plans with room enough for any sheet": 5 + 255 + 64 bytes, so that the answer is never 10.
abbrev pub room_for_any : ℕ
room_for_any = 324

pub record NeverShort (a : PlanVerdict) : Type 0 where
  pub not_short : (w : Where) → a ≡ refused 10 w → ⊥
