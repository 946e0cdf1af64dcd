-- What the check of the room says, and what the sheet of a card's first list shows of the outcome.
use Rattle.std.proofs.Common.{ℕ, ◌+◌, ◌≤◌, ◌≡◌, Bool, true, false, List, ◌++◌, Ok, Err, length, drop, refl, sym, subst, ltb}
use Rattle.std.specs.Bool.{⊤}
use borrow.Author.Tests.{ltb-true, ltb-false}
use Rattle.calculus.specs.Job.{First, surely_used}
use Rattle.card.specs.declared.faults.Refusal.{Refusal}
use Rattle.card.specs.Format.{line_count, step_limit}
use Rattle.card.specs.Verdict.{Where, fault, refuse, told}
use Rattle.card.specs.Fault.{Sound}
use Rattle.card.specs.Decode.{job_of}
use Rattle.card.specs.Sheet.{sheet_of}
use Rattle.card.proofs.FaultsInOrder.{not_applied}
use Rattle.card.proofs.NodesDecoded.{listed_short}
use Rattle.card.proofs.MarksByLines.{sheet_same}
use Rattle.lines.specs.declared.LineWord.{LineWord}
use Rattle.scope.specs.Inner.Sets.{word_items, SureLines}
use Rattle.scope.proofs.SetsAreItems.{word_lines}
use Rattle.planning.specs.Inner.Room.{room_fault}
use Rattle.planning.specs.Plan.{PlanVerdict, planned, refused, told_plan, room_of, Planning, short, planned_as}

-- a check that tells of something applies, and tells of that
applied : (b : Bool) {n m : ℕ} {w u : Where} → fault m u ≡ refuse b n w → (b ≡ true) × (refused m u ≡ refused n w)
unfolding refuse
applied true e = (refl, cc)
applied false e = cc

-- the answers of the check of the room
module _ (bs : List ℕ) where
  pub room_enough : (n : ℕ) (u : ⊤) → told (Ok u) ≡ room_fault bs n → room_of bs ≤ n
  unfolding told room_fault
  room_enough n u e = ltb-false n (room_of bs) (not_applied _ _ _ (sym e))

  pub room_short : (old : List ℕ) (r : Refusal) → Sound bs → told (Err r) ≡ room_fault bs (length old) → Planning bs old (told_plan (Err r)) old
  unfolding told told_plan room_fault
  room_short old r s e =
      let p = applied (ltb (length old) (room_of bs)) e in
      subst (λ (v : PlanVerdict). Planning bs old v old) (sym p.1) (short s (ltb-true (length old) (room_of bs) p.0))

-- the first list is within the step limit, and its sheet is the outcome
module _ (bs l : List ℕ) (f : First (job_of bs) l) where
  pub within : length l ≤ step_limit bs
  within = listed_short bs l f.listed

  pub sheet_planned : (old new : List ℕ) → Sound bs → room_of bs ≤ length old → {sure : LineWord} → SureLines bs l sure
      → new ≡ sheet_of bs (word_items bs sure) l ++ drop (5 + length l + line_count bs) old → Planning bs old (planned (length l)) new
  sheet_planned old new s r {sure} c e =
      let same = sheet_same bs l (word_items bs sure) (surely_used f.listed) (word_lines bs l c f.listed) in
      subst (Planning bs old (planned (length l))) (sym (rw same at e)) (planned_as s r l f)
