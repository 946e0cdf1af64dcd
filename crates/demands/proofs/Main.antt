-- The three demands on one page, what is wrong in the steps, and two cards on one bench, each proved by citing the theorem that does the work.
--
-- The contract of planner::plan says of its answer and of the buffer afterwards that they are a `Planning` of the card and the buffer
-- before; that of reader::read says of its answer that it is a `Reading` of the card and the sheet. Neither asks anything of its
-- arguments. So what is said here of every outcome is said of every call.
use Prim.Native.Nat.{ℕ, ◌+◌, ◌≤◌, ◌<◌}
use mathlib.Core.Path.{◌≡◌, refl, ap}
use mathlib.Core.Logic.{◌↔◌, ◌⊎◌}
use mathlib.Core.Bool.{true, false}
use mathlib.Core.List.{List, []}
use lib.ListN.{length, take}
use Rattle.calculus.specs.Steps.{steps, surely, entries_used, stands, left_choice, right_choice}
use Rattle.calculus.specs.Job.{Derivation, Derivable, DerivableWithin, Listed, surely_used}
use Rattle.calculus.specs.Runs.{OnEveryRun, RunWith}
use Rattle.calculus.specs.Walk.{ItemsDivide}
use Rattle.calculus.specs.Ways.{ListsNameWays}
use Rattle.calculus.proofs.ListsNameWays.{job_lists_name_ways}
use Rattle.calculus.proofs.StepsBounded.{entry_or_choice}
use Rattle.calculus.proofs.SurelyByList.{job_surely, listed_surely, surely_stands}
use Rattle.calculus.proofs.SurelyMeans.{surely_means}
use Rattle.card.specs.Format.{Bytes, rule_count, line_count, step_limit}
use Rattle.card.specs.Verdict.{Where, sound, fault, sheet, step, steps as whole_steps}
use Rattle.card.specs.Fault.{first_fault, Sound}
use Rattle.card.specs.Decode.{job_of}
use Rattle.card.specs.Sheet.{mark_of, sheet_of}
use Rattle.card.proofs.StepsFitAByte.{entries_fit}
use Rattle.branch.specs.declared.Branch.{Branch}
use Rattle.branch.specs.declared.Floor.{Floor}
use Rattle.engine.specs.Count.{CountIsScan}
use Rattle.engine.specs.Inner.Engine.{Ready}
use Rattle.engine.proofs.CountIsScan.{count_is_scan}
use Rattle.planning.specs.Plan.{PlanVerdict, planned, refused as not_planned, room_of, Planning, PlanDecided, Carries}
use Rattle.planner.proofs.PlannedExactly.{plan_decided, plan_determined, planned_exactly, planned_sheet}
use Rattle.sheet_front.specs.Front.{steps_of, sheet_fault}
use Rattle.trace.specs.Steps.{steps_fault, WrongStep, ExtraStep, NeverPassed}
use Rattle.trace.proofs.StepsMean.{none_found}
use Rattle.reader.specs.Read.{ReadVerdict, accepted, refused, Reading, ReadDecided, Holds, AcceptsExactly}
use Rattle.reader.proofs.AcceptedExactly.{read_decided, read_determined, accepts_exactly, holds_accepted}
use Rattle.reader.proofs.StepsRefused.{thirteen_told, seventeen_told, eighteen_told, nineteen_told, never_told}
use Rattle.bench.specs.Bench.{JoinVerdict, joined, Joining, JoinDecided, source_of, SourceDecided}
use Rattle.bench.proofs.BenchDecided.{join_decided, join_determined, source_decided}
use Rattle.demands.proofs.CheckedByRoom as CheckedByRoom
use Rattle.demands.proofs.WrittenIsRead as WrittenIsRead
use Rattle.demands.proofs.MarksMean as MarksMean
use Rattle.demands.proofs.JoinedIsPlanned as JoinedIsPlanned

-- Demand 1. "Every card and sheet, however broken, gets a decision: planned, accepted, or refused with its number and place, within all
-- bounds. A refused call writes nothing." That every call ends within all bounds is part of what is proved of each function.
module _ {bs old new : List ℕ} {a : PlanVerdict} where
  pub plan_decides : Planning bs old a new → PlanDecided bs old new a
  plan_decides = plan_decided

module _ {bs sh : List ℕ} {a : ReadVerdict} where
  pub read_decides : Reading bs sh a → ReadDecided bs a
  read_decides = read_decided

-- There is one decision: "Card, the reader's sheet, old buffer and these rules therefore determine every answer and byte."
pub plan_decides_once : {bs old new new' : List ℕ} {a b : PlanVerdict}
    → Planning bs old a new → Planning bs old b new' → (a ≡ b) × (new ≡ new')
plan_decides_once = plan_determined

pub read_decides_once : {bs sh : List ℕ} {a b : ReadVerdict} → Reading bs sh a → Reading bs sh b → a ≡ b
read_decides_once = read_determined

-- Lent an empty buffer the planner only checks: a sound card is told by 10, any other by its own fault. A caller's check goes by this.
module _ {bs new : List ℕ} {a : PlanVerdict} where
  pub sound_told : Planning bs [] a new → (a ≡ not_planned 10 sheet) ↔ Sound bs
  sound_told = CheckedByRoom.ten_if_sound

  pub fault_told : {n : ℕ} {w : Where} → first_fault bs ≡ fault n w → Planning bs [] a new → a ≡ not_planned n w
  fault_told = CheckedByRoom.fault_if_faulty

-- Demand 2. "Given room for the longest sheet its limits allow, a sound card is planned if and only if Figure 1 of document 000 derives
-- its goal, with its rules, from all must lines and any of the may lines, within its limits on nesting and steps;
pub planned_if_derivable : {bs old new : List ℕ} {a : PlanVerdict} → Sound bs → room_of bs ≤ length old → Planning bs old a new
    → ((k : ℕ) × (a ≡ planned k)) ↔ DerivableWithin (job_of bs)
planned_if_derivable = planned_exactly

-- A planned card is then derivable in 01's sense, which asks for no limits.
pub planned_derivable : {bs old new : List ℕ} {k : ℕ} → Sound bs → room_of bs ≤ length old → Planning bs old (planned k) new
    → Derivable (job_of bs)
planned_derivable {k = k} s room p = ((planned_exactly s room p).0 (k, refl)).derivation

-- and the sheet carries the first such list in the stated order."
pub sheet_carries_first : {bs old new : List ℕ} {k : ℕ} → Planning bs old (planned k) new → Carries bs old new k
sheet_carries_first = planned_sheet

-- Demand 3. "The list names one way of doing the job: any two derivations within limits have equal lists exactly when the same entry serves
-- every need; otherwise neither list is a beginning of the other.
pub lists_name_ways : (bs : List ℕ) (c d : DerivableWithin (job_of bs)) → ListsNameWays (job_of bs) c.derivation d.derivation
lists_name_ways bs c d = job_lists_name_ways (job_of bs) c.derivation d.derivation

-- The reader accepts exactly when the card is sound and the sheet holds the list of such a derivation with its true marks; its k is that
-- list's length." Every lent slice is `Bytes`, so the contract of reader::read says this of its answer with no premise. What holds a list
-- is accepted in any case.
pub accepted_if_holds : {bs sh : List ℕ} {a : ReadVerdict} → Bytes sh → Reading bs sh a → AcceptsExactly bs sh a
accepted_if_holds = accepts_exactly

pub holds_is_accepted : {bs sh : List ℕ} {k : ℕ} → Holds bs sh k → Reading bs sh (accepted k)
holds_is_accepted = holds_accepted

-- Together: what the planner writes, the reader accepts with the same k.
pub written_is_read : {bs old new : List ℕ} {k : ℕ} → Planning bs old (planned k) new → Reading bs (take (5 + k + line_count bs) new)
    (accepted k)
written_is_read = WrittenIsRead.written_is_read

-- The marks belong to the list (02, #105): two derivations of a card with the same list surely use the same items, so the sheet of a list is
-- one sheet. What is surely used stands in the list.
pub surely_goes_by_list : (bs : List ℕ) (c d : Derivation (job_of bs)) → steps c.tree ≡ steps d.tree
    → (i : ℕ) → surely c.tree i ≡ surely d.tree i
surely_goes_by_list bs c d e i = ap (λ U. U i) (job_surely (job_of bs) c d e)

pub one_sheet : (bs l : List ℕ) (x y : Listed (job_of bs) l) → sheet_of bs (surely_used x) l ≡ sheet_of bs (surely_used y) l
one_sheet bs l x y = ap (λ U. sheet_of bs U l) (listed_surely x y)

pub surely_in_list : (bs : List ℕ) (d : Derivation (job_of bs)) (i : ℕ) → surely d.tree i ≡ true → stands i (steps d.tree) ≡ true
surely_in_list bs d = surely_stands d.tree

-- "Mark 1 now means surely used, mark 3 in the list but not surely."
module _ (bs : List ℕ) (d : Derivation (job_of bs)) (i : ℕ) where
  pub mark_one_means : (mark_of bs (surely d.tree) (steps d.tree) i ≡ 1) ↔ (surely d.tree (rule_count bs + i) ≡ true)
  mark_one_means = MarksMean.mark_one bs d i

  pub mark_three_means : (mark_of bs (surely d.tree) (steps d.tree) i ≡ 3)
      ↔ ((stands (rule_count bs + i) (steps d.tree) ≡ true) × (surely d.tree (rule_count bs + i) ≡ false))
  mark_three_means = MarksMean.mark_three bs d i

-- What they mean to the fitter, who walks one side of each "either way": mark 1 is a line that every run uses, mark 3 one that some run uses
-- and some does not.
pub surely_on_every_run : (bs : List ℕ) (d : Derivation (job_of bs)) (i : ℕ) → (surely d.tree i ≡ true) ↔ OnEveryRun d.tree i
surely_on_every_run bs d = surely_means d.tree

pub used_one_way : {bs : List ℕ} → Sound bs → (d : Derivation (job_of bs)) (i : ℕ) → i < line_count bs
    → stands (rule_count bs + i) (steps d.tree) ≡ true → surely d.tree (rule_count bs + i) ≡ false
    → RunWith d.tree (rule_count bs + i) true × RunWith d.tree (rule_count bs + i) false
used_one_way = MarksMean.one_way

-- "At every goal met the count in the branch's record is what a scan of its open items finds" (02, #104). Every goal is met by a call of
-- engine::solve, whose contract asks for `CountIsScan`; so every caller proves it, by this.
pub count_at_every_goal : {bs waits tape nodes heads : List ℕ} {f : Floor} {b : Branch} → Ready bs waits tape nodes heads f b → CountIsScan bs b
count_at_every_goal = count_is_scan

-- "At most 103 stand in scope, so a number fits a byte": every entry of a sound card's list. The list's other steps are choices, 254 and 255
-- (02, #103), which no entry meets.
pub entries_fit_a_byte : {bs : List ℕ} → Sound bs → (d : DerivableWithin (job_of bs)) (e : ℕ)
    → stands e (entries_used d.derivation.tree) ≡ true → (e < rule_count bs + line_count bs + 103) × (e ≤ 230)
entries_fit_a_byte = entries_fit

pub entries_or_choices : (bs : List ℕ) (d : DerivableWithin (job_of bs)) (e : ℕ) → stands e (steps d.derivation.tree) ≡ true
    → (stands e (entries_used d.derivation.tree) ≡ true) ⊎ ((e ≡ left_choice) ⊎ (e ≡ right_choice))
entries_or_choices bs d = entry_or_choice d.derivation.tree

-- "Say what is wrong in the steps" (02, #102 and #103), of a sound card and a sheet that fits it. 13: step i names no entry in scope with a
-- head that is the name wanted, or takes no side that there is. 17: step i is nested above d. 18: step i is the first missing or extra one.
-- In each case the steps before it are the beginning of a walk, or, where step i is an extra one, all of it.
module _ {bs sh : List ℕ} (s : Sound bs) (f : sheet_fault bs sh ≡ sound) (i : ℕ) where
  pub thirteen_means : Reading bs sh (refused 13 (step i)) ↔ WrongStep bs (steps_of sh) 13 i
  thirteen_means = thirteen_told s f i

  pub seventeen_means : Reading bs sh (refused 17 (step i)) ↔ WrongStep bs (steps_of sh) 17 i
  seventeen_means = seventeen_told s f i

  pub eighteen_means : Reading bs sh (refused 18 (step i)) ↔ (WrongStep bs (steps_of sh) 18 i ⊎ ExtraStep bs (steps_of sh) i)
  eighteen_means = eighteen_told s f i

-- 19: "the walk is right but the items don't divide as the rules ask".
pub nineteen_means : {bs sh : List ℕ} → Sound bs → sheet_fault bs sh ≡ sound
    → Reading bs sh (refused 19 whole_steps) ↔ ((steps_fault bs (steps_of sh) ≡ sound) × (ItemsDivide (job_of bs) (steps_of sh) → ⊥))
nineteen_means = nineteen_told

-- "19 also where the walk passes 'never'."
pub never_means : {bs sh : List ℕ} → Sound bs → sheet_fault bs sh ≡ sound → NeverPassed bs (steps_of sh)
    → Reading bs sh (refused 19 whole_steps)
never_means = never_told

-- So steps, no more than s, that have none of the four are the list of a derivation within limits, and the other way round.
pub listed_if_none : (bs l : List ℕ) → length l ≤ step_limit bs
    → ((steps_fault bs l ≡ sound) × ItemsDivide (job_of bs) l) ↔ Listed (job_of bs) l
listed_if_none = none_found

-- Two cards on one bench (02, #101). The contract of bench::join says of its answer and of the buffer afterwards that they are a `Joining` of
-- both cards and the buffer before; that of bench::locate says that its answer is `source_of` the cards and the index. Neither asks
-- anything of its arguments.
module _ {a b old new : List ℕ} {v : JoinVerdict} where
  pub join_decides : Joining a b old v new → JoinDecided a b old new v
  join_decides = join_decided a b

pub join_decides_once : {a b old new new' : List ℕ} {v v' : JoinVerdict} → Joining a b old v new → Joining a b old v' new'
    → (v ≡ v') × (new ≡ new')
join_decides_once {a} {b} = join_determined a b

pub source_decides : (a b : List ℕ) (i : ℕ) → SourceDecided a b i (source_of a b i)
source_decides = source_decided

-- "If both cards have lists within limits that together fit 255 steps, an unrefused join can be planned."
pub join_is_planned : {a b old new room after : List ℕ} {n : ℕ} {l m : List ℕ} {v : PlanVerdict} → Joining a b old (joined n) new
    → Listed (job_of a) l → Listed (job_of b) m → length l + length m ≤ 255 → room_of (take n new) ≤ length room
    → Planning (take n new) room v after → (k : ℕ) × (v ≡ planned k)
join_is_planned j x y short fits p = JoinedIsPlanned.joined_is_planned j x y short fits p
