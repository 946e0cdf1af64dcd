-- The trays of document 01 come out as it says: all lists of each card are enumerated, and the one given is the first of them, or there
-- is none.
use Prim.Native.Nat.{ℕ}
use mathlib.Core.Path.{◌≡◌, refl, ap, ◌∙◌}
use mathlib.Core.Bool.{true}
use mathlib.Core.List.{List, [], flat_map}
use Rattle.calculus.specs.Formula.{residual, matched}
use Rattle.calculus.specs.Items.{∅, ◌∪◌, ◌∩◌, ◌∖◌, only}
use Rattle.calculus.specs.Derivation.{size, entry_at, clause_at, linear_at, residual_at, extend, lend}
use Rattle.calculus.specs.Steps.{stands}
use Rattle.calculus.specs.Inner.Surely.{surely_in_turn, taken, used_first, goal_surely, entry_surely, name_surely, surely_of}
use Rattle.calculus.specs.Inner.Enumeration.{kept, pairs, below, all, apart, covering, tensored, sided, lent, taking_use, side_taken, takings, named}
use Rattle.calculus.specs.Inner.Enumeration.{fitting, lists, matches, among, leads}
use Rattle.calculus.proofs.SurelyByList.{surely_of_lem}
use Rattle.calculus.proofs.EnumerationExact.{first_listed, none_listed}
use Rattle.card.specs.Format.{listing, grow}
use Rattle.card.specs.Verdict.{sound, refuse, ◌▹◌, first_of}
use Rattle.card.specs.Kinds.{kinds, kind_of}
use Rattle.card.specs.Fault.{first_fault, front_fault, in_range, given, is_goal, is_clause, goal_part, clause_part, fits_field, well_built}
use Rattle.card.specs.Fault.{part_height, height_step, height_at, node_fault, goal_fault, rule_fault, line_good, line_fault}
use Rattle.card.specs.Decode.{scope_of, job_of, held, read_by, read_step, read_at, goal_at, clause_of, rule_entry, line_entry, lines_with}
use Rattle.card.specs.Sheet.{mark_of, marks_of}
use Rattle.card.proofs.NodesDecoded.{lines_bounded}
use Rattle.planner.specs.Trays.{PlannedAs, Underivable, EachComes, trays, samples}

planned_by : {bs l m : List ℕ} → first_fault bs ≡ sound → among l (lists (job_of bs)) ≡ true → leads l (lists (job_of bs)) ≡ true
    → marks_of bs (surely_of (job_of bs) l) l ≡ m → PlannedAs bs l m
planned_by {bs} {l} s p q m =
    let f = first_listed (job_of bs) l (lines_bounded bs) p q in
    record { sound = record { faultless = s }; first = f; marks = ap (λ U. marks_of bs U l) (surely_of_lem f.listed) ∙ m }

no_plan_by : {bs : List ℕ} → first_fault bs ≡ sound → lists (job_of bs) ≡ [] → Underivable bs
no_plan_by {bs} s e = record { sound = record { faultless = s }; none = none_listed (job_of bs) (lines_bounded bs) e }

-- one row, and those after it
infixr 20 ◌⋀◌
◌⋀◌ : {A B : Type 0} → A → B → A × B
a ⋀ b = (a, b)

all_come : EachComes trays × EachComes samples
unfolding ◌⋀◌ kinds kind_of given fits_field part_height held read_by
    first_fault front_fault in_range is_goal is_clause goal_part clause_part well_built height_step height_at node_fault goal_fault
    rule_fault line_fault line_good refuse ◌▹◌ first_of grow listing scope_of job_of read_step read_at goal_at clause_of rule_entry line_entry lines_with
    marks_of mark_of stands surely_in_turn taken used_first goal_surely entry_surely name_surely surely_of residual matched ∅ ◌∪◌ ◌∩◌ ◌∖◌ only size entry_at
    clause_at linear_at residual_at extend lend flat_map kept pairs below
    all apart covering tensored sided lent taking_use side_taken takings named fitting lists matches among leads
all_come = (
  planned_by refl refl refl refl
      ⋀ no_plan_by refl refl
      ⋀ planned_by refl refl refl refl
      ⋀ planned_by refl refl refl refl
      ⋀ no_plan_by refl refl
      ⋀ planned_by refl refl refl refl
      ⋀ planned_by refl refl refl refl
      ⋀ planned_by refl refl refl refl
      ⋀ planned_by refl refl refl refl
      ⋀ planned_by refl refl refl refl
      ⋀ no_plan_by refl refl
      ⋀ planned_by refl refl refl refl
      ⋀ no_plan_by refl refl
      ⋀ planned_by refl refl refl refl
      ⋀ planned_by refl refl refl refl
      ⋀ no_plan_by refl refl
      ⋀ planned_by refl refl refl refl
      ⋀ planned_by refl refl refl refl
      ⋀ planned_by refl refl refl refl
      ⋀ planned_by refl refl refl refl
      ⋀ planned_by refl refl refl refl
      ⋀ planned_by refl refl refl refl
      ⋀ planned_by refl refl refl refl
      ⋀ no_plan_by refl refl
      ⋀ no_plan_by refl refl
      ⋀ planned_by refl refl refl refl
      ⋀ planned_by refl refl refl refl
      ⋀ planned_by refl refl refl refl
      ⋀ planned_by refl refl refl refl
      ⋀ planned_by refl refl refl refl
      ⋀ tt,
  planned_by refl refl refl refl ⋀ planned_by refl refl refl refl ⋀ tt,
)

-- The statement for the list of 01's trays.
pub each_comes : EachComes trays
each_comes = all_come.0

-- And for the sample cards.
pub each_sample_comes : EachComes samples
each_sample_comes = all_come.1
