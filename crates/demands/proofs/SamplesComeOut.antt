-- 01's sample card and a card whose list has a rule, a line and a lent clause: planned with their sheets, which are accepted.
use Prim.Native.Nat.{ℕ, ◌+◌, ◌≤◌}
use mathlib.Core.Path.{◌≡◌, ap, subst}
use mathlib.Core.List.{List, [], ◌∷◌, ◌++◌}
use lib.ListN.{length, drop}
use Rattle.calculus.specs.Job.{surely_used}
use Rattle.card.specs.Format.{line_count}
use Rattle.card.specs.Sheet.{sheet_of, word}
use Rattle.card.specs.Sample.{sample, sample_sheet}
use Rattle.planning.specs.Plan.{Planning, planned, planned_as, room_of}
use Rattle.planner.specs.Trays.{mixed, mixed_sheet, PlannedAs}
use Rattle.planner.proofs.TraysComeOut.{each_sample_comes}
use Rattle.reader.specs.Read.{Reading, accepted}
use Rattle.reader.proofs.AcceptedExactly.{round_trip}

abbrev sample_comes : PlannedAs sample (1 ∷ 0 ∷ []) (1 ∷ 1 ∷ 0 ∷ [])
sample_comes = each_sample_comes.0

abbrev mixed_comes : PlannedAs mixed (0 ∷ 2 ∷ 1 ∷ []) (1 ∷ [])
mixed_comes = each_sample_comes.1.0

-- the sheet of a card whose list and marks are known
known : {bs l m : List ℕ} (p : PlannedAs bs l m) → sheet_of bs (surely_used p.first.listed) l
    ≡ word (5 + length l + line_count bs) ++ (1 ∷ length l ∷ line_count bs ∷ (l ++ m))
unfolding sheet_of
known {bs} {l} p = ap (λ (x : List ℕ). word (5 + length l + line_count bs) ++ (1 ∷ length l ∷ line_count bs ∷ (l ++ x))) p.marks

pub sample_planned : (old : List ℕ) → room_of sample ≤ length old → Planning sample old (planned 2) (sample_sheet ++ drop 10 old)
unfolding word
sample_planned old h =
    subst (λ s. Planning sample old (planned 2) (s ++ drop 10 old)) (known sample_comes)
    (planned_as sample_comes.sound h (1 ∷ 0 ∷ []) sample_comes.first)

pub sample_read : Reading sample sample_sheet (accepted 2)
unfolding word
sample_read =
    subst (λ s. Reading sample s (accepted 2)) (known sample_comes)
    (round_trip sample (1 ∷ 0 ∷ []) sample_comes.sound sample_comes.first)

pub mixed_planned : (old : List ℕ) → room_of mixed ≤ length old → Planning mixed old (planned 3) (mixed_sheet ++ drop 9 old)
unfolding word
mixed_planned old h =
    subst (λ s. Planning mixed old (planned 3) (s ++ drop 9 old)) (known mixed_comes)
    (planned_as mixed_comes.sound h (0 ∷ 2 ∷ 1 ∷ []) mixed_comes.first)

pub mixed_read : Reading mixed mixed_sheet (accepted 3)
unfolding word
mixed_read =
    subst (λ s. Reading mixed s (accepted 3)) (known mixed_comes)
    (round_trip mixed (0 ∷ 2 ∷ 1 ∷ []) mixed_comes.sound mixed_comes.first)
