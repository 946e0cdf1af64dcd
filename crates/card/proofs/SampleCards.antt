-- Cards by their bytes, seen to be sound and to say what 01 says of them.
use Prim.Native.Nat.{ℕ, zero-le}
use native.Mathlib.Omega.{arith}
use mathlib.Core.Path.{◌≡◌, refl, sym, ◌∙◌}
use mathlib.Core.Bool.{true, false}
use mathlib.Core.List.{List, [], ◌∷◌}
use borrow.Author.Tests.{le-ltb, le-leb}
use Rattle.calculus.specs.Items.{Items, ∅, ◌∪◌, only, Empty}
use Rattle.calculus.specs.Derivation.{Scope, Derives, res_1}
use Rattle.calculus.specs.Steps.{stands, steps, nesting}
use Rattle.calculus.specs.Job.{Listed}
use Rattle.calculus.specs.Formula.{atomᴳ, oneᴳ, atomᴰ, lolliᴰ}
use Rattle.card.specs.Format.{listing, grow}
use Rattle.card.specs.Verdict.{Verdict, refuse, ◌▹◌, first_of}
use Rattle.card.specs.Fault.{Sound, first_fault, front_fault, node_fault, goal_fault, rule_fault, line_fault}
use Rattle.card.specs.Kinds.{kinds, kind_of}
use Rattle.card.specs.Fault.{in_range, given, is_goal, is_clause, goal_part, clause_part, fits_field, well_built, part_height, height_step}
use Rattle.card.specs.Fault.{height_at, line_good}
use Rattle.card.specs.Decode.{goal_at, clause_of, held, read_by, read_at, read_step, lines_with, job_of}
use Rattle.card.specs.Sheet.{sheet_of, word, marks_of, mark_of}
use Rattle.card.specs.Sample.{sample, sample_sheet, least, left_over}

-- the whole check; to unfold this is to unfold all of it
run : List ℕ → Verdict
unfolding first_fault front_fault in_range kinds kind_of given is_goal is_clause goal_part clause_part fits_field well_built part_height height_step
    height_at node_fault goal_fault rule_fault line_fault line_good refuse ◌▹◌ first_of grow
run = first_fault

-- 01's sample card
sample_sound : Sound sample
unfolding run
sample_sound = record { faultless = refl }

sample_goal : goal_at sample 1 ≡ atomᴳ 20
unfolding goal_at read_at read_step read_by held kinds kind_of grow
sample_goal = refl

sample_recipe : clause_of sample 2 ≡ lolliᴰ (atomᴳ 10) (atomᴰ 20)
unfolding clause_of read_at read_step read_by held kinds kind_of grow
sample_recipe = refl

-- its list uses line 1 and, in a condition, line 0
sample_sheet_lem : sheet_of sample (only 1 ∪ only 0) (1 ∷ 0 ∷ []) ≡ sample_sheet
unfolding sheet_of word marks_of mark_of stands listing ◌∪◌ only
sample_sheet_lem = refl

-- The definitions are not empty: an empty tray with goal done has the empty list.
least_sound : Sound least
unfolding run
least_sound = record { faultless = refl }

no_lines : (i : ℕ) → lines_with least 1 i ≡ false
unfolding lines_with
no_lines i = simp (le-leb 0 i zero-le, le-ltb i 0 zero-le)

least_listed : Listed (job_of least) []
unfolding job_of goal_at read_at read_step read_by held kinds kind_of grow steps nesting ∅
least_listed = record {
  derivation = record {
    items = ∅;
    all_strict = record { kept = λ i h. sym (no_lines i) ∙ h };
    none_else = record { kept = λ i h. absurd (let z : ◌≡◌ {A = ℕ} 0 1 = cc in omega arith) };
    tree = res_1 (record { vacant = λ i. refl });
  };
  limited = record { nested = zero-le; counted = zero-le };
  list = refl;
}

-- And not full: a must line with goal done has no list at all.
left_over_sound : Sound left_over
unfolding run
left_over_sound = record { faultless = refl }

from_none : {es : Scope} {I : Items} → Derives es I oneᴳ → Empty I
from_none (res_1 e) = e

left_over_not_listed : (l : List ℕ) → Listed (job_of left_over) l → ⊥
unfolding job_of goal_at read_at read_step read_by held kinds kind_of grow lines_with
left_over_not_listed l x =
    let e = (from_none x.derivation.tree).vacant 0 in
    let t = x.derivation.all_strict.kept 0 refl in
    let z : true ≡ false = sym t ∙ e in
    let n : ◌≡◌ {A = ℕ} 0 1 = cc in omega arith
