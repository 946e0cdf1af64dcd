-- The terms of the moves' contracts: the floor behind a list, the sides of a choice, the branch at the start.
use Rattle.std.specs.Prelude.{ℕ, ◌+◌, ◌-◌, Bool, false, not, cond, List, eqb}
use Rattle.calculus.specs.Formula.{usable}
use Rattle.calculus.specs.Steps.{left_choice}
use Rattle.card.specs.Format.{rule_count, line_count, step_limit, byte_at, left_at, right_at}
use Rattle.card.specs.Decode.{clause_of, scope_of}
use Rattle.lines.specs.Set.{empty_s, full_s, cut_s}
use Rattle.lines.specs.Count.{count_s}
use Rattle.lines.specs.Inner.Word.{empty_l}
use Rattle.scope.specs.Inner.Sets.{strict_of}
use Rattle.branch.specs.declared.Branch.{Branch}
use Rattle.branch.specs.declared.Floor.{Floor}

-- the floor behind so many steps, the last of which is to be passed
unfoldable pub raised_f : List ℕ → ℕ → Floor
raised_f tape at = record { fixed = at - 1; from = byte_at tape (at - 1) + 1 }

-- the side that a choice takes, and whether it is shut: of a menu, one whose heads are not the name wanted
unfoldable pub side_at : List ℕ → ℕ → ℕ → ℕ
side_at bs node c = cond (eqb c left_choice) (left_at bs node) (right_at bs node)

unfoldable pub shut_by : List ℕ → Bool → ℕ → ℕ → Bool
shut_by bs meets name part = cond meets (not (usable (scope_of bs).fits name (clause_of bs part))) false

-- The branch at the card's goal: every line at hand, must lines strict.
unfoldable pub start_b : List ℕ → Branch
start_b bs =
    record {
      at = 0;
      count = rule_count bs + line_count bs;
      len = 1;
      limit = step_limit bs;
      due = count_s (strict_of bs);
      strict = strict_of bs;
      lax = cut_s (full_s (line_count bs)) (strict_of bs);
      used = empty_s;
      seen = empty_l;
      slack = false;
    }
