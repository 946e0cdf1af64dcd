-- The lines that stand in a list, gathered in a set, and the marks by that set and the lines surely used.
use Rattle.std.specs.Prelude.{ℕ, ◌+◌, ◌<◌, ◌≡◌, not, cond, List, eqb}
use Rattle.calculus.specs.Steps.{stands}
use Rattle.card.specs.Format.{byte_at, line_byte}
use Rattle.card.specs.Verdict.{Verdict, mark, refuse}
use Rattle.lines.specs.declared.LineWord.{LineWord}
use Rattle.lines.specs.Inner.Word.{line_in}

-- Of the lines, of which a card has at most 64, exactly those that stand in the list are in the set.
pub record Gathers (l : List ℕ) (rules : ℕ) (s : LineWord) : Type 0 where
  pub line : (x : ℕ) → x < 64 → line_in s x ≡ stands (rules + x) l

-- `mark_of` line i, where the lines in the set stand in the list and those of `sure` are surely used
abbrev pub mark_by : List ℕ → LineWord → LineWord → ℕ → ℕ
mark_by bs s sure i = cond (line_in s i) (cond (line_in sure i) 1 3) (cond (eqb (line_byte bs i) 1) 2 0)

-- `mark_fault`, by the same
abbrev pub fault_by : List ℕ → LineWord → LineWord → List ℕ → ℕ → Verdict
fault_by bs s sure marks i = refuse (not (eqb (byte_at marks i) (mark_by bs s sure i))) 14 (mark i)
