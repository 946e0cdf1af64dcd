-- What the memory says: of each of its rows, that nothing is readable.
use Rattle.std.specs.Prelude.{ℕ, ◌-◌, ◌≤◌, ◌<◌, ◌≡◌, List, [], length}
use Rattle.calculus.specs.Items.{Items}
use Rattle.calculus.specs.Derivation.{Scope}
use Rattle.card.specs.Format.{rule_count}
use Rattle.lines.specs.declared.LineWord.{LineWord}
use Rattle.scope.specs.Inner.Sets.{items}
use Rattle.agenda.specs.Inner.Agenda.{Agenda}
use Rattle.agenda.specs.Inner.Sought.{Place, None}
use Rattle.entries.specs.Inner.Twins.{eligible}
use Rattle.entries.specs.Inner.Masks.{Seen}
use Rattle.branch.specs.declared.Branch.{Branch}
use Rattle.segment.specs.Inner.Tasks.{agenda_of}
use Rattle.dead.specs.Inner.Rows.{row_count, row_width, code_cells, word_cells, row_strict, row_lax, row_seen, row_len, row_room, row_agenda}

-- a place without a floor
abbrev pub open_place : List ℕ → Items → Items → ℕ → Place
open_place done S L r = record { done = done; given = []; from = 0; strict = S; lax = L; room = r }

-- Nothing is readable for the agenda with these items within r steps, after any steps in which just these lines stand.
pub record Barren (bs : List ℕ) (es : Scope) (A : Agenda) (S L : Items) (seen : LineWord) (r : ℕ) : Type 0 where
  pub barren : (done : List ℕ) → Seen bs seen done → None (eligible bs) es A (open_place done S L r)

-- so it is for the agenda in an array, in the branch
abbrev pub BarrenIn : List ℕ → Scope → List ℕ → Branch → Type 0
BarrenIn bs es agenda b =
    Barren bs es (agenda_of bs agenda b.len) (items (rule_count bs) b.strict) (items (rule_count bs) b.lax) b.seen
    (b.limit - b.at)

-- and for a row
abbrev pub BarrenRow : List ℕ → Scope → List ℕ → List ℕ → ℕ → Type 0
BarrenRow bs es codes words row =
    Barren bs es (row_agenda bs codes words row) (items (rule_count bs) (row_strict words row)) (items (rule_count bs) (row_lax words row))
    (row_seen words row) (row_room words row)

-- Every row that has tasks says what is so, and keeps within its places.
pub record Honest (bs : List ℕ) (es : Scope) (codes words : List ℕ) : Type 0 where
  pub code_room : length codes ≡ code_cells
  pub word_room : length words ≡ word_cells
  pub short : (row : ℕ) → row < row_count → row_len words row ≤ row_width
  pub rows : (row : ℕ) → row < row_count → 1 ≤ row_len words row → BarrenRow bs es codes words row

-- What is asked: the arrays' lengths, a next task, and a place within the step limit.
pub record Asking (codes words agenda : List ℕ) (b : Branch) : Type 0 where
  pub code_room : length codes ≡ code_cells
  pub word_room : length words ≡ word_cells
  pub task_room : length agenda ≡ 104
  pub some : 1 ≤ b.len
  pub onward : b.at ≤ b.limit
