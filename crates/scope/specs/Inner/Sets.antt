-- Line sets as sets of items, the must lines of a card as a line set, and the lines surely used as a set of lines.
use Rattle.std.specs.Prelude.{ℕ, zero, suc, ◌+◌, ◌-◌, ◌<◌, ◌≡◌, true, false, ◌&&◌, List, leb, eqb}
use Rattle.calculus.specs.Items.{Items}
use Rattle.calculus.specs.Steps.{stands}
use Rattle.calculus.specs.Job.{Listed, surely_used}
use Rattle.card.specs.Format.{rule_count, line_count, line_byte}
use Rattle.card.specs.Decode.{job_of}
use Rattle.lines.specs.declared.LineSet.{LineSet}
use Rattle.lines.specs.declared.LineWord.{LineWord}
use Rattle.lines.specs.Set.{member, empty_s, add_s}
use Rattle.lines.specs.Inner.Word.{line_in}

-- The items of a line set: item i is the entry P + i.
unfoldable pub items : ℕ → LineSet → Items
items P s e = leb P e && member s (e - P)

-- the must lines among the first n
unfoldable pub strict_below : List ℕ → ℕ → LineSet
strict_below bs zero = empty_s
strict_below bs (suc n) = elim (eqb (line_byte bs n) 1) [ true ↦ add_s (strict_below bs n) n | false ↦ strict_below bs n ]

unfoldable pub strict_of : List ℕ → LineSet
strict_of bs = strict_below bs (line_count bs)

-- a set of lines as items of the card
unfoldable pub word_items : List ℕ → LineWord → Items
word_items bs word e = line_in word (e - rule_count bs)

-- Of the lines, of which a card has at most 64, the word has just those that are among the items.
pub record LinesOf (P : ℕ) (word : LineWord) (U : Items) : Type 0 where
  pub line : (x : ℕ) → x < 64 → line_in word x ≡ U (P + x)

-- of the lines in the list l, the word has just those that a derivation with this list surely uses
pub record SureLines (bs l : List ℕ) (word : LineWord) : Type 0 where
  pub lines : (x : Listed (job_of bs) l) (i : ℕ) → i < line_count bs → stands (rule_count bs + i) l ≡ true
      → line_in word i ≡ surely_used x (rule_count bs + i)
