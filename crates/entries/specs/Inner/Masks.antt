-- Masks of lines, one word each: the lines that a line waits for, and the lines seen.
use Rattle.std.specs.Prelude.{ℕ, zero, suc, ◌+◌, ◌-◌, ◌^◌, ◌≤◌, ◌<◌, ◌≡◌, Bool, true, false, ◌&&◌, List, length, get_or, leb, ltb, eqb}
use Rattle.std.specs.Int.Bits.{bit_or}
use Rattle.calculus.specs.Steps.{stands}
use Rattle.card.specs.Format.{rule_count, line_count, line_node, line_byte}
use Rattle.lines.specs.declared.LineWord.{LineWord}
use Rattle.lines.specs.Inner.Word.{line_in, holds_l}
use Rattle.entries.specs.Inner.Twins.{waits}

-- the mask with line i, where the test holds
unfoldable pub with_line : Bool → ℕ → ℕ → ℕ
with_line true mask i = bit_or mask (2 ^ i)
with_line false mask i = mask

-- the mask of the lines below n that pass
unfoldable pub passing : (ℕ → Bool) → ℕ → ℕ
passing p zero = 0
passing p (suc n) = with_line (p n) (passing p n) n

-- line x has this node
unfoldable pub has_node : List ℕ → ℕ → ℕ → Bool
has_node bs node x = eqb (line_node bs x) node

-- line x has this node and is must
unfoldable pub must_node : List ℕ → ℕ → ℕ → Bool
must_node bs node x = eqb (line_node bs x) node && eqb (line_byte bs x) 1

-- of a must line the must lines, of a may line all
unfoldable pub wider : Bool → ℕ → ℕ → ℕ
wider true musts all = musts
wider false musts all = all

-- the lines of mask i
abbrev pub mask_at : List ℕ → ℕ → LineWord
mask_at masks i = record { bits = get_or masks i 0 }

-- The masks of the lines that each line of the card waits for.
pub record Waiting (bs masks : List ℕ) : Type 0 where
  pub room : length masks ≡ 64
  pub words : (i : ℕ) → i < line_count bs → get_or masks i 0 < 2 ^ 64
  pub bits : (i : ℕ) → i < line_count bs → (x : ℕ) → line_in (mask_at masks i) x ≡ waits bs i x

-- Every line that the entry e waits for, by its mask, is seen; an entry that is no line waits for none.
unfoldable pub ready_by : ℕ → ℕ → List ℕ → LineWord → ℕ → Bool
ready_by rules lines masks seen e =
    elim (leb rules e && ltb e (rules + lines)) [ true ↦ holds_l seen (mask_at masks (e - rules)) | false ↦ true ]

-- Of the card's lines, which have their places in a word, exactly those seen stand among the steps so far.
pub record Seen (bs : List ℕ) (seen : LineWord) (done : List ℕ) : Type 0 where
  pub few : line_count bs ≤ 64
  pub line : (x : ℕ) → x < line_count bs → line_in seen x ≡ stands (rule_count bs + x) done
