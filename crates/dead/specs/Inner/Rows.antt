-- The rows of the memory: which one is a key's, and how a row is read back, compared and written.
use Rattle.std.specs.Prelude.{ℕ, zero, suc, ◌+◌, ◌-◌, ◌*◌, ◌/◌, ◌≤◌, ◌<◌, ◌≡◌, ◌⊎◌, List, length, get_or, drop}
use Rattle.std.specs.Int.Bits.{bit_and, bit_xor}
use Rattle.lines.specs.declared.LineSet.{LineSet}
use Rattle.lines.specs.declared.LineWord.{LineWord}
use Rattle.agenda.specs.Inner.Agenda.{Agenda}
use Rattle.branch.specs.declared.Branch.{Branch}
use Rattle.segment.specs.Inner.Tasks.{agenda_of}
use Rattle.keys.specs.Inner.Keys.{key_words}

-- How many rows there are, the codes of a row, and the cells of all rows. A row has nine words.
abbrev pub row_count : ℕ
row_count = 1024

abbrev pub row_width : ℕ
row_width = 16

abbrev pub code_cells : ℕ
code_cells = 16384

abbrev pub word_cells : ℕ
word_cells = 9216

-- One more number in the sum that picks a row: its digits are mixed by a multiplication of 32 bits.
unfoldable pub mix : ℕ → ℕ → ℕ
mix sum x =
    let p = bit_and (bit_xor (bit_xor sum x) (x / 4294967296)) 4294967295 * 2654435769 in
    bit_xor p (p / 4294967296)

-- the sum of the lines at hand, the lines seen and the first n tasks
unfoldable pub key_sum : List ℕ → Branch → ℕ → ℕ
key_sum agenda b zero = mix (mix (mix 0 b.strict.low) b.lax.low) b.seen.bits
key_sum agenda b (suc n) = mix (key_sum agenda b n) (get_or agenda n 0)

-- the row where the branch's key is kept: any choice would do, as long as the same is looked up
unfoldable pub key_row : List ℕ → Branch → ℕ
key_row agenda b = bit_and (key_sum agenda b b.len) 1023

-- word j of a row
unfoldable pub memory_word : List ℕ → ℕ → ℕ → ℕ
memory_word words row j = get_or words (row * 9 + j) 0

-- The key and the room of a row.
unfoldable pub row_strict : List ℕ → ℕ → LineSet
row_strict words row = record { low = memory_word words row 0; mid = memory_word words row 1; high = memory_word words row 2 }

unfoldable pub row_lax : List ℕ → ℕ → LineSet
row_lax words row = record { low = memory_word words row 3; mid = memory_word words row 4; high = memory_word words row 5 }

unfoldable pub row_seen : List ℕ → ℕ → LineWord
row_seen words row = record { bits = memory_word words row 6 }

unfoldable pub row_len : List ℕ → ℕ → ℕ
row_len words row = memory_word words row 7

unfoldable pub row_room : List ℕ → ℕ → ℕ
row_room words row = memory_word words row 8

unfoldable pub row_agenda : List ℕ → List ℕ → List ℕ → ℕ → Agenda
row_agenda bs codes words row = agenda_of bs (drop (row * row_width) codes) (row_len words row)

-- from `at` on xs has the first n of ys
pub record SameRow (xs : List ℕ) (at : ℕ) (ys : List ℕ) (n : ℕ) : Type 0 where
  pub same : (i : ℕ) → i < n → get_or xs (at + i) 0 ≡ get_or ys i 0

-- from `at` on the first n of ys are put into xs; all else is as it was
pub record Put (xs xs' : List ℕ) (at : ℕ) (ys : List ℕ) (n : ℕ) : Type 0 where
  pub room : length xs' ≡ length xs
  pub here : SameRow xs' at ys n
  pub others : (k : ℕ) → (k < at) ⊎ (at + n ≤ k) → get_or xs' k 0 ≡ get_or xs k 0

-- The row of the branch's key has that key and as much room. An agenda that is too long for a row is not kept.
pub record Stored (codes words agenda : List ℕ) (b : Branch) : Type 0 where
  pub short : b.len ≤ row_width
  pub key : SameRow words (key_row agenda b * 9) (key_words b) 8
  pub tasks : SameRow codes (key_row agenda b * row_width) agenda b.len
  pub room : b.limit - b.at ≤ row_room words (key_row agenda b)

-- The row of the branch's key is given that key and its room, and all else is as it was; nothing is for an agenda that is too long.
pub record Recorded (codes words codes' words' agenda : List ℕ) (b : Branch) : Type 0 where
  pub tasks : b.len ≤ row_width → Put codes codes' (key_row agenda b * row_width) agenda b.len
  pub key : b.len ≤ row_width → Put words words' (key_row agenda b * 9) (key_words b) 9
  pub long : row_width < b.len → (codes' ≡ codes) × (words' ≡ words)
