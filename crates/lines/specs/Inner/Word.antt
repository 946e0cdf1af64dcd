-- 01: the set of the tray's lines alone, in one word: line i is bit i, so there is none from 64 on.
use Rattle.std.specs.Prelude.{Bool, ℕ, ◌-◌, eqb}
use Rattle.std.specs.Int.Bits.{bit_and, bit_or}
use Rattle.std.specs.Int.Count.{count_trailing_zeros}
use Rattle.lines.specs.declared.LineSet.{LineSet}
use Rattle.lines.specs.declared.LineWord.{LineWord}
use Rattle.lines.specs.Set.{bit_at, one_s}
use Rattle.lines.specs.Count.{number}

-- line i is in the set
abbrev pub line_in : LineWord → ℕ → Bool
line_in s i = bit_at s.bits i

-- the lines of a line set
abbrev pub lines_of : LineSet → LineWord
lines_of s = record { bits = s.low }

abbrev pub empty_l : LineWord
empty_l = record { bits = 0 }

-- the lines of both
abbrev pub meet_l : LineWord → LineWord → LineWord
meet_l s t = record { bits = bit_and s.bits t.bits }

-- the lines of either
abbrev pub join_l : LineWord → LineWord → LineWord
join_l s t = record { bits = bit_or s.bits t.bits }

-- the set with line i; the set itself from 64 on
unfoldable pub add_l : LineWord → ℕ → LineWord
add_l s i = join_l s (lines_of (one_s i))

-- every line of t is in s
abbrev pub holds_l : LineWord → LineWord → Bool
holds_l s t = eqb (bit_and t.bits s.bits) t.bits

-- no line is in the set
abbrev pub is_empty_l : LineWord → Bool
is_empty_l s = eqb s.bits 0

-- how many lines are in the set
unfoldable pub count_l : LineWord → ℕ
count_l s = number (line_in s) 64

-- the least line of a set that is not empty, and the set without it: as many digits stand below it, and taking 1 off clears no other
abbrev pub lowest_l : LineWord → ℕ
lowest_l s = count_trailing_zeros 64 s.bits

abbrev pub rest_l : LineWord → LineWord
rest_l s = record { bits = bit_and s.bits (s.bits - 1) }
