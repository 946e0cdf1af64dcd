-- The lines of a set of one word: what each operation does to them, and which is the least. Assumes nothing.
use mathlib.Core.Path.{◌≡◌, refl, sym, ap, ap₂, ◌∙◌}
use mathlib.Core.Bool.{Bool, true, false, not, ◌&&◌, ◌||◌, or_comm}
use mathlib.Core.Logic.{◌⊎◌, inl, inr}
use Prim.Native.Nat.{ℕ, ◌-◌, ◌/◌, ◌%◌, ◌^◌, ◌≤◌, ◌<◌}
use native.Mathlib.Omega.{arith}
use borrow.Author.Tests.{eq-eqb, ne_eqb, eqb-true, eqb-false}
use lib.Dec.{eqb}
use lib.Bits.{bit_and, bit_or, or_zero_r, and_le_l, and_le_r}
use Rattle.lines.specs.declared.LineSet.{LineSet}
use Rattle.lines.specs.declared.LineWord.{LineWord}
use Rattle.lines.specs.Set.{bit_at, word_of, member, keep, word_s, one_s}
use Rattle.lines.specs.Inner.Word.{line_in, lines_of, empty_l, add_l, meet_l, join_l, holds_l, is_empty_l, count_l, lowest_l, rest_l}
use Rattle.lines.proofs.Word.{bit_and_lem, bit_or_lem, bit_zero, bit_past, bit_pow, bit_ext}
use Rattle.lines.proofs.Lowest.{bits_under, bits_left, bit_lowest, bit_dropped}
use Rattle.lines.proofs.CountLaws.{number_le}

-- the lines of a line set are its items below 64
pub line_of : (s : LineSet) (i : ℕ) → i < 64 → line_in (lines_of s) i ≡ member s i
unfolding member word_of
line_of s i h =
    let q : 0 ≡ i / 64 = omega arith in
    let r : i ≡ i % 64 = omega arith in
    ap₂ (λ (k j : ℕ). bit_at (word_of s k) j) q r

pub line_empty : (i : ℕ) → line_in empty_l i ≡ false
line_empty i = bit_zero i

-- a word of the machine has no line from 64 on
pub line_past : (s : LineWord) (i : ℕ) → s.bits < 2 ^ 64 → 64 ≤ i → line_in s i ≡ false
line_past s i h k = bit_past 64 s.bits i h k

pub add_below : (s : LineWord) (i : ℕ) → i < 64 → add_l s i ≡ record { bits = bit_or s.bits (2 ^ i) }
unfolding add_l one_s word_s keep
add_below s i h =
    let q : i / 64 ≡ 0 = omega arith in
    let r : i % 64 ≡ i = omega arith in
    rw (eq-eqb (i / 64) 0 q, r) refl

pub add_beyond : (s : LineWord) (i : ℕ) → 64 ≤ i → add_l s i ≡ s
unfolding add_l one_s word_s keep
add_beyond s i h = rw (ne_eqb (i / 64) 0 (omega arith)) (λ d. record { bits = or_zero_r s.bits d })

pub line_add : (s : LineWord) (i j : ℕ) → i < 64 → line_in (add_l s i) j ≡ (eqb j i || line_in s j)
line_add s i j h =
    rw (add_below s i h)
    (bit_or_lem s.bits (2 ^ i) j ∙ or_comm (bit_at s.bits j) (bit_at (2 ^ i) j) ∙ ap (λ (x : Bool). x || bit_at s.bits j) (bit_pow i j))

pub line_meet : (s t : LineWord) (i : ℕ) → line_in (meet_l s t) i ≡ (line_in s i && line_in t i)
line_meet s t i = bit_and_lem s.bits t.bits i

pub line_join : (s t : LineWord) (i : ℕ) → line_in (join_l s t) i ≡ (line_in s i || line_in t i)
line_join s t i = bit_or_lem s.bits t.bits i

-- ---- a set within another

pub holds_all : (s t : LineWord) → holds_l s t ≡ true → (i : ℕ) → line_in t i ≡ true → line_in s i ≡ true
holds_all s t h i k =
    ap (λ (x : Bool). x && bit_at s.bits i) (sym k) ∙ sym (bit_and_lem t.bits s.bits i)
    ∙ ap (λ (a : ℕ). bit_at a i) (eqb-true (bit_and t.bits s.bits) t.bits h) ∙ k

pub all_holds : (s t : LineWord) → t.bits < 2 ^ 64 → ((i : ℕ) → i < 64 → line_in t i ≡ true → line_in s i ≡ true) → holds_l s t ≡ true
all_holds s t h f =
    let low = and_le_l t.bits s.bits in
    eq-eqb (bit_and t.bits s.bits) t.bits
    (bit_ext 64 (bit_and t.bits s.bits) t.bits (omega arith) h
    (λ j l. bit_and_lem t.bits s.bits j ∙ absorbed (bit_at t.bits j) (bit_at s.bits j) (f j l)))
  where
    absorbed : (a b : Bool) → (a ≡ true → b ≡ true) → (a && b) ≡ a
    absorbed true b h = h refl
    absorbed false b h = refl

-- ---- no line, and how many

pub no_line : (s : LineWord) → is_empty_l s ≡ true → (i : ℕ) → line_in s i ≡ false
no_line s e i = ap (λ (a : ℕ). bit_at a i) (eqb-true s.bits 0 e) ∙ bit_zero i

pub count_few : (s : LineWord) → count_l s ≤ 64
unfolding count_l
count_few s = number_le (line_in s) 64

-- ---- the least line, of a set that is not empty

pub under_lowest : (s : LineWord) (i : ℕ) → i < lowest_l s → line_in s i ≡ false
under_lowest s i h = bits_under 64 s.bits i h

module _ (s : LineWord) (fits : s.bits < 2 ^ 64) (some : is_empty_l s ≡ false) where
  positive : 0 < s.bits
  positive = let n = eqb-false s.bits 0 some in omega arith

  pub lowest_in : line_in s (lowest_l s) ≡ true
  lowest_in = bit_lowest 64 s.bits positive fits

  -- without it
  pub rest_less : (rest_l s).bits < s.bits
  rest_less = let p = positive in omega (arith, and_le_r s.bits (s.bits - 1))

  pub line_rest : (j : ℕ) → line_in (rest_l s) j ≡ (line_in s j && not (eqb j (lowest_l s)))
  line_rest j = bit_and_lem s.bits (s.bits - 1) j ∙ go (bit_at s.bits j) refl (eqb j (lowest_l s)) refl
    where
      stays : (j ≡ lowest_l s → ⊥) → (bit_at (s.bits - 1) j ≡ true) ⊎ (j ≡ lowest_l s) → bit_at (s.bits - 1) j ≡ true
      stays n (inl t) = t
      stays n (inr q) = absurd (n q)

      go : (a : Bool) → bit_at s.bits j ≡ a → (b : Bool) → eqb j (lowest_l s) ≡ b → (a && bit_at (s.bits - 1) j) ≡ (a && not b)
      go true p true q =
          ap (bit_at (s.bits - 1)) (eqb-true j (lowest_l s) q) ∙ bit_dropped 64 s.bits positive fits
      go true p false q = stays (eqb-false j (lowest_l s) q) (bits_left 64 s.bits j fits p)
      go false p b q = refl
