-- What the calls over two cards answer and leave in the lent buffer (02, #101).
use Rattle.std.specs.Prelude.{ℕ, ◌+◌, ◌-◌, ◌≤◌, ◌≡◌, cond, List, [], ◌++◌, length, take, drop, leb, ltb, Some, Result, Ok, Err}
use Rattle.card.specs.Format.{line_count, line_start}
use Rattle.card.specs.Verdict.{Where, card, line, sheet, number_of, where_of, refuse}
use Rattle.card.specs.Fault.{Placed}
use Rattle.joined.specs.Joined.{joined_lines, joined_length, joined_card}
use Rattle.benched.specs.Benched.{Owner, BenchVerdict, fine, stopped, neither, first, second, about, ◌▸◌, bench_fault, said_of, owner_of}
use Rattle.benched.specs.declared.BenchRefusal.{BenchRefusal}
use Rattle.bench.specs.declared.LineSource.{LineSource}

-- "then, joining, 10 (always place sheet) for a buffer short of the joined card"
unfoldable pub join_fault : List ℕ → List ℕ → ℕ → BenchVerdict
join_fault a b size = bench_fault a b ▸ about neither (refuse (ltb size (joined_length a b)) 10 sheet)

-- Joined with the length, or a refusal.
pub data JoinVerdict : Type 0 where
  joined : ℕ → JoinVerdict
  refused : Owner → ℕ → Where → JoinVerdict

-- The outcome of joining: for both cards and the old buffer, the answer and the new buffer. "after a refusal neither it nor anything else
-- lent has changed"; "Bytes past the sheet, as past anything else written into a lent buffer, keep what they held."
pub data Joining (a b old : List ℕ) : JoinVerdict → List ℕ → Type 0 where
  is_refused : {o : Owner} {n : ℕ} {w : Where} → join_fault a b (length old) ≡ stopped o n w → Joining a b old (refused o n w) old
  is_joined : join_fault a b (length old) ≡ fine
      → Joining a b old (joined (joined_length a b)) (joined_card a b ++ drop (joined_length a b) old)

-- A card's own refusal, told of it, with a number of 1 to 9 and a place that it has; or 15, which is neither's.
pub data Owned (a b : List ℕ) : Owner → ℕ → Where → Type 0 where
  of_first : {n : ℕ} {w : Where} → (1 ≤ n) × (n ≤ 9) → Placed a w → Owned a b first n w
  of_second : {n : ℕ} {w : Where} → (1 ≤ n) × (n ≤ 9) → Placed b w → Owned a b second n w
  of_neither : Owned a b neither 15 card

-- Demand 1. A decision: joined with a length that the buffer and a card have room for; or refused, the buffer as it was.
pub data JoinDecided (a b old new : List ℕ) : JoinVerdict → Type 0 where
  whole : {n : ℕ} → n ≤ length old → n ≤ 2891 → JoinDecided a b old new (joined n)
  by_card : {o : Owner} {n : ℕ} {w : Where} → Owned a b o n w → new ≡ old → JoinDecided a b old new (refused o n w)
  too_short : new ≡ old → JoinDecided a b old new (refused neither 10 sheet)

-- "asking, 16, place line i, for an index not below the joined T"
abbrev pub index_fault : List ℕ → List ℕ → ℕ → BenchVerdict
index_fault a b i = about neither (refuse (leb (joined_lines a b) i) 16 (line i))

unfoldable pub source_fault : List ℕ → List ℕ → ℕ → BenchVerdict
source_fault a b i = bench_fault a b ▸ index_fault a b i

-- Which card holds a joined line, and where its three bytes begin there; or a refusal.
pub data SourceVerdict : Type 0 where
  held : Owner → ℕ → SourceVerdict
  unheld : Owner → ℕ → Where → SourceVerdict

-- "whichever card holds them": the first card's lines are followed by the second's
unfoldable pub holder : List ℕ → List ℕ → ℕ → SourceVerdict
holder a b i = cond (ltb i (line_count a)) (held first (line_start a i)) (held second (line_start b (i - line_count a)))

-- The outcome of asking for joined line i.
unfoldable pub source_of : List ℕ → List ℕ → ℕ → SourceVerdict
source_of a b i = said_of (holder a b i) unheld (source_fault a b i)

-- "its three bytes are handed back as they stand in whichever card holds them"; "A refused question hands back an empty part"
unfoldable pub part_of : List ℕ → List ℕ → SourceVerdict → List ℕ
part_of a b (held first at) = take 3 (drop at a)
part_of a b (held second at) = take 3 (drop at b)
part_of a b (held neither at) = []
part_of a b (unheld o n w) = []

-- what is handed back of joined line i
abbrev pub source_part : List ℕ → List ℕ → ℕ → List ℕ
source_part a b i = part_of a b (source_of a b i)

-- Demand 1. A decision: three bytes of one of the cards, of which none is longer than 2,891 bytes; or refused.
pub data SourceDecided (a b : List ℕ) (i : ℕ) : SourceVerdict → Type 0 where
  in_first : {at : ℕ} → at + 3 ≤ length a → length a ≤ 2891 → SourceDecided a b i (held first at)
  in_second : {at : ℕ} → at + 3 ≤ length b → length b ≤ 2891 → SourceDecided a b i (held second at)
  unasked : {o : Owner} {n : ℕ} {w : Where} → Owned a b o n w → SourceDecided a b i (unheld o n w)
  beyond : SourceDecided a b i (unheld neither 16 (line i))

-- what a call answers: its number, or which card holds the line, and where; else 02's card, number and place of its refusal
unfoldable pub told_join : Result ℕ BenchRefusal → JoinVerdict
told_join (Ok n) = joined n
told_join (Err r) = refused (owner_of r.card) (number_of r.refusal.fault) (where_of r.refusal.place)

unfoldable pub told_source : Result LineSource BenchRefusal → SourceVerdict
told_source (Ok s) = held (owner_of (Some s.card)) s.at
told_source (Err r) = unheld (owner_of r.card) (number_of r.refusal.fault) (where_of r.refusal.place)
