-- Laws of a joined line's source: which card holds it, and that its three bytes stand there.
use Rattle.std.proofs.Common.{◌≡◌, ℕ, ◌+◌, ◌-◌, ◌<◌, ◌≤◌, Bool, true, false, cond, List, length, take, drop, leb, ltb, Err, refl, sym, ◌∙◌, ap, arith}
use Rattle.std.proofs.Common.{lt-ltb, le-ltb, ltb-true, ltb-false, leb-false}
use Rattle.card.specs.Format.{line_count, line_start}
use Rattle.card.specs.Verdict.{refuse, line}
use Rattle.card.specs.Fault.{Sound}
use Rattle.card.proofs.FaultsInOrder.{not_applied}
use Rattle.card.proofs.SoundNodes.{line_here}
use Rattle.joined.specs.Joined.{joined_lines}
use Rattle.benched.specs.declared.BenchRefusal.{BenchRefusal}
use Rattle.benched.specs.Benched.{BenchVerdict, fine, stopped, neither, first, second, about, bench_fault, said_of, told_bench}
use Rattle.benched.proofs.BenchChecked.{about_sound, fine_left, fine_right, first_sound, second_sound}
use Rattle.bench.specs.Bench.{SourceVerdict, held, unheld, source_fault, holder, source_of, told_source}

-- where a line is held
offset : SourceVerdict → ℕ
offset (held o at) = at
offset (unheld o n w) = 0

same_offset : {x y : SourceVerdict} → x ≡ y → offset x ≡ offset y
same_offset e = ap offset e

-- three bytes stand on the card from here on
abbrev Stands : ℕ → List ℕ → Type 0
Stands at bs = at + 3 ≤ length bs

stands_line : {bs : List ℕ} → Sound bs → (i : ℕ) → i < line_count bs → {at : ℕ} → at ≡ line_start bs i → Stands at bs
stands_line s i h e = omega (arith, line_here s i h, e)

-- the three bytes of a line
pub three : (at : ℕ) (bs : List ℕ) → take (at + 3 - at) (drop at bs) ≡ take 3 (drop at bs)
three at bs = let e : at + 3 - at ≡ 3 = omega arith in ap (λ n. take n (drop at bs)) e

module _ (a b : List ℕ) (i : ℕ) where
  -- a check that stops the question is its answer; where none does, the holder is
  pub source_stopped : (r : BenchRefusal) → told_bench (Err r) ≡ source_fault a b i → told_source (Err r) ≡ source_of a b i
  unfolding told_bench told_source source_of said_of
  source_stopped r t = ap (said_of (holder a b i) unheld) t

  pub source_held : {v : SourceVerdict} → source_fault a b i ≡ fine → v ≡ holder a b i → v ≡ source_of a b i
  unfolding source_of said_of
  source_held e q = q ∙ sym (ap (said_of (holder a b i) unheld) e)

  -- which card that is
  pub holder_first : i < line_count a → held first (line_start a i) ≡ holder a b i
  unfolding holder
  holder_first h = rw (lt-ltb _ _ h) refl

  pub holder_second : line_count a ≤ i → held second (line_start b (i - line_count a)) ≡ holder a b i
  unfolding holder
  holder_second h = rw (le-ltb _ _ h) refl

  abbrev sixteen : BenchVerdict
  sixteen = about neither (refuse (leb (joined_lines a b) i) 16 (line i))

  -- a line that is held is one of the joined lines, and both cards are sound
  module _ (e : source_fault a b i ≡ fine) where
    both_pass : bench_fault a b ≡ fine
    unfolding source_fault
    both_pass = fine_left (bench_fault a b) sixteen e

    below : i < joined_lines a b
    unfolding source_fault
    below = leb-false (joined_lines a b) i (not_applied _ 16 (line i) (about_sound neither _ (fine_right (bench_fault a b) sixteen e)))

    -- its three bytes stand on the card that holds it
    here_first : (t : Bool) (at : ℕ) → ltb i (line_count a) ≡ t
        → held first at ≡ cond t (held first (line_start a i)) (held second (line_start b (i - line_count a))) → Stands at a
    unfolding offset
    here_first true at q h = stands_line (first_sound a b both_pass) i (ltb-true i (line_count a) q) (same_offset h)
    here_first false at q h = absurd (let z : ◌≡◌ {A = ℕ} 0 1 = cc in omega arith)

    here_second : (t : Bool) (at : ℕ) → ltb i (line_count a) ≡ t
        → held second at ≡ cond t (held first (line_start a i)) (held second (line_start b (i - line_count a))) → Stands at b
    unfolding offset
    here_second true at q h = absurd (let z : ◌≡◌ {A = ℕ} 0 1 = cc in omega arith)
    here_second false at q h =
        let past : line_count a ≤ i = ltb-false i (line_count a) q in
        let low : i - line_count a < line_count b = omega (arith, below, past) in
        stands_line (second_sound a b both_pass) (i - line_count a) low (same_offset h)

  -- THEOREM. The three bytes of a joined line stand on the card that holds it.
  pub held_first : (at : ℕ) → held first at ≡ source_of a b i → Stands at a
  unfolding source_of said_of holder
  held_first at h = go (source_fault a b i) refl h
    where
      go : (v : BenchVerdict) → source_fault a b i ≡ v → held first at ≡ said_of (holder a b i) unheld v → Stands at a
      go fine e q = here_first e (ltb i (line_count a)) at refl q
      go (stopped o n w) e q = absurd (let z : ◌≡◌ {A = ℕ} 0 1 = cc in omega arith)

  pub held_second : (at : ℕ) → held second at ≡ source_of a b i → Stands at b
  unfolding source_of said_of holder
  held_second at h = go (source_fault a b i) refl h
    where
      go : (v : BenchVerdict) → source_fault a b i ≡ v → held second at ≡ said_of (holder a b i) unheld v → Stands at b
      go fine e q = here_second e (ltb i (line_count a)) at refl q
      go (stopped o n w) e q = absurd (let z : ◌≡◌ {A = ℕ} 0 1 = cc in omega arith)
