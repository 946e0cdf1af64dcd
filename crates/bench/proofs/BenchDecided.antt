-- Joining and asking come to a decision, and to one only.
use Prim.Native.Nat.{ℕ, ◌-◌, ◌≤◌}
use native.Mathlib.Omega.{arith}
use mathlib.Core.Path.{◌≡◌, refl, sym, ◌∙◌, ap, subst}
use mathlib.Core.Bool.{Bool, true, false, cond}
use mathlib.Core.List.{List}
use lib.ListN.{length}
use lib.Dec.{leb, ltb}
use borrow.Author.Tests.{ltb-false}
use Rattle.card.specs.Format.{line_count, line_start}
use Rattle.card.specs.Verdict.{Verdict, Where, sound, fault, card, line, sheet, refuse}
use Rattle.card.specs.Fault.{first_fault, Sound}
use Rattle.card.proofs.CardChecked.{sound_front}
use Rattle.card.proofs.FaultsInOrder.{not_applied}
use Rattle.card.proofs.FaultsInRange.{fault_in_range}
use Rattle.joined.specs.Joined.{joined_lines, joined_length, overfull}
use Rattle.joined.proofs.JoinedSound.{few_rules, few_lines, few_nodes}
use Rattle.benched.specs.Benched.{Owner, neither, first, second, BenchVerdict, fine, stopped, about, ◌▸◌, bench_fault, said_of}
use Rattle.benched.proofs.BenchChecked.{fine_or_stopped, about_sound, fine_left, fine_right, first_sound, second_sound, fits_on_one}
use Rattle.bench.specs.Bench.{JoinVerdict, joined, refused, join_fault, Joining, is_refused, is_joined, Owned, of_first, of_second, of_neither}
use Rattle.bench.specs.Bench.{JoinDecided, whole, by_card, too_short, SourceVerdict, held, unheld, source_fault, holder, source_of, SourceDecided}
use Rattle.bench.specs.Bench.{in_first, in_second, unasked, beyond}
use Rattle.bench.proofs.SourceFound.{held_first, held_second}

-- a refusal, where there is one, has P
Tells : (Owner → ℕ → Where → Type 0) → BenchVerdict → Type 0
Tells P fine = Unit {0}
Tells P (stopped o n w) = P o n w

module _ (P : Owner → ℕ → Where → Type 0) where
  told_stop : {v : BenchVerdict} {o : Owner} {n : ℕ} {w : Where} → Tells P v → v ≡ stopped o n w → P o n w
  unfolding Tells
  told_stop t e = subst (Tells P) e t

  tells_about : (o : Owner) (v : Verdict) → ((n : ℕ) (w : Where) → v ≡ fault n w → P o n w) → Tells P (about o v)
  unfolding Tells about
  tells_about o sound h = tt
  tells_about o (fault n w) h = h n w refl

  tells_then : (u v : BenchVerdict) → Tells P u → Tells P v → Tells P (u ▸ v)
  unfolding Tells ◌▸◌
  tells_then fine v h k = k
  tells_then (stopped o n w) v h k = h

  tells_refuse : (o : Owner) (b : Bool) (n : ℕ) (w : Where) → P o n w → Tells P (about o (refuse b n w))
  unfolding Tells about refuse
  tells_refuse o true n w h = h
  tells_refuse o false n w h = tt

-- "at most 2,891"
short : {bs : List ℕ} → Sound bs → length bs ≤ 2891
short {bs} s = let f = sound_front bs s in omega (arith, f.whole, f.few, f.rules, f.lines)

module _ (a b : List ℕ) where
  -- what the checks of both cards tell, whatever else P holds of
  bench_tells : (P : Owner → ℕ → Where → Type 0) → ((o : Owner) (n : ℕ) (w : Where) → Owned a b o n w → P o n w) → Tells P (bench_fault a b)
  unfolding bench_fault
  bench_tells P own =
      tells_then P (about first (first_fault a)) later
      (tells_about P first (first_fault a) (λ n w e. let r = fault_in_range a e in own first n w (of_first (r.0, r.1) r.2)))
      (tells_then P (about second (first_fault b)) unfit
      (tells_about P second (first_fault b) (λ n w e. let r = fault_in_range b e in own second n w (of_second (r.0, r.1) r.2)))
      (tells_refuse P neither (overfull a b) 15 card (own neither 15 card of_neither)))
    where
      unfit : BenchVerdict
      unfit = about neither (refuse (overfull a b) 15 card)

      later : BenchVerdict
      later = about second (first_fault b) ▸ unfit

  -- THEOREM. Joining comes to a decision.
  pub join_decided : {old new : List ℕ} {v : JoinVerdict} → Joining a b old v new → JoinDecided a b old new v
  unfolding join_fault
  join_decided {old} (is_refused {o} {n} {w} e) = told_stop P all e
    where
      P : Owner → ℕ → Where → Type 0
      P o n w = JoinDecided a b old old (refused o n w)

      all : Tells P (join_fault a b (length old))
      all =
          tells_then P (bench_fault a b) _ (bench_tells P (λ o n w x. by_card x refl))
          (tells_refuse P neither (ltb (length old) (joined_length a b)) 10 sheet (too_short refl))
  join_decided {old} (is_joined e) = whole room (omega (arith, few_rules a b fits, few_lines a b fits, few_nodes a b fits))
    where
      fits : overfull a b ≡ false
      fits = fits_on_one a b (fine_left (bench_fault a b) _ e)

      room : joined_length a b ≤ length old
      room = ltb-false _ _ (not_applied _ 10 sheet (about_sound neither _ (fine_right (bench_fault a b) _ e)))

  -- a joined card lies within the buffer
  pub joined_room : {old new : List ℕ} {n : ℕ} → JoinDecided a b old new (joined n) → n ≤ length old
  joined_room (whole h k) = h

  -- THEOREM. Both cards and the old buffer determine the answer and the buffer.
  pub join_determined : {old new new' : List ℕ} {v v' : JoinVerdict} → Joining a b old v new → Joining a b old v' new'
      → (v ≡ v') × (new ≡ new')
  join_determined (is_refused e) (is_refused f) = (let q = sym e ∙ f in cc, refl)
  join_determined (is_refused e) (is_joined f) = absurd (fine_or_stopped f e)
  join_determined (is_joined e) (is_refused f) = absurd (fine_or_stopped e f)
  join_determined (is_joined e) (is_joined f) = (refl, refl)

  -- THEOREM. Asking comes to a decision.
  pub source_decided : (i : ℕ) → SourceDecided a b i (source_of a b i)
  unfolding source_of source_fault said_of holder
  source_decided i = go (source_fault a b i) refl
    where
      P : Owner → ℕ → Where → Type 0
      P o n w = SourceDecided a b i (unheld o n w)

      all : Tells P (source_fault a b i)
      all =
          tells_then P (bench_fault a b) _ (bench_tells P (λ o n w x. unasked x))
          (tells_refuse P neither (leb (joined_lines a b) i) 16 (line i) beyond)

      held_by : Bool → SourceVerdict
      held_by t = cond t (held first (line_start a i)) (held second (line_start b (i - line_count a)))

      by_test : source_fault a b i ≡ fine → (t : Bool) → ltb i (line_count a) ≡ t → SourceDecided a b i (held_by t)
      by_test e true q = in_first (held_first a b i _ (sym (ap (said_of (holder a b i) unheld) e ∙ ap held_by q)))
          (short (first_sound a b (fine_left (bench_fault a b) _ e)))
      by_test e false q = in_second (held_second a b i _ (sym (ap (said_of (holder a b i) unheld) e ∙ ap held_by q)))
          (short (second_sound a b (fine_left (bench_fault a b) _ e)))

      go : (v : BenchVerdict) → source_fault a b i ≡ v → SourceDecided a b i (said_of (holder a b i) unheld v)
      go fine e = by_test e (ltb i (line_count a)) refl
      go (stopped o n w) e = told_stop P all e
