-- Laws of checks told with which card, one after the other, and of two cards that pass them.
use Rattle.std.proofs.Common.{◌≡◌, ℕ, false, List, Result, Ok, Err, refl, sym, ◌∙◌, ap, arith}
use Rattle.std.specs.Prelude.{⊤}
use Rattle.card.specs.Verdict.{Verdict, Where, sound, fault, card, refuse}
use Rattle.card.specs.Fault.{first_fault, Sound}
use Rattle.card.proofs.FaultsInOrder.{not_applied}
use Rattle.joined.specs.Joined.{overfull}
use Rattle.benched.specs.declared.BenchRefusal.{BenchRefusal}
use Rattle.benched.specs.Benched.{Owner, BenchVerdict, fine, stopped, neither, first, second, about, ◌▸◌, bench_fault, said_of, told_bench}

-- no verdict is fine and stopped
pub fine_or_stopped : {v : BenchVerdict} {o : Owner} {n : ℕ} {w : Where} → v ≡ fine → v ≡ stopped o n w → ⊥
fine_or_stopped e f = let z : ◌≡◌ {A = ℕ} 0 1 = cc in omega arith

pub about_sound : (o : Owner) (v : Verdict) → about o v ≡ fine → v ≡ sound
unfolding about
about_sound o sound e = refl
about_sound o (fault n w) e = absurd (fine_or_stopped e refl)

pub fine_left : (u v : BenchVerdict) → u ▸ v ≡ fine → u ≡ fine
unfolding ◌▸◌
fine_left fine v e = refl
fine_left (stopped o n w) v e = e

pub fine_right : (u v : BenchVerdict) → u ▸ v ≡ fine → v ≡ fine
unfolding ◌▸◌
fine_right fine v e = e
fine_right (stopped o n w) v e = absurd (fine_or_stopped e refl)

pub after_fine : (u v : BenchVerdict) → u ≡ fine → u ▸ v ≡ v
unfolding ◌▸◌
after_fine u v e = ap (λ (x : BenchVerdict). x ▸ v) e

pub at_stop : (u v : BenchVerdict) {o : Owner} {n : ℕ} {w : Where} → u ≡ stopped o n w → u ▸ v ≡ u
unfolding ◌▸◌
at_stop u v e = ap (λ (x : BenchVerdict). x ▸ v) e ∙ sym e

-- a check that stops ends the call; one that has passed leaves those after it
pub stops : {u : BenchVerdict} (v : BenchVerdict) {a : Result ⊤ BenchRefusal} {r : BenchRefusal} → a ≡ Err r → told_bench a ≡ u → told_bench a ≡ u ▸ v
unfolding told_bench
stops {u} v e t = t ∙ sym (at_stop u v (sym t ∙ ap told_bench e))

pub passed : {u : BenchVerdict} {a : Result ⊤ BenchRefusal} {t : ⊤} → a ≡ Ok t → told_bench a ≡ u → u ≡ fine
unfolding told_bench
passed e t = sym t ∙ ap told_bench e

pub onward : {u v w : BenchVerdict} → u ≡ fine → w ≡ v → w ≡ u ▸ v
onward {u} {v} e q = q ∙ sym (after_fine u v e)

-- a call that answers with a check's refusal, whatever its own word
pub ended : {A : Type 0} (x y : A) (f : Owner → ℕ → Where → A) (v : BenchVerdict) {a : Result ⊤ BenchRefusal} {r : BenchRefusal} → a ≡ Err r
    → told_bench a ≡ v → said_of x f (told_bench a) ≡ said_of y f v
unfolding told_bench said_of
ended x y f v e t =
    ap (λ (b : Result ⊤ BenchRefusal). said_of x f (told_bench b)) e ∙ sym (ap (said_of y f) (sym t ∙ ap told_bench e))

-- THEOREM. Two cards that pass are sound and fit on one.
module _ (a b : List ℕ) (e : bench_fault a b ≡ fine) where
  abbrev later : BenchVerdict
  later = about second (first_fault b) ▸ about neither (refuse (overfull a b) 15 card)

  pub first_sound : Sound a
  unfolding bench_fault
  first_sound = record { faultless = about_sound first (first_fault a) (fine_left (about first (first_fault a)) later e) }

  from_second : later ≡ fine
  unfolding bench_fault
  from_second = fine_right (about first (first_fault a)) later e

  pub second_sound : Sound b
  second_sound = record { faultless = about_sound second (first_fault b) (fine_left (about second (first_fault b)) _ from_second) }

  pub fits_on_one : overfull a b ≡ false
  fits_on_one =
      not_applied (overfull a b) 15 card
      (about_sound neither (refuse (overfull a b) 15 card) (fine_right (about second (first_fault b)) _ from_second))
