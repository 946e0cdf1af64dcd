-- Laws of verdicts: what a chain of checks finds, and what a run of checks by rising index finds.
use Prim.Native.Nat.{ℕ, zero, suc, ◌<◌}
use native.Mathlib.Omega.{arith}
use native.Mathlib.Nat.{eq-or-lt_of_le}
use mathlib.Core.Path.{◌≡◌, refl, ◌∙◌}
use mathlib.Core.Logic.{⊎_elim}
use mathlib.Core.Bool.{Bool, true, false}
use Rattle.card.specs.Verdict.{Verdict, Where, sound, fault, refuse, ◌▹◌, first_of}

-- a check that does not apply finds nothing
pub refuse_false : (b : Bool) (n : ℕ) (w : Where) → b ≡ false → refuse b n w ≡ sound
unfolding refuse
refuse_false b n w e = rw e refl

-- and one that finds nothing does not apply
pub not_applied : (b : Bool) (n : ℕ) (w : Where) → refuse b n w ≡ sound → b ≡ false
unfolding refuse
not_applied true n w e = absurd (let z : ◌≡◌ {A = ℕ} 0 1 = cc in omega arith)
not_applied false n w e = refl

pub sound_left : (u v : Verdict) → u ▹ v ≡ sound → u ≡ sound
unfolding ◌▹◌
sound_left sound v e = refl
sound_left (fault n w) v e = e

pub sound_right : (u v : Verdict) → u ▹ v ≡ sound → v ≡ sound
unfolding ◌▹◌
sound_right sound v e = e
sound_right (fault n w) v e = absurd (let z : ◌≡◌ {A = ℕ} 0 1 = cc in omega arith)

pub after_sound : (u v : Verdict) → u ≡ sound → u ▹ v ≡ v
unfolding ◌▹◌
after_sound u v e = rw e refl

pub at_fault : (u v : Verdict) {n : ℕ} {w : Where} → u ≡ fault n w → u ▹ v ≡ u
unfolding ◌▹◌
at_fault sound v e = absurd (let z : ◌≡◌ {A = ℕ} 0 1 = cc in omega arith)
at_fault (fault m x) v e = refl

-- a run that has found nothing, with a fault at the next index, ends there
pub first_stops : (i n : ℕ) (f : ℕ → Verdict) {m : ℕ} {w : Where} → first_of i f ≡ sound → f i ≡ fault m w → i < n → first_of n f ≡ fault m w
unfolding first_of
first_stops i zero f p q h = absurd (omega arith)
first_stops i (suc n) f p q h = ⊎_elim
    (λ e. after_sound (first_of n f) (f n) (rw (← e) p) ∙ rw (← e) q)
    (λ l. at_fault (first_of n f) (f n) (first_stops i n f p q l) ∙ first_stops i n f p q l)
    (eq-or-lt_of_le {n = i} {m = n} (omega arith))

-- a run that has found nothing, and finds nothing at the next index
pub first_goes : (i : ℕ) (f : ℕ → Verdict) → first_of i f ≡ sound → f i ≡ sound → first_of (suc i) f ≡ sound
unfolding first_of
first_goes i f p q = after_sound (first_of i f) (f i) p ∙ q

-- what a run that finds nothing says of each index
pub first_each : (n : ℕ) (f : ℕ → Verdict) → first_of n f ≡ sound → (i : ℕ) → i < n → f i ≡ sound
unfolding first_of
first_each zero f p i h = absurd (omega arith)
first_each (suc n) f p i h = ⊎_elim
    (λ e. rw e (sound_right (first_of n f) (f n) p))
    (λ l. first_each n f (sound_left (first_of n f) (f n) p) i l)
    (eq-or-lt_of_le {n = i} {m = n} (omega arith))

-- no verdict is sound and a fault, and none is two faults, whatever a call makes of its fault
pub sound_or_faulty : {v : Verdict} {n : ℕ} {w : Where} → v ≡ sound → v ≡ fault n w → ⊥
sound_or_faulty p q = let z : ◌≡◌ {A = ℕ} 0 1 = cc in omega arith

pub same_fault : {A : Type 0} (refused : ℕ → Where → A) {v : Verdict} {n m : ℕ} {w u : Where} → v ≡ fault n w → v ≡ fault m u
    → refused n w ≡ refused m u
same_fault refused p q = cc
