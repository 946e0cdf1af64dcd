-- What the checks 1 to 9 tell: a number of 1 to 9, and a place that the card has.
use Prim.Native.Nat.{ℕ, zero, suc, ◌≤◌, ◌<◌}
use native.Mathlib.Omega.{arith}
use mathlib.Core.Path.{◌≡◌, subst}
use mathlib.Core.Bool.{Bool, true, false}
use mathlib.Core.List.{List}
use Rattle.card.specs.Format.{node_count, rule_count, line_count}
use Rattle.card.specs.Verdict.{Verdict, Where, sound, fault, card, refuse, ◌▹◌, first_of}
use Rattle.card.specs.Fault.{front_fault, node_fault, goal_fault, rule_fault, line_fault, first_fault, Placed}

-- the number and the place of every fault that a check finds have P
pub record Tells (P : ℕ → Where → Type 0) (v : Verdict) : Type 0 where
  pub told_so : {n : ℕ} {w : Where} → v ≡ fault n w → P n w

module _ (P : ℕ → Where → Type 0) where
  tells_sound : Tells P sound
  tells_sound = record { told_so = λ e. absurd (let z : ◌≡◌ {A = ℕ} 0 1 = cc in omega arith) }

  tells_fault : {n : ℕ} {w : Where} → P n w → Tells P (fault n w)
  tells_fault {n} {w} p = record { told_so = over }
    where
      over : {m : ℕ} {v : Where} → fault n w ≡ fault m v → P m v
      over {m} {v} e = let f : n ≡ m = cc in let g : w ≡ v = cc in subst (λ (x : ℕ). P x v) f (subst (P n) g p)

  pub tells_refuse : (b : Bool) {n : ℕ} {w : Where} → P n w → Tells P (refuse b n w)
  unfolding refuse
  tells_refuse true p = tells_fault p
  tells_refuse false p = tells_sound

  pub tells_then : (u v : Verdict) → Tells P u → Tells P v → Tells P (u ▹ v)
  unfolding ◌▹◌
  tells_then sound v p q = q
  tells_then (fault n w) v p q = p

  pub tells_first : (n : ℕ) (f : ℕ → Verdict) → ((i : ℕ) → i < n → Tells P (f i)) → Tells P (first_of n f)
  unfolding first_of
  tells_first zero f h = tells_sound
  tells_first (suc n) f h = tells_then (first_of n f) (f n) (tells_first n f (λ i g. h i (omega arith))) (h n (omega arith))

-- a number of 1 to 9 with a place of the card
abbrev InRange : List ℕ → ℕ → Where → Type 0
InRange bs n w = (1 ≤ n) × (n ≤ 9) × Placed bs w

tells_card : (bs : List ℕ) → Tells (InRange bs) (first_fault bs)
unfolding first_fault front_fault node_fault goal_fault rule_fault line_fault Placed
tells_card bs =
    let P : ℕ → Where → Type 0 = InRange bs in
    let front : (n : ℕ) → 1 ≤ n → n ≤ 9 → (b : Bool) → Tells P (refuse b n card) = λ n h g b. tells_refuse P b (h, g, tt) in
    tells_then P _ _
    (tells_then P _ _ (front 1 (omega arith) (omega arith) _)
    (tells_then P _ _ (front 2 (omega arith) (omega arith) _)
    (tells_then P _ _ (front 3 (omega arith) (omega arith) _)
    (tells_then P _ _ (front 4 (omega arith) (omega arith) _) (front 5 (omega arith) (omega arith) _)))))
    (tells_then P _ _ (tells_first P (node_count bs) _ (λ i h. tells_refuse P _ (omega arith, omega arith, h)))
    (tells_then P _ _ (front 7 (omega arith) (omega arith) _)
    (tells_then P _ _ (tells_first P (rule_count bs) _ (λ i h. tells_refuse P _ (omega arith, omega arith, h)))
    (tells_first P (line_count bs) _ (λ i h. tells_refuse P _ (omega arith, omega arith, h))))))

-- THEOREM. A card at fault is refused with a number of 1 to 9 and a place that it has.
pub fault_in_range : (bs : List ℕ) {n : ℕ} {w : Where} → first_fault bs ≡ fault n w → (1 ≤ n) × (n ≤ 9) × Placed bs w
fault_in_range bs e = (tells_card bs).told_so e
