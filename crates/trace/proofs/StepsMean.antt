-- What 13, 17 and 18 mean (02, #102), by number and place, for every card and list; and when a list has none of them, nor 19.
use Prim.Native.Nat.{ℕ, ◌≤◌}
use native.Mathlib.Omega.{arith}
use mathlib.Core.Path.{◌≡◌, refl, sym, ap, subst, ◌∙◌}
use mathlib.Core.Logic.{◌↔◌, ◌⊎◌, inl, inr}
use mathlib.Core.List.{List, [], ◌∷◌, ◌++◌, append-nil}
use lib.ListN.{length, length-append}
use Rattle.calculus.specs.Derivation.{Scope}
use Rattle.calculus.specs.Job.{Listed}
use Rattle.calculus.specs.Walk.{Walk, goes, stops, job_walk, ItemsDivide}
use Rattle.calculus.specs.Wanted.{Part, goal, Along, Wrong, no_such_entry, no_side, too_deep, missing}
use Rattle.calculus.proofs.WalkExact.{goes_along, stops_first, listed_exactly}
use Rattle.card.specs.Format.{step_limit}
use Rattle.card.specs.Verdict.{Verdict, Where, sound, fault, steps, step}
use Rattle.card.specs.Fault.{Placed}
use Rattle.card.specs.Decode.{job_of}
use Rattle.card.proofs.FaultsInOrder.{sound_or_faulty}
use Rattle.card.proofs.NodesDecoded.{lines_bounded, listed_short}
use Rattle.trace.specs.Steps.{walk_fault, steps_fault, WrongStep, ExtraStep}
use Rattle.trace.specs.Inner.Listing.{Following, strays, divides_not, follows}

-- a walk that tells no 18 has not ended before the last step
stopped : (w : Walk) (n i : ℕ) → (n ≡ 18 → ⊥) → (walk_fault w ≡ fault n (step i)) ↔ (w ≡ stops n i)
unfolding walk_fault
stopped (stops m j) n i h = (λ e. let p : m ≡ n = cc in let q : j ≡ i = cc in rw (p, q) refl, λ e. ap walk_fault e)
stopped (goes j []) n i h = (
  λ e. let z : ◌≡◌ {A = ℕ} 0 1 = cc in absurd (omega arith),
  λ e. let z : ◌≡◌ {A = ℕ} 0 1 = cc in absurd (omega arith),
)
stopped (goes j (e ∷ l)) n i h = (
  λ e. let p : ◌≡◌ {A = ℕ} 18 n = cc in absurd (h (sym p)),
  λ e. let z : ◌≡◌ {A = ℕ} 0 1 = cc in absurd (omega arith),
)

-- 18: the walk stopped there, or ended there with a step left
late : (w : Walk) (i : ℕ) → walk_fault w ≡ fault 18 (step i) → (w ≡ stops 18 i) ⊎ ((e : ℕ) × (l : List ℕ) × (w ≡ goes i (e ∷ l)))
unfolding walk_fault
late (stops m j) i e = let p : m ≡ 18 = cc in let q : j ≡ i = cc in inl (rw (p, q) refl)
late (goes j []) i e = let z : ◌≡◌ {A = ℕ} 0 1 = cc in absurd (omega arith)
late (goes j (x ∷ l)) i e = let q : j ≡ i = cc in inr (x, l, rw q refl)

-- no fault: the walk ended with no step left
fine : (w : Walk) → walk_fault w ≡ sound → (i : ℕ) × (w ≡ goes i [])
unfolding walk_fault
fine (stops m j) e = let z : ◌≡◌ {A = ℕ} 0 1 = cc in absurd (omega arith)
fine (goes j []) e = (j, refl)
fine (goes j (x ∷ l)) e = let z : ◌≡◌ {A = ℕ} 0 1 = cc in absurd (omega arith)

-- a walk's fault is at a step
at_step : (w : Walk) {n : ℕ} → walk_fault w ≡ fault n steps → ⊥
unfolding walk_fault
at_step (stops m j) e = let z : ◌≡◌ {A = ℕ} 0 1 = cc in omega arith
at_step (goes j []) e = let z : ◌≡◌ {A = ℕ} 0 1 = cc in omega arith
at_step (goes j (x ∷ l)) e = let z : ◌≡◌ {A = ℕ} 0 1 = cc in omega arith

module _ (bs l : List ℕ) where
  by_number : (n i : ℕ) → (n ≡ 18 → ⊥) → (steps_fault bs l ≡ fault n (step i)) ↔ WrongStep bs l n i
  unfolding steps_fault
  by_number n i h =
      let s = stopped (job_walk (job_of bs) l) n i h in
      let f = stops_first (job_of bs) l n i in
      (λ e. f.0 (s.0 e), λ x. s.1 (f.1 x))

  -- THEOREM (13). "step i names no entry in scope whose head is the name wanted", or is no choice of a side that can be taken where one is
  -- wanted, and the steps before it are the beginning of a walk.
  pub thirteen : (i : ℕ) → (steps_fault bs l ≡ fault 13 (step i)) ↔ WrongStep bs l 13 i
  thirteen i = by_number 13 i (λ e. omega arith)

  -- THEOREM (17). "step i is nested above d", its entry could be used but for that, and the steps before it are the beginning of a walk.
  pub seventeen : (i : ℕ) → (steps_fault bs l ≡ fault 17 (step i)) ↔ WrongStep bs l 17 i
  seventeen i = by_number 17 i (λ e. omega arith)

  -- THEOREM (18). "the walk wants a step after the last or ends before it, place the first missing or extra step".
  pub eighteen : (i : ℕ) → (steps_fault bs l ≡ fault 18 (step i)) ↔ (WrongStep bs l 18 i ⊎ ExtraStep bs l i)
  unfolding steps_fault walk_fault
  eighteen i = (λ e. to (late (job_walk (job_of bs) l) i e), from)
    where
      ended : {e : ℕ} {t : List ℕ}
          → (k : List ℕ) × Along (job_of bs).depth (job_of bs).scope (goal (job_of bs).goal) k × (k ++ (e ∷ t) ≡ l) × (length k ≡ i)
          → ExtraStep bs l i
      ended {e} {t} (k, c, q, h) = record { before = k; next = e; after = t; whole = q; index = h; walked = c }

      to : (job_walk (job_of bs) l ≡ stops 18 i) ⊎ ((e : ℕ) × (t : List ℕ) × (job_walk (job_of bs) l ≡ goes i (e ∷ t)))
          → WrongStep bs l 18 i ⊎ ExtraStep bs l i
      to (inl e) = inl ((stops_first (job_of bs) l 18 i).0 e)
      to (inr (e, t, q)) = inr (ended ((goes_along (job_of bs) l i (e ∷ t)).0 q))

      from : WrongStep bs l 18 i ⊎ ExtraStep bs l i → walk_fault (job_walk (job_of bs) l) ≡ fault 18 (step i)
      from (inl x) = ap walk_fault ((stops_first (job_of bs) l 18 i).1 x)
      from (inr x) = ap walk_fault ((goes_along (job_of bs) l i (x.next ∷ x.after)).1 (x.before, x.walked, x.whole, x.index))

  -- THEOREM. None of the three exactly when the list is a walk of the card's goal to its end.
  pub walked_right : (steps_fault bs l ≡ sound) ↔ (job_walk (job_of bs) l ≡ goes (length l) [])
  unfolding steps_fault walk_fault
  walked_right = (λ e. to (fine (job_walk (job_of bs) l) e), λ e. ap walk_fault e)
    where
      at_end : {i : ℕ}
          → (k : List ℕ) × Along (job_of bs).depth (job_of bs).scope (goal (job_of bs).goal) k × (k ++ [] ≡ l) × (length k ≡ i)
          → i ≡ length l
      at_end (k, c, q, h) = sym h ∙ ap length (sym (append-nil k) ∙ q)

      to : (i : ℕ) × (job_walk (job_of bs) l ≡ goes i []) → job_walk (job_of bs) l ≡ goes (length l) []
      to (i, e) = e ∙ ap (λ (n : ℕ). goes n []) (at_end ((goes_along (job_of bs) l i []).0 e))

  -- THEOREM. None of 13, 17, 18 and 19 exactly when the steps, no more than s, are the list of a derivation within limits.
  pub none_found : length l ≤ step_limit bs → ((steps_fault bs l ≡ sound) × ItemsDivide (job_of bs) l) ↔ Listed (job_of bs) l
  unfolding job_of
  none_found h =
      let e = listed_exactly (job_of bs) l (lines_bounded bs) h in
      (λ x. e.1 (walked_right.0 x.0, x.1), λ x. let y = e.0 x in (walked_right.1 y.0, y.1))

  -- the list of a derivation within limits is not refused
  pub listed_follows : Listed (job_of bs) l → {v : Verdict} → Following bs l v → v ≡ sound
  listed_follows x (strays q) = absurd (sound_or_faulty ((none_found (listed_short bs l x)).1 x).0 q)
  listed_follows x (divides_not q n) = absurd (n ((none_found (listed_short bs l x)).1 x).1)
  listed_follows x (follows y) = refl

  pub names_a_step : {n : ℕ} → steps_fault bs l ≡ fault n steps → ⊥
  unfolding steps_fault
  names_a_step e = at_step (job_walk (job_of bs) l) e

  -- THEOREM. Its number is 13, 17 or 18, and its place is a step of the list or the one behind the last.
  pub steps_placed : length l ≤ step_limit bs → {n : ℕ} {w : Where} → steps_fault bs l ≡ fault n w
      → (((12 ≤ n) × (n ≤ 14)) ⊎ ((17 ≤ n) × (n ≤ 19))) × Placed bs w
  unfolding steps_fault walk_fault Placed
  steps_placed h {n} {w} e = by (job_walk (job_of bs) l) refl e
    where
      number : {d m u : ℕ} {fs : Scope} {q : Part} {t : List ℕ} → Wrong d fs u q m t → ((12 ≤ m) × (m ≤ 14)) ⊎ ((17 ≤ m) × (m ≤ 19))
      number (no_such_entry u) = inl (omega arith, omega arith)
      number (no_side c n) = inl (omega arith, omega arith)
      number (too_deep u g) = inr (omega arith, omega arith)
      number missing = inr (omega arith, omega arith)

      short : {i : ℕ} (k t : List ℕ) → k ++ t ≡ l → length k ≡ i → i ≤ step_limit bs
      short k t q f = let x = ap length q in let y = length-append k t in omega arith

      at : {m i : ℕ} → fault m (step i) ≡ fault n w → (((12 ≤ m) × (m ≤ 14)) ⊎ ((17 ≤ m) × (m ≤ 19))) → i ≤ step_limit bs
          → (((12 ≤ n) × (n ≤ 14)) ⊎ ((17 ≤ n) × (n ≤ 19))) × Placed bs w
      at {m} {i} q a g =
          let x : m ≡ n = cc in
          let y : step i ≡ w = cc in
          (rw x at a, subst (Placed bs) y g)

      ended : {i : ℕ} {t : List ℕ}
          → (k : List ℕ) × Along (job_of bs).depth (job_of bs).scope (goal (job_of bs).goal) k × (k ++ t ≡ l) × (length k ≡ i)
          → i ≤ step_limit bs
      ended {t} (k, c, q, f) = short k t q f

      by : (v : Walk) → job_walk (job_of bs) l ≡ v → walk_fault v ≡ fault n w
          → (((12 ≤ n) × (n ≤ 14)) ⊎ ((17 ≤ n) × (n ≤ 19))) × Placed bs w
      by (stops m i) q f =
          let x = (stops_first (job_of bs) l m i).0 q in at f (number x.wrong) (short x.before x.after x.whole x.index)
      by (goes i []) q f = let z : ◌≡◌ {A = ℕ} 0 1 = cc in absurd (omega arith)
      by (goes i (a ∷ t)) q f =
          at f (inr (omega arith, omega arith)) (ended ((goes_along (job_of bs) l i (a ∷ t)).0 q))
