-- What the reader's answers 13, 17, 18 and 19 say of a sound card and a sheet that fits it (02, #102 and #103).
use Prim.Native.Nat.{ℕ}
use native.Mathlib.Omega.{arith}
use mathlib.Core.Path.{◌≡◌, refl, sym, ap, ap₂, ◌∙◌}
use mathlib.Core.Logic.{◌↔◌, ◌⊎◌}
use mathlib.Core.List.{List}
use Rattle.calculus.specs.Job.{surely_used}
use Rattle.calculus.specs.Walk.{ItemsDivide}
use Rattle.card.specs.Verdict.{Where, sound, fault, step, steps}
use Rattle.card.specs.Fault.{Sound}
use Rattle.card.specs.Decode.{job_of}
use Rattle.card.proofs.FaultsInOrder.{sound_or_faulty}
use Rattle.sheet_front.specs.Front.{steps_of, sheet_fault}
use Rattle.trace.specs.Steps.{steps_fault, WrongStep, ExtraStep, NeverPassed}
use Rattle.trace.proofs.StepsMean.{thirteen, seventeen, eighteen, names_a_step}
use Rattle.trace.proofs.NeverDivides.{never_divides}
use Rattle.reader.specs.Read.{ReadVerdict, refused, Reading, faulty, misfit, astray, undivided, wrong_mark, accepted_as}
use Rattle.reader.proofs.AcceptedExactly.{marks_told}

module _ {bs sh : List ℕ} (s : Sound bs) (f : sheet_fault bs sh ≡ sound) where
  -- a refusal behind 12 that is neither 14 nor 19 is the walk's
  of_walk : {a : ReadVerdict} → Reading bs sh a → (n : ℕ) (w : Where) → a ≡ refused n w → (n ≡ 14 → ⊥) → (n ≡ 19 → ⊥)
      → steps_fault bs (steps_of sh) ≡ fault n w
  of_walk (faulty p) n w e g h = absurd (sound_or_faulty s.faultless p)
  of_walk (misfit t p) n w e g h = absurd (sound_or_faulty f p)
  of_walk (astray {n = m} {w = v} t q p) n w e g h = let x : m ≡ n = cc in let y : v ≡ w = cc in p ∙ ap₂ fault x y
  of_walk (undivided t q p d) n w e g h = let x : ◌≡◌ {A = ℕ} 19 n = cc in absurd (h (sym x))
  of_walk (wrong_mark {n = m} t q x p) n w e g h = let y : m ≡ n = cc in absurd (g (sym y ∙ ((marks_told bs (surely_used x) sh).told_so p).0))
  of_walk (accepted_as t q x m) n w e g h = let z : ◌≡◌ {A = ℕ} 0 1 = cc in absurd (omega arith)

  by_walk : (n i : ℕ) → (n ≡ 14 → ⊥) → (n ≡ 19 → ⊥) → Reading bs sh (refused n (step i)) ↔ (steps_fault bs (steps_of sh) ≡ fault n (step i))
  by_walk n i g h = (λ r. of_walk r n (step i) refl g h, λ p. astray s f p)

  -- THEOREM. 13 is told of step i exactly where "step i names no entry in scope whose head is the name wanted", or is no choice of a side
  -- that can be taken where one is wanted, the steps before it being the beginning of a walk.
  pub thirteen_told : (i : ℕ) → Reading bs sh (refused 13 (step i)) ↔ WrongStep bs (steps_of sh) 13 i
  thirteen_told i =
      let r = by_walk 13 i (λ e. omega arith) (λ e. omega arith) in
      let t = thirteen bs (steps_of sh) i in
      (λ x. t.0 (r.0 x), λ x. r.1 (t.1 x))

  -- THEOREM. 17 exactly where "step i is nested above d", the steps before it being the beginning of a walk.
  pub seventeen_told : (i : ℕ) → Reading bs sh (refused 17 (step i)) ↔ WrongStep bs (steps_of sh) 17 i
  seventeen_told i =
      let r = by_walk 17 i (λ e. omega arith) (λ e. omega arith) in
      let t = seventeen bs (steps_of sh) i in
      (λ x. t.0 (r.0 x), λ x. r.1 (t.1 x))

  -- THEOREM. 18 exactly where step i is "the first missing or extra step".
  pub eighteen_told : (i : ℕ) → Reading bs sh (refused 18 (step i)) ↔ (WrongStep bs (steps_of sh) 18 i ⊎ ExtraStep bs (steps_of sh) i)
  eighteen_told i =
      let r = by_walk 18 i (λ e. omega arith) (λ e. omega arith) in
      let t = eighteen bs (steps_of sh) i in
      (λ x. t.0 (r.0 x), λ x. r.1 (t.1 x))

  -- THEOREM. 19 exactly where "the walk is right but the items don't divide as the rules ask".
  pub nineteen_told : Reading bs sh (refused 19 steps)
      ↔ ((steps_fault bs (steps_of sh) ≡ sound) × (ItemsDivide (job_of bs) (steps_of sh) → ⊥))
  nineteen_told = (λ r. to r refl, λ x. undivided s f x.0 x.1)
    where
      to : {a : ReadVerdict} → Reading bs sh a → a ≡ refused 19 steps
          → (steps_fault bs (steps_of sh) ≡ sound) × (ItemsDivide (job_of bs) (steps_of sh) → ⊥)
      to (faulty p) e = absurd (sound_or_faulty s.faultless p)
      to (misfit t p) e = absurd (sound_or_faulty f p)
      to (astray {n = m} {w = v} t q p) e =
          let x : v ≡ steps = cc in
          absurd (names_a_step bs (steps_of sh) (p ∙ ap (fault m) x))
      to (undivided t q p d) e = (p, d)
      to (wrong_mark {n = m} t q x p) e =
          let y : m ≡ 19 = cc in
          let z = ((marks_told bs (surely_used x) sh).told_so p).0 in
          absurd (omega arith)
      to (accepted_as t q x m) e = let z : ◌≡◌ {A = ℕ} 0 1 = cc in absurd (omega arith)

  -- THEOREM. "19 also where the walk passes 'never'."
  pub never_told : NeverPassed bs (steps_of sh) → Reading bs sh (refused 19 steps)
  never_told x = nineteen_told.1 (never_divides bs (steps_of sh) x)
