-- The refusals of the steps (02, #102 and #103), in terms of the walk of a job's goal.
use Rattle.std.specs.Prelude.{ℕ, suc, ◌≡◌, true, List, [], ◌∷◌, ◌++◌}
use Rattle.calculus.specs.Formula.{Goal, Clause, atomᴳ, zeroᴳ, lolliᴳ, usable}
use Rattle.calculus.specs.Derivation.{Scope, clause_at, lend}
use Rattle.calculus.specs.Walk.{Walk, goes, stops, job_walk}
use Rattle.calculus.specs.Wanted.{Part, goal, meet, Both, Side, Along, FirstWrong, FirstExtra}
use Rattle.card.specs.Verdict.{Verdict, sound, fault, step}
use Rattle.card.specs.Decode.{job_of}

-- What a walk finds where it has stopped, or where it has ended: 18 too if it "ends before" the last step, "place the first .. extra step".
unfoldable pub walk_fault : Walk → Verdict
walk_fault (stops n i) = fault n (step i)
walk_fault (goes i []) = sound
walk_fault (goes i (e ∷ l)) = fault 18 (step i)

-- 13, 17 and 18: "The earliest step decides among 13, 17 and 18, there 13 before 17". 19 is in calculus/specs/Walk.antt, `ItemsDivide`.
unfoldable pub steps_fault : List ℕ → List ℕ → Verdict
steps_fault bs l = walk_fault (job_walk (job_of bs) l)

-- What a place means. The steps before i are the beginning of a walk of the card's goal, and step i is the first that is wrong, as the
-- number n tells.
abbrev pub WrongStep : List ℕ → List ℕ → ℕ → ℕ → Type 0
WrongStep bs l n i = FirstWrong (job_of bs).depth (job_of bs).scope (goal (job_of bs).goal) l n i

-- The steps before i are a walk of the card's goal to its end, and step i is one that it did not want.
abbrev pub ExtraStep : List ℕ → List ℕ → ℕ → Type 0
ExtraStep bs l i = FirstExtra (job_of bs).depth (job_of bs).scope (goal (job_of bs).goal) l i

-- PassesNever n es p l: l is a walk of p in the scope es, with nesting n left, and it passes "never".
pub data PassesNever : ℕ → Scope → Part → List ℕ → Type 0 where
  never_here : {n : ℕ} {es : Scope} → PassesNever n es (goal zeroᴳ) []
  never_first : {n : ℕ} {es : Scope} {p x y : Part} {l k m : List ℕ} → Both p x y → l ≡ k ++ m → PassesNever n es x k → Along n es y m
      → PassesNever n es p l
  never_second : {n : ℕ} {es : Scope} {p x y : Part} {l k m : List ℕ} → Both p x y → l ≡ k ++ m → Along n es x k → PassesNever n es y m
      → PassesNever n es p l
  never_lent : {n : ℕ} {es : Scope} {D : Clause} {G : Goal} {l : List ℕ} → PassesNever n (lend es D) (goal G) l
      → PassesNever n es (goal (lolliᴳ D G)) l
  never_side : {n c : ℕ} {es : Scope} {p x : Part} {l : List ℕ} → Side es p c x → PassesNever n es x l → PassesNever n es p (c ∷ l)
  never_use : {n a e : ℕ} {es : Scope} {l : List ℕ} → usable es.fits a (clause_at es e) ≡ true
      → PassesNever n es (meet a (clause_at es e)) l → PassesNever (suc n) es (goal (atomᴳ a)) (e ∷ l)

-- The steps are a walk of the card's goal to its end that passes "never".
abbrev pub NeverPassed : List ℕ → List ℕ → Type 0
NeverPassed bs l = PassesNever (job_of bs).depth (job_of bs).scope (goal (job_of bs).goal) l
