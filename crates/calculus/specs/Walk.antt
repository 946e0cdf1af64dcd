-- The walk of a list (02, #102): "A list can be walked without minding who has used what." It minds names, scope, nesting and length.
use Rattle.std.specs.Prelude.{ℕ, zero, suc, ◌+◌, ◌≡◌, Bool, true, cond, ◌&&◌, List, [], ◌∷◌, eqb}
use Rattle.calculus.specs.Formula.{Goal, Clause, atomᴳ, topᴳ, oneᴳ, zeroᴳ, tensor, with, oplus, lolliᴳ, atomᴰ, topᴰ, lolliᴰ, withᴰ}
use Rattle.calculus.specs.Formula.{usable}
use Rattle.calculus.specs.Derivation.{Scope, clause_at, lend}
use Rattle.calculus.specs.Steps.{steps, left_choice, right_choice}
use Rattle.calculus.specs.Job.{Job, Derivation}

-- Where a walk stands: it goes on, at step i with the steps from there on; or it has stopped, with a number, at step i.
pub data Walk : Type 0 where
  goes : ℕ → List ℕ → Walk
  stops : ℕ → ℕ → Walk

-- "The earliest step decides": what has stopped goes no further.
infixl 30 ◌⨾◌
unfoldable pub ◌⨾◌ : Walk → (ℕ → List ℕ → Walk) → Walk
goes i l ⨾ f = f i l
stops n i ⨾ f = stops n i

-- how a name is walked: in a scope, from step i on
abbrev pub Naming : Type 0
Naming = Scope → ℕ → ℕ → List ℕ → Walk

-- A choice, of a side that may be taken: its byte, then that side. "A choice byte for an entry, or the reverse, is 13."
unfoldable pub choice_walk : Bool → Bool → (ℕ → List ℕ → Walk) → (ℕ → List ℕ → Walk) → ℕ → List ℕ → Walk
choice_walk p q first second i [] = stops 18 i
choice_walk p q first second i (c ∷ l) =
    cond (eqb c left_choice && p) (first (i + 1) l) (cond (eqb c right_choice && q) (second (i + 1) l) (stops 13 i))

-- A goal: left part before right, a lent clause in scope for its goal alone. "Never" takes no step and stops nothing.
unfoldable pub goal_walk : Naming → Goal → Scope → ℕ → List ℕ → Walk
goal_walk name (atomᴳ a) es i l = name es a i l
goal_walk name topᴳ es i l = goes i l
goal_walk name oneᴳ es i l = goes i l
goal_walk name zeroᴳ es i l = goes i l
goal_walk name (tensor G H) es i l = goal_walk name G es i l ⨾ goal_walk name H es
goal_walk name (with G H) es i l = goal_walk name G es i l ⨾ goal_walk name H es
goal_walk name (oplus G H) es i l = choice_walk true true (goal_walk name G es) (goal_walk name H es) i l
goal_walk name (lolliᴳ D G) es i l = goal_walk name G (lend es D) i l

-- The conditions of a clause that is used for the name a, the one nearest the head first. "13 also at a choice whose side has no head that is
-- the name wanted."
unfoldable pub clause_walk : Naming → ℕ → Clause → Scope → ℕ → List ℕ → Walk
clause_walk name a (atomᴰ b) es i l = goes i l
clause_walk name a topᴰ es i l = goes i l
clause_walk name a (lolliᴰ G D) es i l = clause_walk name a D es i l ⨾ goal_walk name G es
clause_walk name a (withᴰ D E) es i l =
    choice_walk (usable es.fits a D) (usable es.fits a E) (clause_walk name a D es) (clause_walk name a E es) i l

-- A name. 18: "the walk wants a step after the last". 13: "step i names no entry in scope whose head is the name wanted". Else its entry
-- is used.
unfoldable pub name_walk : (Scope → ℕ → ℕ → ℕ → List ℕ → Walk) → Naming
name_walk enter es a i [] = stops 18 i
name_walk enter es a i (e ∷ l) = cond (usable es.fits a (clause_at es e)) (enter es a e i l) (stops 13 i)

-- 17: "step i is nested above d", with nesting n left; "there 13 before 17".
unfoldable pub name_within : ℕ → Naming
name_within zero = name_walk (λ es a e i l. stops 17 i)
name_within (suc n) = name_walk (λ es a e i l. clause_walk (name_within n) a (clause_at es e) es (i + 1) l)

-- The walk of a job's goal along a list.
unfoldable pub job_walk : Job → List ℕ → Walk
job_walk j l = goal_walk (name_within j.depth) j.goal j.scope 0 l

-- The items divide as the rules ask: a derivation has this list, whatever its nesting and length. 19 is that none has.
pub record ItemsDivide (j : Job) (l : List ℕ) : Type 0 where
  pub derivation : Derivation j
  pub list : steps derivation.tree ≡ l
