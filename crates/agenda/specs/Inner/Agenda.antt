-- An agenda: the goals of a segment that are still to be met, in walking order. A segment is all parts of ⊗ and all conditions that share
-- one window and one scope.
use Rattle.std.specs.Prelude.{ℕ, ◌≡◌, ◌↔◌, Bool, false, ◌||◌, List, [], ◌∷◌, ◌++◌}
use Rattle.calculus.specs.Formula.{Goal, Clause, atomᴰ, topᴰ, lolliᴰ, withᴰ}
use Rattle.calculus.specs.Items.{Items, Empty, Splits}
use Rattle.calculus.specs.Derivation.{Scope}
use Rattle.calculus.specs.Inner.Summary.{Sum}

-- A goal and the nesting left to it.
pub record Task : Type 0 where
  pub goal : Goal
  pub nest : ℕ

abbrev pub task : Goal → ℕ → Task
task G n = record { goal = G; nest = n }

-- the next task first
abbrev pub Agenda : Type 0
Agenda = List Task

-- Reads es A l U v: the list l walks the tasks of A one after the other and takes the items U; v says whether there is slack.
pub data Reads (es : Scope) : Agenda → List ℕ → Items → Bool → Type 0 where
  reads_nil : {U : Items} → Empty U → Reads es [] [] U false
  reads_on : {t : Task} {A : Agenda} {l l₁ l₂ : List ℕ} {U U₁ U₂ : Items} {v v₁ v₂ : Bool}
      → l ≡ l₁ ++ l₂ → Splits U U₁ U₂ → v ≡ (v₁ || v₂)
      → Sum t.nest es t.goal l₁ U₁ v₁ → Reads es A l₂ U₂ v₂ → Reads es (t ∷ A) l U v

-- the same readings
pub record Alike (es : Scope) (A B : Agenda) : Type 0 where
  pub alike : (l : List ℕ) (U : Items) (v : Bool) → Reads es A l U v ↔ Reads es B l U v

-- "The condition nearest the head is met first": a clause's conditions put on an agenda, up to a head or a menu, which is its core.
unfoldable pub pushed : ℕ → Clause → Agenda → Agenda
pushed n (atomᴰ b) A = A
pushed n topᴰ A = A
pushed n (lolliᴰ G D) A = pushed n D (task G n ∷ A)
pushed n (withᴰ D E) A = A

unfoldable pub core : Clause → Clause
core (atomᴰ b) = atomᴰ b
core topᴰ = topᴰ
core (lolliᴰ G D) = core D
core (withᴰ D E) = withᴰ D E
