-- Demand 3, first half, as a statement about two derivations of one job.
use Rattle.std.specs.Prelude.{ℕ, ◌≡◌, ◌↔◌, List, ◌++◌}
use Rattle.calculus.specs.Steps.{steps, SameService}
use Rattle.calculus.specs.Job.{Job, Derivation}

-- neither list is a beginning of the other
pub record NeitherBegins (l m : List ℕ) : Type 0 where
  pub forth : (r : List ℕ) → l ++ r ≡ m → ⊥
  pub back : (r : List ℕ) → m ++ r ≡ l → ⊥

-- Demand 3, first half: a list within limits and a way of serving the needs name each other.
pub record ListsNameWays (j : Job) (c d : Derivation j) : Type 0 where
  pub same_list : (steps c.tree ≡ steps d.tree) ↔ SameService c.tree d.tree
  pub other_list : (SameService c.tree d.tree → ⊥) → NeitherBegins (steps c.tree) (steps d.tree)
