-- What the search finds, in terms of derivations, and what a run starts from.
use Rattle.std.specs.Prelude.{ℕ, ◌+◌, ◌≤◌, ◌≡◌, List, length, take, Option, Some, None}
use Rattle.calculus.specs.Job.{Listed, First}
use Rattle.card.specs.Format.{rule_count, line_count}
use Rattle.card.specs.Fault.{Sound}
use Rattle.card.specs.Decode.{job_of}
use Rattle.entries.specs.Inner.Entries.{scope_in, Entered}
use Rattle.entries.specs.Inner.Masks.{Waiting}
use Rattle.branch.specs.declared.Way.{Way}
use Rattle.branch.specs.declared.Outcome.{Outcome}
use Rattle.branch.specs.declared.Outcome.TheVariants.{Solved as IsSolved, Stuck as IsStuck, Tired as IsTired}
use Rattle.branch.specs.Inner.Values.{Answer, Solved, Stuck, Tired}

-- the first k steps on the tape are the first list of the card
pub record FirstOn (bs tape : List ℕ) (k : ℕ) : Type 0 where
  pub room : k ≤ 255
  pub first : First (job_of bs) (take k tape)

-- What each case of the answer says.
unfoldable pub Finds : List ℕ → List ℕ → Option ℕ → Type 0
Finds bs tape (Some k) = FirstOn bs tape k
Finds bs tape None = (l : List ℕ) → Listed (job_of bs) l → ⊥

-- What each answer of a run says; one that gave up says nothing.
unfoldable pub Ran : List ℕ → List ℕ → Answer → Type 0
Ran bs tape (Solved w) = FirstOn bs tape w.at
Ran bs tape Stuck = (l : List ℕ) → Listed (job_of bs) l → ⊥
Ran bs tape Tired = Unit {0}

-- what is found is what the run says
unfoldable pub FoundSays : Way → Outcome → Option ℕ → Type 0
FoundSays way IsSolved s = s ≡ Some way.at
FoundSays way IsStuck s = s ≡ None
FoundSays way IsTired s = ⊥

-- What a run starts from: a sound card, its tables in order, and room for a tape.
pub record Starts (bs waits tape nodes heads : List ℕ) : Type 0 where
  pub sound : Sound bs
  pub waiting : Waiting bs waits
  pub tape_room : length tape ≡ 255
  pub entered : Entered bs nodes heads (rule_count bs + line_count bs)
  pub scope : scope_in bs nodes (rule_count bs + line_count bs) ≡ (job_of bs).scope
