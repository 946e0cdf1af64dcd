use Rattle.std.proofs.Common.{ℕ, ◌+◌, ◌*◌, ◌≤◌, ◌≡◌, true, List, length}
use Rattle.card.specs.Format.{rule_count, node_count}
use Rattle.card.specs.Fault.{clause_part, height_at}
use Rattle.card.specs.Decode.{clause_of}
use Rattle.agenda.specs.Inner.Agenda.{pushed, core}
use Rattle.segment.specs.Inner.Tasks.{agenda_of, Laid}
use Rattle.segment.proofs.tasks.push.Given as goal

-- n tasks with the clause at the node still to be put: what the loop keeps
pub record Putting (bs codes₀ codes : List ℕ) (len clause nest at n : ℕ) : Type 0 where
  pub part : clause_part bs (node_count bs) at ≡ true
  pub room : length codes ≡ 104
  pub more : len ≤ n
  pub height : n + height_at bs at ≤ len + height_at bs clause
  pub same_core : core (clause_of bs at) ≡ core (clause_of bs clause)
  pub no_lower : height_at bs at ≤ height_at bs clause
  pub tasks : pushed nest (clause_of bs at) (agenda_of bs codes n) ≡ pushed nest (clause_of bs clause) (agenda_of bs codes₀ len)
  pub laid : (count : ℕ) → Laid bs codes₀ len count → len + height_at bs clause + 6 * nest ≤ 105
      → count + height_at bs clause + 6 * nest ≤ rule_count bs + 169 → Laid bs codes n count

abbrev pub invariant-loop-agenda : goal.invariant-loop-agenda
invariant-loop-agenda l = Putting l.card l.initial.agenda l.agenda l.len l.clause l.nest l.at l.n

abbrev pub decreases-loop-agenda : goal.decreases-loop-agenda
decreases-loop-agenda l = l.at
