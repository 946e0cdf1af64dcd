-- THEOREM. Where the table of bounds or the memory speaks against an agenda nothing is sought; and a dead end may be remembered.
use Prim.Native.Nat.{ℕ, ◌-◌}
use native.Mathlib.Omega.{arith}
use mathlib.Core.Path.{◌≡◌, ◌∙◌, ap}
use mathlib.Core.List.{List}
use Rattle.calculus.specs.Derivation.{Scope}
use Rattle.card.specs.Decode.{job_of}
use Rattle.entries.specs.Inner.Entries.{scope_in}
use Rattle.entries.specs.Inner.Twins.{eligible}
use Rattle.branch.specs.declared.Branch.{Branch}
use Rattle.segment.specs.Inner.Tasks.{node_of, Laid}
use Rattle.dead.specs.Inner.Barren.{BarrenIn, Honest, Asking}
use Rattle.dead.specs.Inner.Rows.{Stored, Recorded}
use Rattle.dead.proofs.DeadStaysDead.{barren_none, stored_barren, recorded_honest}
use Rattle.bounds.specs.Inner.Table.{Settled}
use Rattle.bounds.specs.Inner.Doom.{Coded, Doomed}
use Rattle.bounds.proofs.DoomedHasNone.{doomed_none}
use Rattle.prune.specs.Inner.Prune.{job_count, PruneAsks, Doom}
use Rattle.prune.proofs.ScopesAgree.{scopes_agree, entered, stocked}

-- the tasks are goals of the card
pub coded : {bs agenda : List ℕ} {len count : ℕ} → Laid bs agenda len count → Coded bs agenda len
unfolding node_of
coded l = record { goals = λ k h. (l.fits k h).is_goal_part }

module _ {bs nodes agenda : List ℕ} {b : Branch} (a : PruneAsks bs nodes agenda b) where
  -- what the memory is handed
  pub asking : {es : Scope} {codes words : List ℕ} → Honest bs es codes words → Asking codes words agenda b
  asking h = record {
    code_room = h.code_room;
    word_room = h.word_room;
    task_room = a.laid.room;
    some = a.some;
    onward = a.onward;
  }

  pub hopeless_doom : {names table masks : List ℕ} → Settled bs names table masks
      → Doomed bs names table masks nodes agenda b.len b.count b.strict b.lax (b.limit - b.at) → Doom bs nodes agenda b
  hopeless_doom z d = record {
    none = λ p seen s l r.
        rw (← scopes_agree bs nodes b.count a.few)
        (doomed_none a.sound z agenda (entered a) (stocked a) b.len (coded a.laid) (eligible bs) p b.strict b.lax s l
        (rw r d));
  }

  -- with nothing lent the scope is the job's
  pub job_scope : b.count ≡ job_count bs → scope_in bs nodes b.count ≡ (job_of bs).scope
  job_scope n = ap (scope_in bs nodes) n ∙ a.rooted.base

  pub known_doom : {codes words : List ℕ} → b.count ≡ job_count bs → Honest bs (job_of bs).scope codes words
      → Stored codes words agenda b → Doom bs nodes agenda b
  known_doom n h d = record {
    none = λ p seen s l r. rw (job_scope n) (barren_none (stored_barren h a.some d) p seen s l (omega arith));
  }

  -- what is remembered is so
  pub honest_more : {codes words codes' words' : List ℕ} → b.count ≡ job_count bs → Honest bs (job_of bs).scope codes words
      → BarrenIn bs (scope_in bs nodes b.count) agenda b → Recorded codes words codes' words' agenda b → Honest bs (job_of bs).scope codes' words'
  honest_more n h d m = recorded_honest h (rw (job_scope n) at d) m
