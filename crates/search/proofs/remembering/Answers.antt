-- A run whose memory is empty at first, and which never gives up.
use Rattle.branch.specs.declared.Outcome.{Outcome}
use Rattle.branch.specs.declared.Outcome.TheVariants.{Solved as IsSolved, Stuck as IsStuck, Tired as IsTired}
use Rattle.branch.specs.Inner.Values.{Awake}
use Rattle.dead.proofs.DeadStaysDead.{honest_new}
use Rattle.engine.specs.Inner.Engine.{Weary}
use Rattle.search.proofs.StartFindsFirst.{says_finds}
use Rattle.search.proofs.remembering.Goals as goal

awake : (r : Outcome) → Weary r ⊥ → Awake r
unfolding Weary Awake
awake IsSolved w = tt
awake IsStuck w = tt
awake IsTired w = w

pub run-r-requires : goal.run-r-requires
run-r-requires c =
    let s = c.at_start-search.ensures in
    record {
      starts = record {
        sound = c.requires.sound;
        waiting = c.requires.waiting;
        tape_room = s.tape_room;
        entered = s.entered;
        scope = s.scope;
      };
      stocked = rw s.stock (record { settled = c.requires.settled; memory = honest_new });
    }

pub list_of-requires : goal.list_of-requires
list_of-requires c = awake _ c.run-r.ensures.weary

pub returns : goal.returns
returns c = says_finds _ _ _ _ _ c.run-r.ensures.ran c.list_of.ensures
