-- A first run; and where it gives up, one with the prunings.
use Rattle.std.proofs.Common.{◌≡◌, refl}
use Rattle.branch.specs.declared.Outcome.{Outcome}
use Rattle.branch.specs.declared.Outcome.TheVariants.{Solved as IsSolved, Stuck as IsStuck, Tired as IsTired}
use Rattle.branch.specs.Inner.Values.{Awake}
use Rattle.search.proofs.StartFindsFirst.{says_finds}
use Rattle.search.proofs.first_list.Goals as goal

awake : (r : Outcome) → (r ≡ IsTired → ⊥) → Awake r
unfolding Awake
awake IsSolved n = tt
awake IsStuck n = tt
awake IsTired n = n refl

pub run-r-requires : goal.run-r-requires
run-r-requires c =
    let s = c.at_start-search.ensures in
    record {
      starts = record {
        sound = c.requires;
        waiting = c.waits-waits.ensures;
        tape_room = s.tape_room;
        entered = s.entered;
        scope = s.scope;
      };
      stocked = tt;
    }

pub list_of-requires : goal.list_of-requires
list_of-requires c = awake _ c.in_default.not-Tired

pub returns-in_default : goal.returns-in_default
returns-in_default c = says_finds _ _ _ _ _ c.run-r.ensures.ran c.list_of.ensures
