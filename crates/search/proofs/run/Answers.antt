-- The engine at the card's goal.
use native.Mathlib.Omega.{arith}
use mathlib.Core.Path.{refl}
use lib.ListN.{replicate}
use Rattle.card.proofs.CardChecked.{sound_front}
use Rattle.prune.proofs.RootsKept.{rooted_start}
use Rattle.engine.proofs.WaysSaid.{equipped_at}
use Rattle.engine.proofs.CountIsScan.{count_is_scan}
use Rattle.search.proofs.StartFindsFirst.{goal_code, at_goal, asked, ran, started, start_count, start_limit}
use Rattle.search.proofs.run.Goals as goal

pub word-goal-requires : goal.word-goal-requires
word-goal-requires g c =
    let f = (sound_front c.args.job.now.card.now c.requires.starts.sound).whole in omega (arith, f)

pub byte-depth-requires : goal.byte-depth-requires
byte-depth-requires g c =
    let f = (sound_front c.args.job.now.card.now c.requires.starts.sound).whole in omega (arith, f)

pub put-requires : goal.put-requires
put-requires g c =
    let g = c.word-goal.ensures.0 in
    let d = c.byte-depth.ensures.0 in
    let small = goal_code c.requires.starts.sound in (omega arith, (omega (arith, small.0), omega (arith, small.1)))

pub solve-requires : goal.solve-requires
solve-requires g c =
    let q = c.requires.starts in
    let small = start_limit _ c.start-b.ensures.value c.start-b.ensures.short in
    let goal = at_goal (replicate 104 0) c.start-b.ensures.value c.word-goal.ensures.0 c.byte-depth.ensures.0
    c.put.ensures refl in
    let told = asked q.sound goal _ _ _ _ q.scope q.waiting q.entered q.tape_room (omega arith) in record {
      ready = told.0;
      laid = told.1;
      equipped = equipped_at (start_count _ c.start-b.ensures.value)
          (record { rooted = rooted_start q.scope; stocked = c.requires.stocked });
      count_is_scan = count_is_scan told.0;
    }

pub returns : goal.returns
returns g c =
    let q = c.requires.starts in
    let small = start_limit _ c.start-b.ensures.value c.start-b.ensures.short in
    let goal = at_goal (replicate 104 0) c.start-b.ensures.value c.word-goal.ensures.0 c.byte-depth.ensures.0
    c.put.ensures refl in
    let stays = c.solve.ensures.stays in record {
      ran = ran q.sound goal c.solve.ensures.solving q.scope (omega arith);
      starts = started q.sound goal c.solve.ensures.solving q;
      weary = stays.weary;
    }
