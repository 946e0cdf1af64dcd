-- The walk of the goal, then the tests of its end and of its items. The step limit is a byte, so the list is short.
use Rattle.std.proofs.Common.{◌≤◌, refl, arith}
use Rattle.std.proofs.lemmas.Result.{err_from_is_err_and}
use Rattle.card.proofs.CardChecked.{sound_front}
use Rattle.trace.specs.Inner.Listing.{SurelyFollows}
use Rattle.trace.proofs.FollowsExactly.{start_call, end_short, end_counted, end_found, end_sure, stray_found}
use Rattle.trace.proofs.steps_check.Goals as goal

pub word-requires : goal.word-requires
word-requires c = omega (arith, (sound_front c.args.card.now c.requires.sound).whole)

pub walk-requires : goal.walk-requires
walk-requires c =
    let low : c.args.k ≤ 255 = omega (arith, c.requires.k_bound, c.type_inv.card 10) in
    let ready =
    start_call c.requires.sound c.requires.k_in_bounds c.requires.k_bound low c.of-tables.ensures.entered c.of-tables.ensures.scope _
    c.start.ensures _ c.word.ensures.0 in
    record { walk_ready = ready.0; goal_walk_ready = ready.1 }

pub returns-in_err-w : goal.returns-in_err-w
unfolding SurelyFollows
returns-in_err-w c =
    let low : c.args.k ≤ 255 = omega (arith, c.requires.k_bound, c.type_inv.card 10) in
    let p = err_from_is_err_and c.from_residual.result c.from_residual.ensures.1 in
    rw (p.1, p.2) (record {
      following =
          stray_found c.requires.sound c.requires.k_in_bounds c.requires.k_bound low c.of-tables.ensures.entered
          c.of-tables.ensures.scope _ c.start.ensures _ c.word.ensures.0 c.in_err-w.ensures refl;
      surely_follows = tt;
    })

pub ended-requires : goal.ended-requires
ended-requires c =
    let low : c.args.k ≤ 255 = omega (arith, c.requires.k_bound, c.type_inv.card 10) in
    record {
      sound = c.requires.sound;
      at_bound =
          end_short c.requires.sound c.requires.k_in_bounds c.requires.k_bound low c.of-tables.ensures.entered
          c.of-tables.ensures.scope _ c.start.ensures _ c.word.ensures.0 c.in_ok-w.ensures _ refl;
      k_bound = low;
      met_counted =
          end_counted c.requires.sound c.requires.k_in_bounds c.requires.k_bound low c.of-tables.ensures.entered
          c.of-tables.ensures.scope _ c.start.ensures _ c.word.ensures.0 c.in_ok-w.ensures _ refl;
    }

pub returns : goal.returns
returns c =
    let low : c.args.k ≤ 255 = omega (arith, c.requires.k_bound, c.type_inv.card 10) in
    record {
      following =
          end_found c.requires.sound c.requires.k_in_bounds c.requires.k_bound low c.of-tables.ensures.entered
          c.of-tables.ensures.scope _ c.start.ensures _ c.word.ensures.0 c.in_ok-w.ensures _ refl c.ended.ensures.ending;
      surely_follows =
          end_sure c.requires.sound c.requires.k_in_bounds c.requires.k_bound low c.of-tables.ensures.entered
          c.of-tables.ensures.scope _ c.start.ensures _ c.word.ensures.0 c.in_ok-w.ensures _ refl _ c.ended.ensures.ending
          c.ended.ensures.has_lines;
    }
