-- By the two tests, in their order.
use Rattle.std.proofs.Common.{refl}
use Rattle.std.proofs.lemmas.Result.{err_from_is_err_and}
use Rattle.card.specs.Verdict.{where_of}
use Rattle.trace.specs.Inner.Listing.{HasLines}
use Rattle.trace.proofs.FollowsExactly.{end_early, end_bare, end_whole}
use Rattle.trace.proofs.ended.Goals as goal

pub returns-in_err-refuse : goal.returns-in_err-refuse
unfolding where_of HasLines
returns-in_err-refuse c =
    let p = err_from_is_err_and c.from_residual.result c.from_residual.ensures.1 in
    rw (p.1, p.2) (record { ending = end_early c.args.w c.args.k _ c.in_err-refuse.ensures; has_lines = tt })

pub returns-in_err-refuse-2 : goal.returns-in_err-refuse-2
unfolding where_of HasLines
returns-in_err-refuse-2 c =
    let p = err_from_is_err_and c.from_residual-in_err-refuse-2.result c.from_residual-in_err-refuse-2.ensures.1 in
    rw (p.1, p.2) (record {
      ending = end_bare c.args.w c.args.k c.in_ok-refuse.ensures _ c.covers.ensures _ c.in_err-refuse-2.ensures;
      has_lines = tt;
    })

pub returns : goal.returns
unfolding where_of HasLines
returns c = record {
  ending = end_whole c.args.w c.args.k c.in_ok-refuse.ensures _ c.covers.ensures c.in_ok-refuse-2.ensures _;
  has_lines = refl;
}
