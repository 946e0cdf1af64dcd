-- What the callees answer, put together.
use Rattle.std.proofs.Common.{◌+◌, ◌≡◌, refl, ◌∙◌, ap, ap₂, false, arith}
use Rattle.card.specs.Format.{line_count}
use Rattle.card.proofs.CardChecked.{sound_front}
use Rattle.lines.specs.Set.{full_s, cut_s}
use Rattle.lines.specs.Count.{count_s}
use Rattle.branch.proofs.CountsKept.{kept}
use Rattle.scope.specs.Inner.Sets.{strict_of}
use Rattle.moves.specs.Inner.Moves.{start_b}
use Rattle.moves.proofs.start.Goals as goal

pub byte-lines-requires : goal.byte-lines-requires
byte-lines-requires c = omega (arith, (sound_front c.args.card.now c.requires).whole)

pub byte-requires : goal.byte-requires
byte-requires c = omega (arith, (sound_front c.args.card.now c.requires).whole)

pub byte-requires-2 : goal.byte-requires-2
byte-requires-2 c = omega (arith, (sound_front c.args.card.now c.requires).whole)

pub full-requires : goal.full-requires
full-requires c = omega (arith, c.byte-lines.ensures.0, (sound_front c.args.card.now c.requires).lines)

pub returns : goal.returns
unfolding start_b
returns c =
    let bs = c.args.card.now in
    let strict = c.strict_lines-strict.ensures in
    let lax : c.cut-lax.result ≡ cut_s (full_s (line_count bs)) (strict_of bs) =
    c.cut-lax.ensures ∙ ap₂ cut_s (c.full.ensures ∙ ap full_s c.byte-lines.ensures.0) strict in
    let both = kept {c = start_b bs} refl (λ i. record {
      at = 0;
      count = c.byte.ensures.0 i + c.byte-lines.ensures.0 i;
      len = 1;
      limit = c.byte-2.ensures.0 i;
      due = (c.count.ensures ∙ ap count_s strict) i;
      strict = strict i;
      lax = lax i;
      used = c.empty.ensures i;
      seen = c.empty-2.ensures i;
      slack = false;
    }) in
    record { value = both.0; counted = both.1; short = omega (arith, c.byte-2.ensures.1) }
