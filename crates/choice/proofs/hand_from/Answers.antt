-- The lines of both sets, less those below.
use Prim.Native.Nat.{◌-◌, ◌^◌}
use native.Mathlib.Omega.{arith}
use native.Mathlib.Nat.{lt_of_le_of_lt}
use mathlib.Core.Path.{ap₂, ◌∙◌}
use mathlib.Core.Bool.{Bool, not, ◌&&◌}
use borrow.Author.Rules.{rules}
use lib.Bits.{bit_and, bit_or, or_lt, xor_lt, and_le_l}
use Rattle.lines.specs.Set.{each, less, full_s, join_s, cut_s}
use Rattle.lines.proofs.Word.{bit_or_lem, bit_less, bit_ones}
use Rattle.choice.proofs.hand_from.Goals as goal

pub full-requires : goal.full-requires
full-requires c = let low = c.requires in omega arith

pub returns : goal.returns
unfolding join_s cut_s full_s each less
returns c =
    let b = c.args.b in
    let i = c.args.i in
    let hand = bit_or b.strict.low b.lax.low in
    let fits = or_lt 64 b.strict.low b.lax.low (search rules) (search rules) in
    rw (c.lines.ensures, c.cut.ensures, c.join-hand.ensures, c.full.ensures) (record {
      fits = xor_lt 64 hand (bit_and hand (2 ^ i - 1)) fits (lt_of_le_of_lt (and_le_l hand (2 ^ i - 1)) fits);
      line = λ x. bit_less hand (2 ^ i - 1) x ∙ ap₂ (λ (p q : Bool). p && not q) (bit_or_lem b.strict.low b.lax.low x) (bit_ones i x);
    })
