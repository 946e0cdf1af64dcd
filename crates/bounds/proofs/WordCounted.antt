-- The lines of a class's word and a set's are as many as the lines of the class in the set.
use Prim.Native.Nat.{ℕ}
use mathlib.Core.Path.{◌≡◌, ap, ◌∙◌}
use mathlib.Core.Bool.{Bool, ◌&&◌}
use mathlib.Core.List.{List}
use lib.ListN.{get_or}
use Rattle.lines.specs.declared.LineSet.{LineSet}
use Rattle.lines.specs.Set.{bit_at, member}
use Rattle.lines.specs.Inner.Word.{line_in, lines_of, meet_l, count_l}
use Rattle.lines.proofs.LineLaws.{line_of, line_meet}
use Rattle.lines.proofs.CountLaws.{number_same}
use Rattle.bounds.specs.Inner.Doom.{line_stock}

-- the lines of a class in a set
pub stock_lines : (masks : List ℕ) (s : LineSet) (c : ℕ) → count_l (meet_l (lines_of s) (record { bits = get_or masks c 0 })) ≡ line_stock masks s c
unfolding count_l line_stock
stock_lines masks s c =
    let m = get_or masks c 0 in
    number_same (line_in (meet_l (lines_of s) (record { bits = m }))) (λ i. member s i && bit_at m i) 64
    (λ i g. line_meet (lines_of s) (record { bits = m }) i ∙ ap (λ (x : Bool). x && bit_at m i) (line_of s i g))
