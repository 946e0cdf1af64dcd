-- The lines of the class's word and of the set, counted.
use Prim.Native.Nat.{ℕ, ◌≤◌}
use mathlib.Core.Path.{sym, ap, ◌∙◌, subst}
use lib.ListN.{get_or}
use Rattle.lines.specs.declared.LineWord.{LineWord}
use Rattle.lines.specs.Inner.Word.{meet_l, count_l}
use Rattle.lines.proofs.LineLaws.{count_few}
use Rattle.bounds.proofs.WordCounted.{stock_lines}
use Rattle.bounds.proofs.doom.line_stock.Goals as goal

pub returns : goal.returns
returns c =
    let a = c.args in
    let class : LineWord = record { bits = get_or a.masks.now a.c 0 } in
    let counted = c.count.ensures in (
      counted ∙ ap count_l (c.meet.ensures ∙ ap (λ (s : LineWord). meet_l s class) c.lines-all.ensures)
          ∙ stock_lines a.masks.now a.s a.c,
      subst (λ (n : ℕ). n ≤ 64) (sym counted) (count_few _),
    )
