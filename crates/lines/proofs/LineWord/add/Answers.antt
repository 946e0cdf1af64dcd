-- `lines::LineWord::add` meets its contract, from those of `one`, `lines` and `join`. Assumes nothing.
use Rattle.std.proofs.Common.{ap, ◌∙◌}
use Rattle.lines.specs.Inner.Word.{add_l, join_l, lines_of}
use Rattle.lines.proofs.LineWord.add.Goals as goal

pub returns : goal.returns
unfolding add_l
returns c = c.join.ensures ∙ ap (join_l c.args.self) (c.lines.ensures ∙ ap lines_of c.one.ensures)
