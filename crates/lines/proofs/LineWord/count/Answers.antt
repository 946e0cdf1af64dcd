-- `lines::LineWord::count` meets its contract: the set digits of the word. Assumes nothing.
use Rattle.std.proofs.Common.{rules}
use Rattle.lines.specs.Inner.Word.{count_l}
use Rattle.lines.proofs.CountLaws.{ones_number}
use Rattle.lines.proofs.LineWord.count.Goals as goal

pub returns : goal.returns
unfolding count_l
returns c = ones_number 64 c.args.self.bits (search rules)
