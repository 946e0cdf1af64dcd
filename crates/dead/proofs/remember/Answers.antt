-- The row of the key is told.
use Rattle.std.proofs.Common.{◌+◌, ◌-◌, ◌*◌, ◌∙◌, refl, sym, arith}
use Rattle.keys.specs.Inner.Keys.{key_words}
use Rattle.dead.proofs.RowsKept.{part_put}
use Rattle.dead.proofs.remember.Goals as goal

pub returns-then-b-gt-WIDTH : goal.returns-then-b-gt-WIDTH
returns-then-b-gt-WIDTH c = record {
  tasks = λ h. absurd (omega (arith, h, c.if-b-gt-WIDTH.true));
  key = λ h. absurd (omega (arith, h, c.if-b-gt-WIDTH.true));
  long = λ h. (refl, refl);
}

pub returns : goal.returns
returns c =
    let row = c.row_of-row.ensures.1 in
    let e = c.row_of-row.ensures.0 in
    let key = part_put {xs = c.args.words.now} {ys = key_words c.args.b} {at = c.row_of-row.result * 9} {n = 9}
    {k = c.row_of-row.result * 9 + 9 - c.row_of-row.result * 9}
    (omega (arith, c.requires.word_room)) (omega arith) (omega arith) (c.copy_from_slice.ensures.after ∙ c.words_of.ensures) in
    record {
      tasks = λ h. rw (sym e) c.put_codes.ensures;
      key = λ h. rw (sym e) key;
      long = λ h. absurd (omega (arith, h, c.if-b-gt-WIDTH.false));
    }
