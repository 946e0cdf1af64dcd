-- The row with the key and as much room.
use Rattle.std.proofs.Common.{◌*◌, refl, sym, ◌∙◌, arith}
use mathlib.Core.Bool.{false≢true}
use Rattle.std.proofs.lemmas.Slice.Eq.{slice_eq-Decides}
use Rattle.std.proofs.lemmas.Bool.Decides.{Decides-eqb}
use Rattle.dead.proofs.RowsKept.{part_same, row_stored, stored_key, stored_room}
use Rattle.dead.proofs.known.Goals as goal

pub returns-then-words-at : goal.returns-then-words-at
returns-then-words-at c =
    (λ p. absurd (false≢true p), λ k. absurd (omega (arith, stored_room c.row_of-row.ensures.0 k, c.if-words-at.true)))

pub returns-then-eq : goal.returns-then-eq
returns-then-eq c =
    let same = part_same {xs = c.args.words.now} {ys = c.words_of-key.result} {at = c.row_of-row.result * 9} {n = 8}
    (omega (arith, c.requires.word_room, c.row_of-row.ensures.1)) (rw c.words_of-key.ensures (omega arith)) (omega arith) refl
    (slice_eq-Decides Decides-eqb _ _ _ c.eq.ensures) in
    let tasks = part_same {xs = c.args.codes.now} {ys = c.args.agenda.now} {at = c.row_of-row.result * 16} {n = c.args.b.len}
    (omega (arith, c.requires.code_room, c.row_of-row.ensures.1)) (omega arith) (omega arith)
    (omega arith) (slice_eq-Decides Decides-eqb _ _ _ c.eq-then-eq.ensures) in
    row_stored c.row_of-row.ensures.0 c.if-b-gt-WIDTH.false (rw c.words_of-key.ensures at (same.0 c.if-eq.true)) c.if-words-at.false tasks

pub returns-else-eq : goal.returns-else-eq
returns-else-eq c =
    let same = part_same {xs = c.args.words.now} {ys = c.words_of-key.result} {at = c.row_of-row.result * 9} {n = 8}
    (omega (arith, c.requires.word_room, c.row_of-row.ensures.1)) (rw c.words_of-key.ensures (omega arith)) (omega arith) refl
    (slice_eq-Decides Decides-eqb _ _ _ c.eq.ensures) in (
      λ p. absurd (false≢true (sym c.if-eq.false ∙ p)),
      λ k. same.1 (rw c.words_of-key.ensures (stored_key c.row_of-row.ensures.0 k)),
    )
