-- The nodes before the present one are of other kinds.
use Rattle.std.proofs.Common.{refl, sym, ◌∙◌, ap, arith}
use Rattle.std.proofs.Math.Nat.{eq-or-lt_of_le}
use Rattle.std.proofs.lemmas.Bool.{false≢true}
use mathlib.Core.Logic.{⊎_elim}
use Rattle.card.specs.Format.{kind_at}
use Rattle.card.proofs.CardChecked.{sound_front}
use Rattle.card.proofs.SoundNodes.{node_here}
use Rattle.trace.proofs.has_kind.Goals as goal

pub word-i-end-requires : goal.word-i-end-requires
word-i-end-requires c = let f = sound_front _ c.requires in omega (arith, f.whole)

pub loop-i-init : goal.loop-i-init
loop-i-init c = λ j h. absurd (omega arith)

pub kind-requires : goal.kind-requires
kind-requires c = node_here c.requires c.loop-i.i (omega (arith, c.loop-i-test.true, c.word-i-end.ensures.0))

pub returns-then-kind-k : goal.returns-then-kind-k
returns-then-kind-k c = (
  λ e. absurd (false≢true (sym e)),
  λ n. absurd (
      n.none c.loop-i.i (omega (arith, c.loop-i-test.true, c.word-i-end.ensures.0))
      (sym c.kind.ensures.0 ∙ c.if-kind-k.true)
      ),
)

pub loop-i-preserved : goal.loop-i-preserved
loop-i-preserved c = λ j h q.
    ⊎_elim (λ e. c.if-kind-k.false (c.kind.ensures.0 ∙ ap (kind_at c.args.card.now) (sym e) ∙ q)) (λ l. c.loop-i.invariant j l q)
    (eq-or-lt_of_le {n = j} {m = c.loop-i.i} (omega arith))

pub returns : goal.returns
returns c = (
  λ e. record { none = λ j h. c.loop-i.invariant j (omega (arith, h, c.loop-i-test.false, c.word-i-end.ensures.0)) },
  λ n. refl,
)
