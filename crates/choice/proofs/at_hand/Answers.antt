-- By the tests: a rule, a strict item, a lax item.
use Rattle.std.proofs.Common.{sym, ◌∙◌}
use mathlib.Core.Bool.{true≢false}
use borrow.Author.Tests.{lt-leb, le-leb, lt-ltb}
use Rattle.calculus.specs.Items.{◌∪◌}
use Rattle.scope.specs.Inner.Sets.{items}
use Rattle.choice.specs.Inner.Choice.{at_hand_by}
use Rattle.choice.proofs.at_hand.Goals as goal
use Rattle.choice.proofs.at_hand.Goals.{then-e-rules, else-e-rules}

pub returns-then-has : goal.returns-then-has
unfolding at_hand_by ◌∪◌ items
returns-then-has c =
    elim c.if-e-rules.branch [
      | then-e-rules w ↦ rw (lt-leb c.args.rules c.args.e w.if-e-rules.true) c.if-has.true
      | else-e-rules w ↦
          rw (le-leb c.args.rules c.args.e w.if-e-rules.false, ← w.has.ensures, sym w.value-is ∙ c.if-has.true) c.if-has.true
    ]

pub returns-else-has : goal.returns-else-has
unfolding at_hand_by ◌∪◌ items
returns-else-has c =
    elim c.if-e-rules.branch [
      | then-e-rules w ↦ absurd (true≢false (sym (lt-ltb c.args.e c.args.rules w.if-e-rules.true) ∙ sym w.value-is ∙ c.if-has.false))
      | else-e-rules w ↦
          rw (le-leb c.args.rules c.args.e w.if-e-rules.false, ← w.has.ensures, sym w.value-is ∙ c.if-has.false)
          c.has-else-has.ensures
    ]
