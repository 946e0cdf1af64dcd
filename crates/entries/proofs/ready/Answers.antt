-- An entry that is no line is ready; a line is where the lines seen hold its mask.
use Rattle.std.proofs.Common.{ℕ, ◌+◌, ◌-◌, ◌<◌, ◌≤◌, ◌≡◌, refl, ◌∙◌, true, List, arith}
use borrow.Author.Tests.{lt-leb, le-leb, le-ltb, lt-ltb}
use Rattle.lines.specs.declared.LineWord.{LineWord}
use Rattle.lines.specs.Inner.Word.{holds_l}
use Rattle.entries.specs.Inner.Masks.{mask_at, ready_by}
use Rattle.entries.proofs.ready.Goals as goal
use Rattle.entries.proofs.ready.Goals.{else-rules-e-via-then-rules-e+else-e-rules, else-rules-e-via-else-rules-e}

module _ (rules lines : ℕ) (masks : List ℕ) (seen : LineWord) (e : ℕ) where
  a_rule : e < rules → true ≡ ready_by rules lines masks seen e
  unfolding ready_by
  a_rule h = rw (lt-leb rules e h, ready_by) refl

  lent : rules + lines ≤ e → true ≡ ready_by rules lines masks seen e
  unfolding ready_by
  lent h = rw (le-leb rules e (omega arith), le-ltb e (rules + lines) h, ready_by) refl

  a_line : rules ≤ e → e < rules + lines → holds_l seen (mask_at masks (e - rules)) ≡ ready_by rules lines masks seen e
  unfolding ready_by
  a_line h k = rw (le-leb rules e h, lt-ltb e (rules + lines) k, ready_by) refl

pub returns-then-e-rules : goal.returns-then-e-rules
returns-then-e-rules c =
    let a = c.args in
    c.holds.ensures ∙ a_line a.rules a.lines a.waits.now a.seen a.e c.if-rules-e.true c.if-e-rules.true

pub returns-else-rules-e : goal.returns-else-rules-e
returns-else-rules-e c =
    let a = c.args in
    elim c.else-rules-e.branch [
      | else-rules-e-via-then-rules-e+else-e-rules w ↦ lent a.rules a.lines a.waits.now a.seen a.e w.if-e-rules.false
      | else-rules-e-via-else-rules-e w ↦ a_rule a.rules a.lines a.waits.now a.seen a.e w.if-rules-e.false
    ]
