-- By the tests: alive, within the lines, slack, must lines.
use Rattle.std.proofs.Common.{refl, sym, ◌∙◌, ap, rules}
use Rattle.std.proofs.lemmas.Bool.{false≢true}
use Rattle.card.proofs.CardChecked.{sound_front}
use Rattle.lines.specs.Count.{count_s}
use Rattle.lines.specs.Set.{full_s}
use Rattle.trace.proofs.FollowsExactly.{not_alive, not_inside, slack_covers, strict_covers}
use Rattle.trace.proofs.covers.Goals as goal
use Rattle.trace.proofs.covers.Goals.{then-w, else-w}

pub byte-requires : goal.byte-requires
byte-requires c = let f = sound_front c.args.card.now c.requires.sound in search rules

pub full-lines-requires : goal.full-lines-requires
full-lines-requires c = let f = sound_front c.args.card.now c.requires.sound in search rules

pub returns-else-divided : goal.returns-else-divided
returns-else-divided c =
    let lines = c.full-lines.ensures ∙ ap full_s c.byte.ensures.0 in
    rw c.if-divided.false (elim c.if-w.branch [
      | then-w w ↦
          let n = w.within-divided.ensures in
          not_inside c.requires.sound c.args.w _ lines n.words.0 n.words.1 _ n.value (sym w.divided-is ∙ c.if-divided.false)
      | else-w w ↦ not_alive c.requires.sound c.args.w w.if-w.false
    ])

pub returns-then-w-2 : goal.returns-then-w-2
returns-then-w-2 c =
    let lines = c.full-lines.ensures ∙ ap full_s c.byte.ensures.0 in
    elim c.if-w.branch [
      | then-w w ↦
          let n = w.within-divided.ensures in
          let x =
          slack_covers c.requires.sound c.args.w _ lines n.words.0 n.words.1 _ n.value w.if-w.true
          (sym w.divided-is ∙ c.if-divided.true) c.if-w-2.true in
          (λ h. x.0 refl, λ h. c.if-w-2.true)
      | else-w w ↦ absurd (false≢true (sym w.if-w.false ∙ sym w.divided-is ∙ c.if-divided.true))
    ]

pub returns-else-w-2 : goal.returns-else-w-2
returns-else-w-2 c =
    let lines = c.full-lines.ensures ∙ ap full_s c.byte.ensures.0 in
    elim c.if-w.branch [
      | then-w w ↦
          let n = w.within-divided.ensures in
          strict_covers c.requires.sound c.args.w _ lines n.words.0 n.words.1 _ n.value w.if-w.true
          (sym w.divided-is ∙ c.if-divided.true) c.if-w-2.false c.requires.met_counted _
          (c.count.ensures ∙ ap count_s c.strict_lines.ensures)
      | else-w w ↦ absurd (false≢true (sym w.if-w.false ∙ sym w.divided-is ∙ c.if-divided.true))
    ]
