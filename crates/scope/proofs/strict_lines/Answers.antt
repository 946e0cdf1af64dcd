-- The set holds the must lines among the first i.
use Rattle.std.proofs.Common.{◌≡◌, ℕ, suc, refl, sym, ◌∙◌, ap, List, add-one, arith, rules}
use borrow.Author.Tests.{eq-eqb, ne_eqb}
use Rattle.card.specs.Format.{line_count, line_byte}
use Rattle.card.proofs.CardChecked.{sound_front}
use Rattle.card.proofs.SoundNodes.{line_here}
use Rattle.lines.specs.Set.{add_s}
use Rattle.scope.specs.Inner.Sets.{strict_below, strict_of}
use Rattle.scope.proofs.strict_lines.Goals as goal
use Rattle.scope.proofs.strict_lines.Goals.{then-line_byte-eq1, else-line_byte-eq1}

module _ (bs : List ℕ) (i : ℕ) where
  must : line_byte bs i ≡ 1 → strict_below bs (suc i) ≡ add_s (strict_below bs i) i
  unfolding strict_below
  must h = rw (eq-eqb (line_byte bs i) 1 h, strict_below) refl

  may : (line_byte bs i ≡ 1 → ⊥) → strict_below bs (suc i) ≡ strict_below bs i
  unfolding strict_below
  may h = rw (ne_eqb (line_byte bs i) 1 h, strict_below) refl

pub byte-i-end-requires : goal.byte-i-end-requires
byte-i-end-requires c = let f = sound_front c.args.card.now c.requires in search rules

pub loop-i-init : goal.loop-i-init
unfolding strict_below
loop-i-init c = c.empty-strict.ensures

pub line_byte-requires : goal.line_byte-requires
line_byte-requires c = line_here c.requires c.loop-i.i (omega (arith, c.byte-i-end.ensures.0))

pub loop-i-preserved : goal.loop-i-preserved
loop-i-preserved c =
    let bs = c.args.card.now in
    let i = c.loop-i.i in
    let byte = c.line_byte.ensures.0 in
    let next : c.if-line_byte-eq1.strict ≡ strict_below bs (suc i) = elim c.if-line_byte-eq1.branch [
      | then-line_byte-eq1 w ↦
          w.strict-is ∙ w.add-strict.ensures ∙ ap (λ s. add_s s i) c.loop-i.invariant
          ∙ sym (must bs i (sym byte ∙ w.if-line_byte-eq1.true))
      | else-line_byte-eq1 w ↦ w.strict-is ∙ c.loop-i.invariant ∙ sym (may bs i (λ p. w.if-line_byte-eq1.false (byte ∙ p)))
    ]
    in next ∙ ap (strict_below bs) (sym (add-one i))

pub returns : goal.returns
unfolding strict_of
returns c =
    let bs = c.args.card.now in
    let e : c.loop-i.i ≡ line_count bs = omega (arith, c.byte-i-end.ensures.0) in
    c.loop-i.invariant ∙ ap (strict_below bs) e
