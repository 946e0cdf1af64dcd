-- A code without a menu that is not the name, or an entry that is not open.
use Rattle.std.proofs.Common.{refl, sym, ◌∙◌, arith}
use mathlib.Core.Bool.{true≢false}
use borrow.Author.Tests.{lt-ltb, ne_eqb, eq-eqb, not-true, not-false}
use Rattle.entries.specs.Inner.Entries.{code_fits}
use Rattle.choice.proofs.passes.Goals as goal

pub returns-then-code-name : goal.returns-then-code-name
unfolding code_fits
returns-then-code-name c =
    let plain = lt-ltb c.args.code 1001 (omega arith) in
    let other = ne_eqb c.args.code c.args.name c.if-code-name.true in
    rw other (record { unusable = λ h. rw (plain, other) refl; usable = λ h k. absurd (true≢false h) })

pub returns-else-code-name : goal.returns-else-code-name
unfolding code_fits
returns-else-code-name c =
    let plain = lt-ltb c.args.code 1001 (omega arith) in
    let same = eq-eqb c.args.code c.args.name c.if-code-name.false in
    record {
      unusable = λ h. rw (plain, same) (sym c.open.ensures ∙ not-true _ h);
      usable = λ h k. rw (plain, same) (sym c.open.ensures ∙ not-false _ h);
    }
