use Rattle.std.proofs.Common.{ℕ, ◌<◌, ◌≡◌}
use Rattle.card.specs.Format.{kind_at}
use Rattle.trace.proofs.has_kind.Given as goal

abbrev pub invariant-loop-i : goal.invariant-loop-i
invariant-loop-i l = (j : ℕ) → j < l.i → kind_at l.card j ≡ l.k → ⊥
