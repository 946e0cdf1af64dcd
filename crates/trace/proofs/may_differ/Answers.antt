-- The one kind, then the other.
use Rattle.std.proofs.Common.{sym, ◌∙◌}
use Rattle.std.proofs.lemmas.Bool.{false≢true}
use mathlib.Core.Logic.{inl, inr, ⊎_elim}
use Rattle.trace.proofs.may_differ.Goals as goal

pub returns-else-has_kind : goal.returns-else-has_kind
returns-else-has_kind c = (λ e. inl (c.has_kind.ensures.0 e), λ n. c.if-has_kind.false)

pub returns-then-has_kind : goal.returns-then-has_kind
returns-then-has_kind c = (
  λ e. inr (c.has_kind-then-has_kind.ensures.0 e),
  ⊎_elim (λ n. absurd (false≢true (sym (c.has_kind.ensures.1 n) ∙ c.if-has_kind.true))) c.has_kind-then-has_kind.ensures.1,
)
