-- Refusal 14 (01, "Refused, and where").
use Rattle.std.specs.Prelude.{ℕ, not, List, eqb}
use Rattle.calculus.specs.Items.{Items}
use Rattle.card.specs.Format.{byte_at}
use Rattle.card.specs.Verdict.{Verdict, mark, refuse}
use Rattle.card.specs.Sheet.{mark_of}

-- "a mark is not the true one": mark i of these marks, where a derivation surely uses the items U and its list is l
unfoldable pub mark_fault : List ℕ → Items → List ℕ → List ℕ → ℕ → Verdict
mark_fault bs U l marks i = refuse (not (eqb (byte_at marks i) (mark_of bs U l i))) 14 (mark i)
