-- What the planner writes, the reader accepts with the same k.
use Prim.Native.Nat.{ℕ, ◌+◌}
use mathlib.Core.Path.{◌≡◌, sym, ◌∙◌, ap, subst}
use mathlib.Core.List.{List}
use lib.ListN.{length, take, drop}
use lib.Seq.{take_at}
use Rattle.calculus.specs.Job.{surely_used}
use Rattle.card.specs.Format.{line_count}
use Rattle.card.specs.Sheet.{sheet_of}
use Rattle.planning.specs.Plan.{Planning, planned, Carries}
use Rattle.planner.proofs.PlannedExactly.{planned_sheet}
use Rattle.reader.specs.Read.{Reading, accepted}
use Rattle.reader.proofs.AcceptedExactly.{sheet_length, round_trip}

carried : {bs old new : List ℕ} {k : ℕ} → Carries bs old new k → Reading bs (take (5 + k + line_count bs) new) (accepted k)
carried {bs} {old} {new} {k} c =
    let sh = sheet_of bs (surely_used c.first.listed) c.list in
    let long : length sh ≡ 5 + k + line_count bs = sheet_length bs _ c.list ∙ ap (λ n. 5 + n + line_count bs) c.count in
    let cut : take (5 + k + line_count bs) new ≡ sh =
    ap (take (5 + k + line_count bs)) c.bytes ∙ take_at sh (drop (5 + k + line_count bs) old) (5 + k + line_count bs) long in
    subst (λ s. Reading bs s (accepted k)) (sym cut)
    (subst (λ n. Reading bs sh (accepted n)) c.count (round_trip bs c.list c.card c.first))

pub written_is_read : {bs old new : List ℕ} {k : ℕ} → Planning bs old (planned k) new → Reading bs (take (5 + k + line_count bs) new)
    (accepted k)
written_is_read p = carried (planned_sheet p)
