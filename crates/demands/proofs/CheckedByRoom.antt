-- What the planner tells of a card where it is lent an empty buffer, in which no sheet has room: 10 of a sound card, else the card's fault.
-- `kit_check` of the header and `check` of the Rust package ask so.
use Prim.Native.Nat.{ℕ, ◌≤◌}
use mathlib.Core.Path.{◌≡◌, refl}
use mathlib.Core.Logic.{◌↔◌}
use mathlib.Core.List.{List, []}
use native.Mathlib.Omega.{arith}
use lib.ListN.{length}
use Rattle.card.specs.Verdict.{Where, fault, sheet}
use Rattle.card.specs.Fault.{first_fault, Sound}
use Rattle.card.proofs.FaultsInOrder.{sound_or_faulty}
use Rattle.planning.specs.Plan.{PlanVerdict, refused, room_of, Planning, faulty, short, none_within, planned_as}
use Rattle.planner.proofs.PlannedExactly.{plan_determined, fault_not_ten}

no_room : (bs : List ℕ) → room_of bs ≤ length {A = ℕ} [] → ⊥
no_room bs h = omega arith

pub ten_if_sound : {bs new : List ℕ} {a : PlanVerdict} → Planning bs [] a new → (a ≡ refused 10 sheet) ↔ Sound bs
ten_if_sound {bs} (faulty p) = (λ e. absurd (fault_not_ten bs p e), λ s. absurd (sound_or_faulty s.faultless p))
ten_if_sound (short s h) = (λ e. s, λ t. refl)
ten_if_sound {bs} (none_within s h u) = absurd (no_room bs h)
ten_if_sound {bs} (planned_as s h l f) = absurd (no_room bs h)

pub fault_if_faulty : {bs new : List ℕ} {a : PlanVerdict} {n : ℕ} {w : Where} → first_fault bs ≡ fault n w → Planning bs [] a new
    → a ≡ refused n w
fault_if_faulty p q = (plan_determined q (faulty p)).0
