-- What 01 asks of the planner's outcomes, for every card and buffer. The contract of `plan` says that its answer and the new buffer are
-- an outcome; these theorems say what follows.
use Prim.Native.Nat.{ℕ, ◌+◌, ◌≤◌}
use mathlib.Core.Path.{◌≡◌, refl, sym, ap, ap₂, ◌∙◌}
use mathlib.Core.Logic.{◌↔◌, ◌⊎◌, inl, inr}
use mathlib.Core.List.{List, ◌++◌}
use native.Mathlib.Omega.{arith}
use lib.ListN.{length, get_or, drop}
use Rattle.calculus.specs.Items.{Items}
use Rattle.calculus.specs.Steps.{Before, here, there}
use Rattle.calculus.specs.Job.{Job, DerivableWithin, Listed, First}
use Rattle.calculus.proofs.SurelyByList.{job_surely}
use Rattle.card.specs.Format.{Bytes, line_count}
use Rattle.card.specs.Verdict.{Where, fault}
use Rattle.card.specs.Fault.{first_fault, Placed, Sound}
use Rattle.card.proofs.FaultsInOrder.{sound_or_faulty, same_fault}
use Rattle.card.specs.Decode.{job_of}
use Rattle.card.specs.Sheet.{word, sheet_of}
use Rattle.card.proofs.CardChecked.{sound_front}
use Rattle.card.proofs.FaultsInRange.{fault_in_range}
use Rattle.card.proofs.NodesDecoded.{listed_short}
use Rattle.std.proofs.Common.{Result, Ok}
use Rattle.card.specs.declared.faults.Refusal.{Refusal}
use Rattle.planning.specs.Plan.{PlanVerdict, planned, refused, told_plan, room_of, Planning, faulty, short, none_within, planned_as}
use Rattle.planning.specs.Plan.{room_for_any, NeverShort, PlanDecided, is_planned, is_refused, Carries}

-- The first list is the only one.
before_apart : {l m n k : List ℕ} → Before l m → Before n k → l ≡ k → m ≡ n → ⊥
before_apart (here {x} {y} p) (here {x = z} {y = w} q) e f = let a : x ≡ w = cc in let b : y ≡ z = cc in omega arith
before_apart (here {x} {y} p) (there {x = z} q) e f = let a : x ≡ z = cc in let b : y ≡ z = cc in omega arith
before_apart (there {x = z} p) (here {x} {y} q) e f = let a : z ≡ y = cc in let b : z ≡ x = cc in omega arith
before_apart (there {x = z} {l = l} {m = m} p) (there {x = w} {l = n} {m = k} q) e f =
    let a : l ≡ k = cc in
    let b : m ≡ n = cc in
    before_apart p q a b

before_not_both : {l m : List ℕ} → Before l m → Before m l → ⊥
before_not_both p q = before_apart p q refl refl

pub first_unique : (j : Job) (l m : List ℕ) → First j l → First j m → l ≡ m
first_unique j l m f g = at (f.least m g.listed) (g.least l f.listed)
  where
    at : (m ≡ l) ⊎ Before l m → (l ≡ m) ⊎ Before m l → l ≡ m
    at (inl e) q = sym e
    at (inr b) (inl e) = e
    at (inr b) (inr d) = absurd (before_not_both b d)

-- a list within limits is that of a derivation within limits, and the other way round
pub derivable : {j : Job} {l : List ℕ} → Listed j l → DerivableWithin j
derivable x = record { derivation = x.derivation; limited = x.limited }

-- "Card, .. old buffer and these rules therefore determine every answer and byte": the cases of an outcome exclude each other.
pub plan_determined : {bs old : List ℕ} {a b : PlanVerdict} {m n : List ℕ} → Planning bs old a m → Planning bs old b n → (a ≡ b) × (m ≡ n)
plan_determined (faulty p) (faulty q) = (same_fault refused p q, refl)
plan_determined (faulty p) (short s h) = absurd (sound_or_faulty s.faultless p)
plan_determined (faulty p) (none_within s h u) = absurd (sound_or_faulty s.faultless p)
plan_determined (faulty p) (planned_as s h l f) = absurd (sound_or_faulty s.faultless p)
plan_determined (short s h) (faulty q) = absurd (sound_or_faulty s.faultless q)
plan_determined (short s h) (short t i) = (refl, refl)
plan_determined (short s h) (none_within t i u) = absurd (omega arith)
plan_determined (short s h) (planned_as t i l f) = absurd (omega arith)
plan_determined (none_within s h u) (faulty q) = absurd (sound_or_faulty s.faultless q)
plan_determined (none_within s h u) (short t i) = absurd (omega arith)
plan_determined (none_within s h u) (none_within t i v) = (refl, refl)
plan_determined (none_within s h u) (planned_as t i l f) = absurd (u (derivable f.listed))
plan_determined (planned_as s h l f) (faulty q) = absurd (sound_or_faulty s.faultless q)
plan_determined (planned_as s h l f) (short t i) = absurd (omega arith)
plan_determined (planned_as s h l f) (none_within t i u) = absurd (u (derivable f.listed))
plan_determined {bs} {old} (planned_as s h l f) (planned_as t i m g) =
    let e = first_unique (job_of bs) l m f g in
    let u = job_surely (job_of bs) f.listed.derivation g.listed.derivation (f.listed.list ∙ e ∙ sym g.listed.list) in
    (ap (λ (x : List ℕ). planned (length x)) e, ap₂ (λ (U : Items) (x : List ℕ). sheet_of bs U x ++ drop (5 + length x + line_count bs) old) u e)

-- Demand 2. Of a sound card and a buffer with room: it is planned exactly if there is a derivation within limits.
pub planned_exactly : {bs old new : List ℕ} {a : PlanVerdict} → Sound bs → room_of bs ≤ length old → Planning bs old a new
    → ((k : ℕ) × (a ≡ planned k)) ↔ DerivableWithin (job_of bs)
planned_exactly s r (faulty p) = absurd (sound_or_faulty s.faultless p)
planned_exactly s r (short t h) = absurd (omega arith)
planned_exactly s r (none_within t h u) = (λ q. let z : ◌≡◌ {A = ℕ} 0 1 = cc q.1 in absurd (omega arith), λ d. absurd (u d))
planned_exactly s r (planned_as t h l f) = (λ q. derivable f.listed, λ d. (length l, refl))

-- Demand 2, the sheet.
pub planned_sheet : {bs old new : List ℕ} {k : ℕ} → Planning bs old (planned k) new → Carries bs old new k
planned_sheet {k} p = at p refl
  where
    at : {bs old new : List ℕ} {a : PlanVerdict} → Planning bs old a new → a ≡ planned k → Carries bs old new k
    at (faulty q) e = let z : ◌≡◌ {A = ℕ} 0 1 = cc in absurd (omega arith)
    at (short s h) e = let z : ◌≡◌ {A = ℕ} 0 1 = cc in absurd (omega arith)
    at (none_within s h u) e = let z : ◌≡◌ {A = ℕ} 0 1 = cc in absurd (omega arith)
    at (planned_as s h l f) e =
        let c : length l ≡ k = cc in
        let few = listed_short _ l f.listed in
        record { card = s; list = l; first = f; count = c; within = omega arith; bytes = rw c }

-- T, as it stands in the sheet
pub lines_byte : {bs old new : List ℕ} {k : ℕ} → Carries bs old new k → get_or new 4 0 ≡ line_count bs
unfolding sheet_of word
lines_byte s = ap (λ (x : List ℕ). get_or x 4 0) s.bytes

-- for a caller that reads the sheet by its byte 4: the steps and the marks lie within the buffer
pub planned_room : (bs old new : List ℕ) (a : Result ℕ Refusal) (k : ℕ) → a ≡ Ok k → Planning bs old (told_plan a) new
    → 5 + k + get_or new 4 0 ≤ length old
unfolding told_plan
planned_room bs old new a k e p =
    let q : Planning bs old (planned k) new = rw e at p in
    let s = planned_sheet q in
    let t = lines_byte s in
    omega arith

-- "after a refusal neither it nor anything else lent has changed"
pub refused_keeps : {bs old new : List ℕ} {n : ℕ} {w : Where} → Planning bs old (refused n w) new → new ≡ old
refused_keeps {n} {w} p = at p refl
  where
    at : {bs old new : List ℕ} {a : PlanVerdict} → Planning bs old a new → a ≡ refused n w → new ≡ old
    at (faulty q) e = refl
    at (short s h) e = refl
    at (none_within s h u) e = refl
    at (planned_as s h l f) e = let z : ◌≡◌ {A = ℕ} 0 1 = cc in absurd (omega arith)

-- Demand 1. Every card and every buffer get a decision.
pub plan_decided : {bs old new : List ℕ} {a : PlanVerdict} → Planning bs old a new → PlanDecided bs old new a
unfolding Placed
plan_decided {bs} (faulty {n} {w} p) = let r = fault_in_range bs p in is_refused {n = n} {w = w} (r.0, omega arith) r.2 refl
plan_decided (short s h) = is_refused {n = 10} (omega arith, omega arith) tt refl
plan_decided (none_within s h u) = is_refused {n = 11} (omega arith, omega arith) tt refl
plan_decided {bs} (planned_as s h l f) = is_planned (listed_short bs l f.listed)

-- 10 is no card's own fault.
pub fault_not_ten : (bs : List ℕ) {n : ℕ} {w v : Where} → first_fault bs ≡ fault n w → refused n w ≡ refused 10 v → ⊥
fault_not_ten bs {n} p e = let r = fault_in_range bs p in let q : n ≡ 10 = cc in omega arith

-- With room for any sheet the answer is not 10.
pub never_short : {bs old new : List ℕ} {a : PlanVerdict} → Bytes bs → room_for_any ≤ length old → Planning bs old a new → NeverShort a
never_short {bs} b h (faulty p) = record { not_short = λ w e. fault_not_ten bs p e }
never_short {bs} b h (short s g) = record { not_short = λ w e. omega (arith, (sound_front bs s).lines, b.byte 10) }
never_short b h (none_within s g u) = record { not_short = λ w e. let z : ◌≡◌ {A = ℕ} 11 10 = cc in omega arith }
never_short b h (planned_as s g l f) = record { not_short = λ w e. let z : ◌≡◌ {A = ℕ} 0 1 = cc in omega arith }
