-- Laws of the tasks in an array: the agenda that they are, what it weighs, and how it changes with them.
use Prim.Native.Nat.{ℕ, zero, suc, ◌+◌, ◌-◌, ◌*◌, ◌≤◌, ◌<◌}
use native.Mathlib.Nat.{eq-or-lt_of_le, mul-le-mul}
use native.Mathlib.Numerals.{add-one}
use native.Mathlib.Omega.{arith}
use mathlib.Core.Path.{◌≡◌, refl, ◌∙◌, ap, ap₂}
use mathlib.Core.Logic.{⊎_elim}
use mathlib.Core.Bool.{true}
use mathlib.Core.List.{List, [], ◌∷◌}
use lib.ListN.{length, get_or, set, length-set}
use lib.Seq.{get_or-set_same, get_or-set_other}
use Rattle.card.specs.Format.{rule_count, node_count}
use Rattle.card.specs.Fault.{Sound, goal_part, height_at}
use Rattle.card.specs.Decode.{goal_at}
use Rattle.card.proofs.SoundNodes.{height_pos}
use Rattle.agenda.specs.Inner.Agenda.{task}
use Rattle.segment.specs.Inner.Tasks.{node_of, nest_of, task_of, agenda_of, task_weight, total, Fit, Laid}
use Rattle.card.specs.Inner.Size.{weight}
use Rattle.card.proofs.WeightsFall.{weight_low}

-- A task in two bytes

pub node_code : (node nest : ℕ) → nest < 32 → node_of (node * 32 + nest) ≡ node
unfolding node_of
node_code node nest h = omega arith

pub nest_code : (node nest : ℕ) → nest < 32 → nest_of (node * 32 + nest) ≡ nest
unfolding nest_of
nest_code node nest h = omega arith

pub nest_low : (c : ℕ) → nest_of c < 32
unfolding nest_of
nest_low c = omega arith

pub task_code : (bs : List ℕ) (node nest : ℕ) → nest < 32 → task_of bs (node * 32 + nest) ≡ task (goal_at bs node) nest
unfolding task_of
task_code bs node nest h = ap₂ (λ m n. task (goal_at bs m) n) (node_code node nest h) (nest_code node nest h)

pub weight_code : (bs : List ℕ) (node nest : ℕ) → nest < 32
    → task_weight bs (node * 32 + nest) ≡ weight (goal_at bs node) * (nest + 1)
unfolding task_weight
weight_code bs node nest h = ap₂ (λ m n. weight (goal_at bs m) * (n + 1)) (node_code node nest h) (nest_code node nest h)

pub fit_code : {bs : List ℕ} {count i : ℕ} (node nest : ℕ) → nest < 32 → goal_part bs (node_count bs) node ≡ true
    → i + height_at bs node + 6 * nest ≤ 104 → count + height_at bs node + 6 * nest ≤ rule_count bs + 168
    → Fit bs count i (node * 32 + nest)
fit_code node nest h g s d = record {
  is_goal_part = rw (node_code node nest h) g;
  stacked = rw (node_code node nest h, nest_code node nest h) s;
  deep = rw (node_code node nest h, nest_code node nest h) d;
}

-- The next task

pub agenda_next : (bs codes : List ℕ) (len : ℕ) → 1 ≤ len
    → agenda_of bs codes len ≡ task_of bs (get_or codes (len - 1) 0) ∷ agenda_of bs codes (len - 1)
unfolding agenda_of
agenda_next bs codes zero h = absurd (omega arith)
agenda_next bs codes (suc n) h =
    let e : n ≡ suc n - 1 = omega arith in ap (λ k. task_of bs (get_or codes k 0) ∷ agenda_of bs codes k) e

pub total_next : (bs codes : List ℕ) (len : ℕ) → 1 ≤ len
    → total bs codes len ≡ task_weight bs (get_or codes (len - 1) 0) + total bs codes (len - 1)
unfolding total
total_next bs codes zero h = absurd (omega arith)
total_next bs codes (suc n) h =
    let e : n ≡ suc n - 1 = omega arith in ap (λ k. task_weight bs (get_or codes k 0) + total bs codes k) e

pub laid_less : {bs codes : List ℕ} {len count : ℕ} → Laid bs codes len count → Laid bs codes (len - 1) count
laid_less l = record { room = l.room; fits = λ i h. l.fits i (omega arith) }

pub laid_none : {bs codes : List ℕ} {count : ℕ} → length codes ≡ 104 → Laid bs codes 0 count
laid_none r = record { room = r; fits = λ i h. absurd (omega arith) }

-- The same first places hold the same tasks

module _ (bs codes codes' : List ℕ) where
  agenda_at : (len : ℕ) → ((i : ℕ) → i < len → get_or codes i 0 ≡ get_or codes' i 0) → agenda_of bs codes len ≡ agenda_of bs codes' len
  unfolding agenda_of
  agenda_at zero h = refl
  agenda_at (suc n) h = ap₂ (λ c A. task_of bs c ∷ A) (h n (omega arith)) (agenda_at n (λ i l. h i (omega arith)))

  total_at : (len : ℕ) → ((i : ℕ) → i < len → get_or codes i 0 ≡ get_or codes' i 0) → total bs codes len ≡ total bs codes' len
  unfolding total
  total_at zero h = refl
  total_at (suc n) h = ap₂ (λ c t. task_weight bs c + t) (h n (omega arith)) (total_at n (λ i l. h i (omega arith)))

-- A task put behind

module _ (bs codes : List ℕ) (n c : ℕ) (h : n < length codes) where
  put_here : (i : ℕ) → i ≡ n → get_or (set codes n c) i 0 ≡ c
  put_here i e = ap (λ k. get_or (set codes n c) k 0) e ∙ get_or-set_same codes n c 0 h

  put_below : (i : ℕ) → i < n → get_or (set codes n c) i 0 ≡ get_or codes i 0
  put_below i l = get_or-set_other codes n i c 0 (λ p. omega arith)

  pub agenda_put : agenda_of bs (set codes n c) (n + 1) ≡ task_of bs c ∷ agenda_of bs codes n
  unfolding agenda_of
  agenda_put = rw (add-one n) (ap₂ (λ d A. task_of bs d ∷ A) (put_here n refl) (agenda_at bs (set codes n c) codes n put_below))

  pub total_put : total bs (set codes n c) (n + 1) ≡ task_weight bs c + total bs codes n
  unfolding total
  total_put = rw (add-one n) (ap₂ (λ d t. task_weight bs d + t) (put_here n refl) (total_at bs (set codes n c) codes n put_below))

pub laid_put : {bs codes : List ℕ} {n count c : ℕ} → n < 104 → Fit bs count n c → Laid bs codes n count
    → Laid bs (set codes n c) (n + 1) count
laid_put {bs} {codes} {n} {count} {c} h f l =
    let k : n < length codes = omega (arith, l.room) in
    record {
      room = length-set codes n c ∙ l.room;
      fits = λ i j.
          ⊎_elim (λ q. rw (put_here bs codes n c k i q, q) f) (λ q. rw (put_below bs codes n c k i q) (l.fits i q))
          (eq-or-lt_of_le {n = i} {m = n} (omega arith));
    }

-- A task alone

module _ (bs codes : List ℕ) (node nest : ℕ) (h : nest < 32) (r : length codes ≡ 104) where
  pub agenda_one : agenda_of bs (set codes 0 (node * 32 + nest)) 1 ≡ task (goal_at bs node) nest ∷ []
  unfolding agenda_of
  agenda_one = agenda_put bs codes 0 (node * 32 + nest) (omega (arith, r)) ∙ ap (λ t. t ∷ []) (task_code bs node nest h)

  pub total_one : total bs (set codes 0 (node * 32 + nest)) 1 ≡ weight (goal_at bs node) * (nest + 1)
  unfolding total
  total_one =
      let e = total_put bs codes 0 (node * 32 + nest) (omega (arith, r)) in
      let w = weight_code bs node nest h in omega arith

  pub laid_one : {count : ℕ} → goal_part bs (node_count bs) node ≡ true → height_at bs node + 6 * nest ≤ 104
      → count + height_at bs node + 6 * nest ≤ rule_count bs + 168 → Laid bs (set codes 0 (node * 32 + nest)) 1 count
  laid_one g s d = laid_put {codes = codes} {n = 0} (omega arith) (fit_code node nest h g (omega arith) d) (laid_none {codes = codes} r)

-- Bounds

pub laid_short : {bs codes : List ℕ} {len count : ℕ} → Laid bs codes len count → len ≤ 104
laid_short {len = zero} l = omega arith
laid_short {bs} {codes} {len = suc n} l =
    let f = (l.fits n (omega arith)).stacked in
    let p = height_pos bs (node_of (get_or codes n 0)) in omega arith

module _ {bs : List ℕ} (s : Sound bs) where
  task_low : (c : ℕ) → goal_part bs (node_count bs) (node_of c) ≡ true → task_weight bs c ≤ 8160
  unfolding task_weight
  task_low c g =
      let w = weight_low s (node_of c) g in
      let n : nest_of c + 1 ≤ 32 = omega (arith, nest_low c) in
      mul-le-mul {n₁ = weight (goal_at bs (node_of c))} {m₁ = nest_of c + 1} {n₂ = 255} {m₂ = 32} w n

  total_low : {codes : List ℕ} {count : ℕ} (len : ℕ) → Laid bs codes len count → total bs codes len ≤ 8160 * len
  unfolding total
  total_low zero l = omega arith
  total_low {codes} {count} (suc n) l =
      let t : task_weight bs (get_or codes n 0) ≤ 8160 = task_low (get_or codes n 0) (l.fits n (omega arith)).is_goal_part in
      let less : Laid bs codes n count = record { room = l.room; fits = λ i h. l.fits i (omega arith) } in
      let r : total bs codes n ≤ 8160 * n = total_low {codes = codes} {count = count} n less in omega arith

  pub total_bound : {codes : List ℕ} {len count : ℕ} → Laid bs codes len count → total bs codes len < 1048576
  total_bound {len} l = let t = total_low len l in let r = laid_short l in omega arith
