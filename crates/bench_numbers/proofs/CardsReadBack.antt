-- A number that tells a card reads as the outcome that it tells.
use Prim.Native.Nat.{ℕ, zero, suc, ◌+◌, ◌*◌, ◌^◌, ◌≤◌, ◌<◌}
use native.Mathlib.Omega.{arith}
use mathlib.Core.Path.{◌≡◌, refl, ap, ap₂, ◌∙◌}
use mathlib.Core.List.{List}
use Rattle.std.specs.Prelude.{Result, Ok, Err, IfErr, length}
use Rattle.card.specs.Format.{Bytes}
use Rattle.card.specs.Fault.{Placed}
use Rattle.card.specs.Verdict.{Where, card, line, sheet, number_of}
use Rattle.numbers.specs.Numbers.{number_in, card_in, place_in, index_in, places, place_of, said_by}
use Rattle.numbers.proofs.NumbersReadBack.{said_fine, said_apart, pack, number_back, place_back, index_back, no_card, pack_low, Numbered}
use Rattle.numbers.proofs.NumbersReadBack.{numbered}
use Rattle.benched.specs.Benched.{Owner, neither, first, second}
use Rattle.bench.specs.Bench.{JoinVerdict, joined, refused, SourceVerdict, held, unheld, Owned, of_first, of_second}
use Rattle.benched.specs.declared.BenchRefusal.{BenchRefusal}
use Rattle.bench.specs.declared.LineSource.{LineSource}
use Rattle.bench.specs.Bench.{told_join, told_source, of_neither, JoinDecided, whole, by_card, too_short, SourceDecided, in_first, in_second, unasked, beyond}
use Rattle.bench_numbers.specs.BenchNumbers.{owners, owner_at, owner_in, join_in, source_in}

-- a card beside a number that tells none changes no other part of it
module _ (bare c : ℕ) (n : card_in bare ≡ 0) (h : c < 3) where
  abbrev with : ℕ
  with = bare + c * 2 ^ 20

  pub parts_kept : (number_in with ≡ number_in bare) × (place_in with ≡ place_in bare) × (index_in with ≡ index_in bare)
  parts_kept = (omega (arith, n, h), omega (arith, n, h), omega (arith, n, h))

  pub card_told : card_in with ≡ c
  card_told = omega (arith, n, h)

-- a refusal that is told with its card, and has a place that is not 0 where its number is 0, reads as the call's
pub said_apart_stop : {A : Type 0} (fine : Owner → ℕ → A) (refusal : Owner → ℕ → Where → A) (r : ℕ) {o : Owner} {n : ℕ} {w : Where}
    → (n ≡ 0 → 1 ≤ place_in r) → (number_in r ≡ n) × (place_of (place_in r) (index_in r) ≡ w) → owner_in r ≡ o
    → said_by (fine (owner_in r)) (refusal (owner_in r)) r ≡ refusal o n w
said_apart_stop fine refusal r {o} {n} {w} s h e =
    said_apart (fine (owner_in r)) (refusal (owner_in r)) r s h ∙ ap (λ (x : Owner). refusal x n w) e

pub said_stopped : {A : Type 0} (fine : Owner → ℕ → A) (refusal : Owner → ℕ → Where → A) (r : ℕ) {o : Owner} {n : ℕ} {w : Where} → 1 ≤ n
    → (number_in r ≡ n) × (place_of (place_in r) (index_in r) ≡ w) → owner_in r ≡ o
    → said_by (fine (owner_in r)) (refusal (owner_in r)) r ≡ refusal o n w
said_stopped fine refusal r s h e = said_apart_stop fine refusal r (λ z. absurd (omega (arith, s, z))) h e

-- the number that reads as neither card is 0
pub neither_zero : (c : ℕ) → c < length owners → owner_at c ≡ neither → c ≡ 0
unfolding owner_at owners
neither_zero zero h e = refl
neither_zero (suc zero) h e = cc
neither_zero (suc (suc zero)) h e = cc
neither_zero (suc (suc (suc c))) h e = absurd (omega (arith, h))

-- a decision's refusal has a number that is not 0
owned_nonzero : {a b : List ℕ} {o : Owner} {n : ℕ} {w : Where} → Owned a b o n w → 1 ≤ n
owned_nonzero (of_first h p) = h.0
owned_nonzero (of_second h p) = h.0
owned_nonzero of_neither = omega arith

join_numbers : {a b old new : List ℕ} {v : JoinVerdict} {o : Owner} {n : ℕ} {w : Where} → JoinDecided a b old new v
    → v ≡ refused o n w → 1 ≤ n
join_numbers (whole h k) e = let z : ◌≡◌ {A = ℕ} 0 1 = cc in absurd (omega arith)
join_numbers {n = m} (by_card {n} x e) q = let z : n ≡ m = cc in omega (arith, owned_nonzero x)
join_numbers {n = m} (too_short e) q = let z : 10 ≡ m = cc in omega arith

pub join_nonzero : {a b old new : List ℕ} (r : Result ℕ BenchRefusal) → JoinDecided a b old new (told_join r)
    → IfErr r (λ s. 1 ≤ number_of s.refusal.fault)
unfolding told_join
join_nonzero (Ok n) d = tt
join_nonzero (Err s) d = join_numbers d refl

source_numbers : {a b : List ℕ} {i : ℕ} {v : SourceVerdict} {o : Owner} {n : ℕ} {w : Where} → SourceDecided a b i v
    → v ≡ unheld o n w → 1 ≤ n
source_numbers (in_first h k) e = let z : ◌≡◌ {A = ℕ} 0 1 = cc in absurd (omega arith)
source_numbers (in_second h k) e = let z : ◌≡◌ {A = ℕ} 0 1 = cc in absurd (omega arith)
source_numbers {n = m} (unasked {n} x) q = let z : n ≡ m = cc in omega (arith, owned_nonzero x)
source_numbers {n = m} beyond q = let z : 16 ≡ m = cc in omega arith

pub source_nonzero : {a b : List ℕ} {i : ℕ} (r : Result LineSource BenchRefusal) → SourceDecided a b i (told_source r)
    → IfErr r (λ s. 1 ≤ number_of s.refusal.fault)
unfolding told_source
source_nonzero (Ok x) d = tt
source_nonzero (Err s) d = source_numbers d refl

-- the refusal of an answer that is known has a number that is not 0
pub some_number : {A : Type 0} {r : Result A BenchRefusal} {s : BenchRefusal} → r ≡ Err s
    → IfErr r (λ s. 1 ≤ number_of s.refusal.fault) → 1 ≤ number_of s.refusal.fault
some_number e h = rw e at h

-- a refusal has a number of 32 bits that tells its card
record StopBack (o : Owner) (n : ℕ) (w : Where) : Type 0 where
  word : ℕ
  low : word < 2 ^ 32
  card : owner_in word ≡ o
  reads : (number_in word ≡ n) × (place_of (place_in word) (index_in word) ≡ w)

stop_back : (o : Owner) (n : ℕ) (w : Where) (c : ℕ) → c < 3 → owner_at c ≡ o → Numbered w → n < 256 → StopBack o n w
stop_back o n w c h e x l =
    let p : ℕ = x.place in
    let i : ℕ = x.index in
    let few : p < 16 = x.few in
    let fits : i < 65536 = x.fits in
    let bare = no_card n p i few fits in
    let kept = parts_kept (pack n p i) c bare h in
    record {
      word = pack n p i + c * 2 ^ 20;
      low = omega (arith, pack_low n p i few fits l, bare, h);
      card = ap owner_at (card_told (pack n p i) c bare h) ∙ e;
      reads = (
        kept.0 ∙ number_back n p i few fits,
        ap₂ place_of (kept.1 ∙ place_back n p i few fits) (kept.2 ∙ index_back n p i few fits) ∙ x.reads,
      );
    }

owned_back : {a b : List ℕ} {o : Owner} {n : ℕ} {w : Where} → Bytes a → Bytes b → Owned a b o n w → StopBack o n w
unfolding owner_at owners Placed
owned_back x y (of_first {n} {w} h p) = stop_back first n w 1 (omega arith) refl (numbered x w p) (omega (arith, h.1))
owned_back x y (of_second {n} {w} h p) = stop_back second n w 2 (omega arith) refl (numbered y w p) (omega (arith, h.1))
owned_back x y of_neither = stop_back neither 15 card 0 (omega arith) refl (numbered x card tt) (omega arith)

module _ {o : Owner} {n : ℕ} {w : Where} (s : StopBack o n w) (h : 1 ≤ n) where
  join_stop : (r : ℕ) × (r < 2 ^ 32) × (join_in r ≡ refused o n w)
  unfolding join_in
  join_stop =
      let r : ℕ = s.word in
      (r, s.low, said_stopped (λ x. joined) refused r h s.reads s.card)

  source_stop : (r : ℕ) × (r < 2 ^ 32) × (source_in r ≡ unheld o n w)
  unfolding source_in
  source_stop =
      let r : ℕ = s.word in
      (r, s.low, said_stopped held unheld r h s.reads s.card)

held_back : (o : Owner) (at c : ℕ) → c < 3 → owner_at c ≡ o → at < 65536 → (r : ℕ) × (r < 2 ^ 32) × (source_in r ≡ held o at)
unfolding source_in
held_back o at c h e l =
    let r : ℕ = at + c * 2 ^ 20 in
    let bare : card_in at ≡ 0 = omega (arith, l) in
    let owner : owner_in r ≡ o = ap owner_at (card_told at c bare h) ∙ e in (
      r,
      omega (arith, h, l),
      said_fine (held (owner_in r)) (unheld (owner_in r)) r (omega (arith, h, l), omega (arith, h, l), omega (arith, h, l))
          ∙ ap (λ (x : Owner). held x at) owner,
    )

-- THEOREM. What joining decides has a number that reads as it.
pub join_back : {a b old new : List ℕ} {v : JoinVerdict} → Bytes a → Bytes b → JoinDecided a b old new v
    → (r : ℕ) × (r < 2 ^ 32) × (join_in r ≡ v)
unfolding join_in owner_at owners Placed
join_back x y (whole {n} h k) = (n, omega (arith, k), said_fine joined (refused (owner_in n)) n (omega (arith, k), omega (arith, k), omega (arith, k)))
join_back x y (by_card c e) = join_stop (owned_back x y c) (owned_nonzero c)
join_back x y (too_short e) = join_stop (stop_back neither 10 sheet 0 (omega arith) refl (numbered x sheet tt) (omega arith)) (omega arith)

-- THEOREM. So has what asking decides, of an index of two bytes.
pub source_back : {a b : List ℕ} {i : ℕ} {v : SourceVerdict} → Bytes a → Bytes b → i < 65536
    → SourceDecided a b i v → (r : ℕ) × (r < 2 ^ 32) × (source_in r ≡ v)
unfolding source_in owner_at owners place_of places
source_back x y h (in_first {at} k l) = held_back first at 1 (omega arith) refl (omega (arith, k, l))
source_back x y h (in_second {at} k l) = held_back second at 2 (omega arith) refl (omega (arith, k, l))
source_back x y h (unasked c) = source_stop (owned_back x y c) (owned_nonzero c)
source_back {i} x y h beyond =
    source_stop (stop_back neither 16 (line i) 0 (omega arith) refl
    (record { place = 3; index = i; few = omega arith; fits = h; reads = refl }) (omega arith)) (omega arith)
