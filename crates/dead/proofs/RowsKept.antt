-- Laws of places compared and put, and of the row of a key.
use Rattle.std.proofs.Common.{ℕ, ◌+◌, ◌-◌, ◌*◌, ◌≤◌, ◌<◌, ◌≡◌, refl, sym, ◌∙◌, ap, Bool, true, List, length, get_or, set, take, drop, ◌++◌, arith}
use native.Mathlib.Decide.{dec_lt}
use mathlib.Core.Logic.{◌↔◌, ⊎_elim, inl, inr}
use lib.ListN.{length-drop, length-set}
use lib.Seq.{get_or-set_same, get_or-set_other}
use lib.Bits.{and_le_r}
use borrow.Rule.Slice.PartMut.{put_mid}
use Rattle.std.specs.Bool.{Decides}
use Rattle.std.proofs.lemmas.List.{get_or-take, get_or-drop, ext_get_or, length-take-le, get_or_append_left, get_or-append_right, places}
use Rattle.branch.specs.declared.Branch.{Branch}
use Rattle.keys.specs.Inner.Keys.{key_words}
use Rattle.dead.specs.Inner.Rows.{row_count, row_width, key_row, key_sum, memory_word, row_room, SameRow, Put, Stored, Recorded}

-- a part of xs is the first n of ys
pub part_same : {xs ys : List ℕ} {at n k j : ℕ} {r : Bool} → at + n ≤ length xs → n ≤ length ys → k ≡ n → j ≡ n
    → Decides r (take k (drop at xs) ≡ take j ys) → (r ≡ true) ↔ SameRow xs at ys n
part_same {xs} {ys} {at} {n} {k} {j} h l p q d = (λ t. one (d.0 t), λ s. d.1 (other s))
  where
    here : (i : ℕ) → i < n → get_or (take k (drop at xs)) i 0 ≡ get_or xs (at + i) 0
    here i m = get_or-take k (drop at xs) i 0 (omega arith) ∙ get_or-drop at xs i 0

    one : take k (drop at xs) ≡ take j ys → SameRow xs at ys n
    one e = record { same = λ i m. sym (here i m) ∙ ap (λ x. get_or x i 0) e ∙ get_or-take j ys i 0 (omega arith) }

    long : length (take k (drop at xs)) ≡ n
    long = rw p (length-take-le n (drop at xs) (omega (arith, length-drop at xs)))

    other : SameRow xs at ys n → take k (drop at xs) ≡ take j ys
    other s =
        ext_get_or 0 _ _ (long ∙ sym (rw q (length-take-le n ys l)))
        (λ i m. let v = rw long at m in here i v ∙ s.same i v ∙ sym (get_or-take j ys i 0 (omega arith)))

-- the first n of ys, put in place of a part of xs
pub part_put : {xs ys zs : List ℕ} {at n k : ℕ} → at + n ≤ length xs → n ≤ length ys → k ≡ n → zs ≡ take n ys → Put xs (put_mid at k xs zs) at ys n
part_put {xs} {ys} {zs} {at} {n} {k} h l p e = record {
  room = grind (arith, places, long);
  here = record {
    same = λ i m.
        get_or-append_right (take at xs) (zs ++ drop k (drop at xs)) at (at + i) 0 (length-take-le at xs (omega arith)) (omega arith)
        ∙ ap (λ j. get_or (zs ++ drop k (drop at xs)) j 0) (back i)
        ∙ get_or_append_left zs (drop k (drop at xs)) 0 i (omega (arith, long)) ∙ ap (λ x. get_or x i 0) e ∙ get_or-take n ys i 0 m;
  };
  others = λ i o. ⊎_elim (λ m. get_or_append_left (take at xs) (zs ++ drop k (drop at xs)) 0 i (omega (arith, front)) ∙ get_or-take at xs i 0 m)
      (λ m. behind i m) o;
}
  where
    long : length zs ≡ n
    long = rw e (length-take-le n ys l)

    front : length (take at xs) ≡ at
    front = length-take-le at xs (omega arith)

    back : (i : ℕ) → at + i - at ≡ i
    back i = omega arith

    behind : (i : ℕ) → at + n ≤ i → get_or (put_mid at k xs zs) i 0 ≡ get_or xs i 0
    behind i m = grind (arith, places, long, front)

-- nothing is put; one place more
pub put_none : {xs : List ℕ} {at : ℕ} {ys : List ℕ} → Put xs xs at ys 0
put_none = record { room = refl; here = record { same = λ i l. absurd (omega (arith, l)) }; others = λ k h. refl }

pub put_more : {xs xs' : List ℕ} {at : ℕ} {ys : List ℕ} {n : ℕ} → Put xs xs' at ys n → at + n < length xs
    → Put xs (set xs' (at + n) (get_or ys n 0)) at ys (n + 1)
put_more {xs} {xs'} {at} {ys} {n} p h = record {
  room = length-set xs' (at + n) (get_or ys n 0) ∙ p.room;
  here = record { same = λ i l. there i l (dec_lt i n) };
  others = λ k o. get_or-set_other xs' (at + n) k (get_or ys n 0) 0 (λ q. ⊎_elim (λ l. omega arith) (λ l. omega arith) o)
      ∙ p.others k (⊎_elim (λ l. inl l) (λ l. inr (omega arith)) o);
}
  where
    there : (i : ℕ) → i < n + 1 → Dec (i < n) → get_or (set xs' (at + n) (get_or ys n 0)) (at + i) 0 ≡ get_or ys i 0
    there i l (yes m) = get_or-set_other xs' (at + n) (at + i) (get_or ys n 0) 0 (λ q. omega arith) ∙ p.here.same i m
    there i l (no m) =
        let e : i ≡ n = omega arith in
        rw e (get_or-set_same xs' (at + n) (get_or ys n 0) 0 (omega (arith, p.room)))

-- ten bits are a number below 1024
pub row_below : (agenda : List ℕ) (b : Branch) → key_row agenda b < row_count
unfolding key_row
row_below agenda b = omega (arith, and_le_r (key_sum agenda b b.len) 1023)

-- The row that is looked at is that of the key.
module _ {codes words agenda : List ℕ} {row : ℕ} {b : Branch} (e : row ≡ key_row agenda b) where
  pub stored_key : Stored codes words agenda b → SameRow words (row * 9) (key_words b) 8
  stored_key k = rw e k.key

  pub stored_room : Stored codes words agenda b → b.limit - b.at ≤ get_or words (row * 9 + 8) 0
  unfolding row_room memory_word
  stored_room k = rw e k.room

  pub row_stored : {r : Bool} → b.len ≤ row_width → SameRow words (row * 9) (key_words b) 8 → b.limit - b.at ≤ get_or words (row * 9 + 8) 0
      → (r ≡ true) ↔ SameRow codes (row * row_width) agenda b.len → (r ≡ true) ↔ Stored codes words agenda b
  unfolding row_room memory_word
  row_stored h s n t = (
    λ q. record { short = h; key = rw e at s; tasks = rw e at (t.0 q); room = rw e at n },
    λ k. t.1 (rw e k.tasks),
  )

-- recording leaves the lengths as they were
pub recorded_rooms : {codes words codes' words' agenda : List ℕ} {b : Branch} → Recorded codes words codes' words' agenda b
    → (length codes' ≡ length codes) × (length words' ≡ length words)
recorded_rooms {codes} {words} {codes'} {words'} {b = b} t = go (dec_lt row_width b.len)
  where
    go : Dec (row_width < b.len) → (length codes' ≡ length codes) × (length words' ≡ length words)
    go (yes h) = (ap length (t.long h).0, ap length (t.long h).1)
    go (no h) = ((t.tasks (omega arith)).room, (t.key (omega arith)).room)
