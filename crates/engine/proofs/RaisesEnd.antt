-- Raising a list in place ends: each raise makes a number greater that has a bound.
use Prim.Native.Nat.{ℕ, zero, suc, ◌+◌, ◌-◌, ◌*◌, ◌^◌, ◌≤◌, ◌<◌}
use native.Mathlib.Nat.{suc-mul, pow-suc, mul-le-mul_right, one-le-pow, zero-lt-suc}
use native.Mathlib.Omega.{arith}
use mathlib.Core.Path.{◌≡◌, refl, ◌∙◌, ap}
use mathlib.Core.Logic.{⊎_elim}
use mathlib.Core.Bool.{Bool, true, false, cond}
use mathlib.Core.List.Memᴰ
use mathlib.Core.List.{List, [], ◌∷◌, ◌++◌, Memᴰ}
use lib.ListN.{length, get_or, take, drop}
use lib.Seq.{slice, take-suc, drop-append-le, length-take-le}
use Rattle.card.specs.Format.{byte_at}
use Rattle.agenda.specs.Inner.Order.{Floor, same, above, opens}

-- Every step is less than 256.
pub record ByteSteps (l : List ℕ) : Type 0 where
  pub byte : (x : ℕ) → Memᴰ x l → x < 256

bytes_tail : {x : ℕ} {l : List ℕ} → ByteSteps (x ∷ l) → ByteSteps l
bytes_tail b = record { byte = λ y m. b.byte y (Memᴰ.tail m) }

-- F in base 257, with f as the next digit, filled up to s digits and one more
unfoldable pub rank : ℕ → List ℕ → ℕ → ℕ
rank s [] f = f * 257 ^ s
rank zero (x ∷ F) f = zero
rank (suc s) (x ∷ F) f = x * 257 ^ suc s + rank s F f

power : (s : ℕ) → 0 < 257 ^ s
power s = one-le-pow s 257 (zero-lt-suc 256)

rank_bound : (s : ℕ) (F : List ℕ) {f : ℕ} → length F ≤ s → ByteSteps F → f ≤ 256 → rank s F f < 257 ^ s * 257
unfolding rank
rank_bound s [] h b k = omega (arith, power s, mul-le-mul_right (257 ^ s) k)
rank_bound zero (x ∷ F) h b k = absurd (omega arith)
rank_bound (suc s) (x ∷ F) {f} h b k =
    let r : rank s F f < 257 ^ s * 257 = rank_bound s F (omega arith) (bytes_tail b) k in
    omega (arith, pow-suc 257 s, mul-le-mul_right (257 ^ suc s) (b.byte x (Memᴰ.head refl)), suc-mul x (257 ^ suc s))

rank_positive : (s : ℕ) (q : List ℕ) (x : ℕ) → length q ≤ s → 0 < rank s q (suc x)
unfolding rank
rank_positive s [] x h = omega (arith, power s, suc-mul x (257 ^ s))
rank_positive zero (y ∷ q) x h = absurd (omega arith)
rank_positive (suc s) (y ∷ q) x h = let r : 0 < rank s q (suc x) = rank_positive s q x (omega arith) in omega arith

-- A list not below the floor, with its last step raised, is higher.
rank_grows : (s : ℕ) (q : List ℕ) (x : ℕ) {F : List ℕ} {f : ℕ} → Floor (q ++ (x ∷ [])) F f → length F ≤ s → length q ≤ s → ByteSteps F
    → f ≤ 256 → rank s F f < rank s q (suc x)
unfolding rank
rank_grows s [] x (opens h) a c b k = omega (arith, power s, suc-mul x (257 ^ s), mul-le-mul_right (257 ^ s) h)
rank_grows zero [] x (same p) a c b k = absurd (omega arith)
rank_grows (suc s) [] x {f} (same {F} p) a c b k =
    let r : rank s F f < 257 ^ s * 257 = rank_bound s F (omega arith) (bytes_tail b) k in
    omega (arith, pow-suc 257 s, suc-mul x (257 ^ suc s))
rank_grows zero [] x (above h) a c b k = absurd (omega arith)
rank_grows (suc s) [] x {f} (above {x = z} {F} h) a c b k =
    let r : rank s F f < 257 ^ s * 257 = rank_bound s F (omega arith) (bytes_tail b) k in
    omega (arith, pow-suc 257 s, suc-mul x (257 ^ suc s), suc-mul z (257 ^ suc s), mul-le-mul_right (257 ^ suc s) h)
rank_grows zero (y ∷ q) x p a c b k = absurd (omega arith)
rank_grows (suc s) (y ∷ q) x (opens h) a c b k =
    let r : 0 < rank s q (suc x) = rank_positive s q x (omega arith) in omega (arith, mul-le-mul_right (257 ^ suc s) h)
rank_grows (suc s) (y ∷ q) x {f} (same {F} p) a c b k =
    let r : rank s F f < rank s q (suc x) = rank_grows s q x p (omega arith) (omega arith) (bytes_tail b) k in omega arith
rank_grows (suc s) (y ∷ q) x {f} (above {x = z} {F} h) a c b k =
    let r : rank s F f < 257 ^ s * 257 = rank_bound s F (omega arith) (bytes_tail b) k in
    omega (arith, pow-suc 257 s, suc-mul z (257 ^ suc s), mul-le-mul_right (257 ^ suc s) h)

-- How far a floor still is from the last list of 255 steps; more than that as long as nothing was raised.
unfoldable pub left_over : Bool → List ℕ → ℕ → ℕ
left_over fresh F f = cond fresh (257 ^ 255 * 257) (257 ^ 255 * 257 - rank 255 F f)

falls_at : (s m : ℕ) (fresh : Bool) (q : List ℕ) (x : ℕ) {F : List ℕ} {f : ℕ} → m ≡ 257 ^ s * 257
    → Floor (q ++ (x ∷ [])) F f → length F ≤ s → length q ≤ s → (fresh ≡ false → ByteSteps F) → f ≤ 256
    → ByteSteps q → x < 256
    → m - rank s q (suc x) < cond fresh m (m - rank s F f)
falls_at s m true q x e p a c b k bq hx =
    let r = rank_positive s q x c in let t = rank_bound s q {f = suc x} c bq hx in omega arith
falls_at s m false q x {F} {f} e p a c b k bq hx =
    let r = rank_grows s q x p a c (b refl) k in let t = rank_bound s q {f = suc x} c bq hx in omega arith

-- THEOREM. Each raise brings it nearer.
pub raise_falls : (fresh : Bool) (q : List ℕ) (x : ℕ) {F : List ℕ} {f : ℕ} → Floor (q ++ (x ∷ [])) F f → length F ≤ 255 → length q ≤ 255
    → (fresh ≡ false → ByteSteps F) → f ≤ 256 → ByteSteps q → x < 256
    → left_over false q (suc x) < left_over fresh F f
unfolding left_over
raise_falls fresh q x p a c b k bq hx = falls_at 255 (257 ^ 255 * 257) fresh q x refl p a c b k bq hx

-- Runs on the tape

-- a run, its last step apart
pub run_last : (a z : ℕ) (t : List ℕ) → a < z → z ≤ length t → slice a z t ≡ slice a (z - 1) t ++ (get_or t (z - 1) 0 ∷ [])
run_last a z t h k =
    let e : z ≡ suc (z - 1) = omega arith in
    ap (λ n. drop a (take n t)) e ∙ ap (drop a) (take-suc t (z - 1) 0 (omega arith))
    ∙ drop-append-le a (take (z - 1) t) (get_or t (z - 1) 0 ∷ []) (rw (length-take-le (z - 1) t (omega arith)) (omega arith))

-- bytes, from what is known of each
bytes_of : (l : List ℕ) → ((i : ℕ) → get_or l i 0 < 256) → ByteSteps l
bytes_of [] h = record { byte = λ x m. absurd (Memᴰ.not-nil m) }
bytes_of (y ∷ l) h =
    let tail = bytes_of l (λ i. h (suc i)) in
    record { byte = λ x m. ⊎_elim (λ e. rw e (h 0)) (λ n. tail.byte x n) (Memᴰ.cases_cons m) }

take_byte : (n : ℕ) (l : List ℕ) → ((i : ℕ) → get_or l i 0 < 256) → (i : ℕ) → get_or (take n l) i 0 < 256
take_byte zero l h i = omega arith
take_byte (suc n) [] h i = h i
take_byte (suc n) (y ∷ l) h zero = h 0
take_byte (suc n) (y ∷ l) h (suc i) = take_byte n l (λ k. h (suc k)) i

drop_byte : (n : ℕ) (l : List ℕ) → ((i : ℕ) → get_or l i 0 < 256) → (i : ℕ) → get_or (drop n l) i 0 < 256
drop_byte zero l h i = h i
drop_byte (suc n) [] h i = h i
drop_byte (suc n) (y ∷ l) h i = drop_byte n l (λ k. h (suc k)) i

-- a run of a tape of bytes
pub bytes_run : (a z : ℕ) (t : List ℕ) → ((i : ℕ) → byte_at t i < 256) → ByteSteps (slice a z t)
bytes_run a z t b = bytes_of (slice a z t) (drop_byte a (take z t) (take_byte z t b))
