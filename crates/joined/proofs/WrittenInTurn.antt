-- Laws of writes into a lent buffer, one behind the other.
use Prim.Native.Nat.{ℕ, suc, ◌+◌, ◌*◌, ◌≤◌, ◌<◌}
use native.Mathlib.Omega.{arith}
use native.Mathlib.Numerals.{add-one}
use native.Mathlib.Nat.{add-zero, zero-add}
use mathlib.Core.Path.{◌≡◌, sym, ◌∙◌, ap}
use mathlib.Core.List.{List, [], ◌∷◌, ◌++◌, append_assoc, append-nil}
use lib.ListN.{length, take, drop, set, length-append, length-drop, take-append-drop}
use lib.Seq.{length-take-le, take_at, drop_at, drop-drop, set_split, append_snoc}
use Rattle.joined.specs.Joined.{in_turn}
use Rattle.joined.specs.Inner.Written.{Written}
use Rattle.joined.proofs.LaidInTurn.{length_in_turn}

-- nothing is written
pub none_written : (s : List ℕ) (at : ℕ) → Written s s at []
none_written s at = record { bytes = simp (append-nil, add-zero) (sym (take-append-drop at s)) }

-- one byte is written
pub one_written : (s : List ℕ) (at x : ℕ) → at < length s → Written s (set s at x) at (x ∷ [])
one_written s at x h = record { bytes = set_split s at x h ∙ rw add-one (sym (append_snoc (take at s) x (drop (suc at) s))) }

module _ {a b : List ℕ} {at : ℕ} {xs : List ℕ} (w : Written a b at xs) where
  -- a write keeps the length
  pub written_long : at + length xs ≤ length a → length b ≡ length a
  written_long h =
      let front = length-take-le at a (omega arith) in
      let pre = length-append (take at a) xs in
      let all = length-append (take at a ++ xs) (drop (at + length xs) a) in
      let back = length-drop (at + length xs) a in
      omega (arith, ap length w.bytes, front, pre, all, back)

  -- a write behind another
  pub written_behind : {c ys : List ℕ} (p : ℕ) → p ≡ at + length xs → p ≤ length a → Written b c p ys → Written a c at (xs ++ ys)
  written_behind {c} {ys} p e h v =
      let q = take at a ++ xs in
      let long : length q ≡ p = omega (arith, e, length-append (take at a) xs, length-take-le at a (omega arith)) in
      let b_is : b ≡ q ++ drop p a = rw e w.bytes in
      let before : take p b ≡ q = rw b_is (take_at q (drop p a) p long) in
      let rest : drop (p + length ys) b ≡ drop (p + length ys) a =
      sym (drop-drop (length ys) p b) ∙ ap (drop (length ys)) (rw b_is (drop_at q (drop p a) p long)) ∙ drop-drop (length ys) p a in
      let end : p + length ys ≡ at + length (xs ++ ys) = omega (arith, e, length-append xs ys) in
      record { bytes = v.bytes ∙ rw (before, rest, end, append_assoc (take at a) xs ys) }

  -- a byte behind a write
  pub written_byte : (p x : ℕ) → p ≡ at + length xs → p < length a → Written a (set b p x) at (xs ++ (x ∷ []))
  written_byte p x e h =
      written_behind p e (omega (arith, h)) (one_written b p x (omega (arith, e, h, written_long (omega (arith, e, h)))))

-- a write at the front
pub written_front : {a b : List ℕ} {xs : List ℕ} → Written a b 0 xs → b ≡ xs ++ drop (length xs) a
written_front w = w.bytes ∙ rw zero-add

-- writes in turn
module _ (c : ℕ) (f : ℕ → List ℕ) (each : (i : ℕ) → length (f i) ≡ c) where
  -- writes in turn keep the length
  pub turns_long : (s t : List ℕ) (at i : ℕ) → at + c * i ≤ length s → Written s t at (in_turn i f) → length t ≡ length s
  turns_long s t at i h w = written_long w (rw (length_in_turn c f each i) h)

  -- the next is written
  pub written_next : (s t u : List ℕ) (at i : ℕ) → at + c * i ≤ length s
      → Written s t at (in_turn i f) → Written t u (at + c * i) (f i) → Written s u at (in_turn (i + 1) f)
  unfolding in_turn
  written_next s t u at i h w v = rw add-one (written_behind w (at + c * i) (rw (length_in_turn c f each i)) h v)
