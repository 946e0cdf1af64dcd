-- Laws of tests.
use Prim.Native.Nat.{ℕ, zero, suc, ◌<◌}
use native.Mathlib.Decide.{ℕ_discrete}
use native.Mathlib.Omega.{arith}
use mathlib.Core.Path.{◌≡◌, refl, sym, ap, ◌∙◌}
use mathlib.Core.Logic.{◌⊎◌, inl, inr}
use mathlib.Core.Bool.{Bool, true, false, ◌&&◌, true≢false, false≢true}
use Rattle.entries.specs.Inner.Twins.{every}

pub either : (b : Bool) → (b ≡ true) ⊎ (b ≡ false)
either true = inl refl
either false = inr refl

pub and_true : (a b : Bool) → (a && b) ≡ true → (a ≡ true) × (b ≡ true)
and_true true b h = (refl, h)
and_true false b h = absurd (false≢true h)

-- tests that hold together are the same
pub same_test : (a b : Bool) → (a ≡ true → b ≡ true) → (b ≡ true → a ≡ true) → a ≡ b
same_test true b h k = sym (h refl)
same_test false true h k = k refl
same_test false false h k = refl

-- Every number below n

module _ (p : ℕ → Bool) where
  pub every_at : (n : ℕ) → every p n ≡ true → (x : ℕ) → x < n → p x ≡ true
  unfolding every
  every_at zero h x l = absurd (omega arith)
  every_at (suc n) h x l = let t = and_true (p n) (every p n) h in go t (every_at n t.1 x) (ℕ_discrete x n)
    where
      go : (p n ≡ true) × (every p n ≡ true) → (x < n → p x ≡ true) → Dec (x ≡ n) → p x ≡ true
      go t f (yes q) = ap p q ∙ t.0
      go t f (no q) = f (omega arith)

  pub every_all : (n : ℕ) → ((x : ℕ) → x < n → p x ≡ true) → every p n ≡ true
  unfolding every
  every_all zero f = refl
  every_all (suc n) f = rw (f n (omega arith)) (every_all n (λ x h. f x (omega arith)))

  -- the test fails somewhere
  pub record Fails (n : ℕ) : Type 0 where
    pub at : ℕ
    pub low : at < n
    pub fails : p at ≡ false

  pub every_fails : (n : ℕ) → every p n ≡ false → Fails n
  unfolding every
  every_fails zero h = absurd (true≢false h)
  every_fails (suc n) h = go (every_fails n) (p n) refl
    where
      go : (every p n ≡ false → Fails n) → (b : Bool) → p n ≡ b → Fails (suc n)
      go f false q = record { at = n; low = omega arith; fails = q }
      go f true q =
          let r = f (rw q at h) in record { at = r.at; low = omega (arith, r.low); fails = r.fails }
