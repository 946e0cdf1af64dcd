-- What `all` and `any` over the numbers below n tell.
use Rattle.std.proofs.Common.{◌≡◌, ℕ, ◌<◌, Bool, true, false, length, MatchBool, ◌↔◌, refl, subst, ◌∙◌, zero-add, arith}
use Rattle.std.specs.List.{AllWithin, HoldsAt, range_with_len}
use Rattle.std.proofs.lemmas.Bool.{false≢true}
use Rattle.std.proofs.lemmas.List.FromFn.{length-range_with_len, get_or-range_with_len}

module _ (n : ℕ) (P : ℕ → Type 0) where
  -- all answers true exactly where each number below n has P
  pub all_below : (r : Bool) → MatchBool r (AllWithin P (range_with_len 0 n) 0 (length (range_with_len 0 n)))
      ((k : ℕ) × (k < length (range_with_len 0 n)) × HoldsAt (λ x. P x → ⊥) (range_with_len 0 n) k)
      → (r ≡ true) ↔ ((k : ℕ) → k < n → P k)
  all_below true m = (
    λ q k h. subst P (get_or-range_with_len 0 n k 0 h ∙ zero-add k) (m k 0 (omega arith) (omega (arith, length-range_with_len 0 n))),
    λ f. refl,
  )
  all_below false m = (
    λ q. absurd (false≢true q),
    λ f.
        let h : m.0 < n = omega (arith, m.1, length-range_with_len 0 n) in
        absurd (subst (λ x. P x → ⊥) (get_or-range_with_len 0 n m.0 0 h ∙ zero-add m.0) (m.2 0) (f m.0 h)),
  )

  -- where any answers true, some number below n has P
  pub some_below : (No : Type 0) (r : Bool)
      → MatchBool r ((k : ℕ) × (k < length (range_with_len 0 n)) × HoldsAt P (range_with_len 0 n) k) No
      → r ≡ true → (k : ℕ) × (k < n) × P k
  some_below No true m q =
      let h : m.0 < n = omega (arith, m.1, length-range_with_len 0 n) in
      (m.0, h, subst P (get_or-range_with_len 0 n m.0 0 h ∙ zero-add m.0) (m.2 0))
  some_below No false m q = absurd (false≢true q)
