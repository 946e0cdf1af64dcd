-- What a kind's name says of its number, and that a sound card has no other kinds.
use Rattle.std.proofs.Common.{◌≡◌, ◌⊎◌, inl, inr, ℕ, ◌<◌, ◌≤◌, List, refl, subst, arith}
use Rattle.std.proofs.lemmas.Bool.{false≢true}
use Rattle.card.specs.Format.{node_count, kind_at}
use Rattle.card.specs.Kinds.{Numbered, kinds, kind_of}
use Rattle.card.specs.declared.kinds.Kind as code
use Rattle.card.specs.declared.kinds.Kind.TheVariants as kind
use Rattle.card.specs.Fault.{Sound, well_built, fits_field}
use Rattle.card.proofs.KindsByRow.{past_last}
use Rattle.card.proofs.SoundNodes.{sound_built}

pub along : {k j : code.Kind} (n : ℕ) → k ≡ j → Numbered k n → Numbered j n
along n e h = subst (λ x. Numbered x n) e h

pub unknown_none : {bs : List ℕ} {i : ℕ} → Sound bs → i < node_count bs → (kind_at bs i ≡ 0) ⊎ (11 ≤ kind_at bs i) → ⊥
unfolding well_built fits_field kind_of kinds
unknown_none {bs} {i} s h (inl e) = false≢true (rw e at (sound_built s i h))
unknown_none {bs} {i} s h (inr e) = false≢true (rw (past_last (kind_at bs i) e) at (sound_built s i h))

-- a number is one kind's
pub recipe_named : (k : code.Kind) (n : ℕ) → Numbered k n → n ≡ 7 → k ≡ kind.Recipe
recipe_named kind.Atom n h e = absurd (omega (arith, h))
recipe_named kind.Top n h e = absurd (omega (arith, h))
recipe_named kind.One n h e = absurd (omega (arith, h))
recipe_named kind.Tensor n h e = absurd (omega (arith, h))
recipe_named kind.With n h e = absurd (omega (arith, h))
recipe_named kind.Lend n h e = absurd (omega (arith, h))
recipe_named kind.Recipe n h e = refl
recipe_named kind.Oplus n h e = absurd (omega (arith, h))
recipe_named kind.Zero n h e = absurd (omega (arith, h))
recipe_named kind.Menu n h e = absurd (omega (arith, h))
recipe_named kind.Unknown n (inl h) e = absurd (omega (arith, h))
recipe_named kind.Unknown n (inr h) e = absurd (omega (arith, h))

pub lend_named : (k : code.Kind) (n : ℕ) → Numbered k n → n ≡ 6 → k ≡ kind.Lend
lend_named kind.Atom n h e = absurd (omega (arith, h))
lend_named kind.Top n h e = absurd (omega (arith, h))
lend_named kind.One n h e = absurd (omega (arith, h))
lend_named kind.Tensor n h e = absurd (omega (arith, h))
lend_named kind.With n h e = absurd (omega (arith, h))
lend_named kind.Lend n h e = refl
lend_named kind.Recipe n h e = absurd (omega (arith, h))
lend_named kind.Oplus n h e = absurd (omega (arith, h))
lend_named kind.Zero n h e = absurd (omega (arith, h))
lend_named kind.Menu n h e = absurd (omega (arith, h))
lend_named kind.Unknown n (inl h) e = absurd (omega (arith, h))
lend_named kind.Unknown n (inr h) e = absurd (omega (arith, h))

-- kinds of no clause with a head
pub headless : {k : code.Kind} {n : ℕ}
    → (k ≡ kind.Top) ⊎ ((k ≡ kind.One) ⊎ ((k ≡ kind.Tensor) ⊎ ((k ≡ kind.With) ⊎ ((k ≡ kind.Lend) ⊎ ((k ≡ kind.Oplus)
    ⊎ ((k ≡ kind.Zero) ⊎ (k ≡ kind.Unknown)))))))
    → Numbered k n → (n ≡ 1 → ⊥) × (n ≡ 7 → ⊥) × (n ≡ 10 → ⊥)
headless {k} {n} (inl e) h = let q : n ≡ 2 = along n e h in (λ p. omega arith, λ p. omega arith, λ p. omega arith)
headless {k} {n} (inr (inl e)) h = let q : n ≡ 3 = along n e h in (λ p. omega arith, λ p. omega arith, λ p. omega arith)
headless {k} {n} (inr (inr (inl e))) h = let q : n ≡ 4 = along n e h in (λ p. omega arith, λ p. omega arith, λ p. omega arith)
headless {k} {n} (inr (inr (inr (inl e)))) h = let q : n ≡ 5 = along n e h in (λ p. omega arith, λ p. omega arith, λ p. omega arith)
headless {k} {n} (inr (inr (inr (inr (inl e))))) h = let q : n ≡ 6 = along n e h in (λ p. omega arith, λ p. omega arith, λ p. omega arith)
headless {k} {n} (inr (inr (inr (inr (inr (inl e)))))) h = let q : n ≡ 8 = along n e h in (λ p. omega arith, λ p. omega arith, λ p. omega arith)
headless {k} {n} (inr (inr (inr (inr (inr (inr (inl e))))))) h = let q : n ≡ 9 = along n e h in (λ p. omega arith, λ p. omega arith, λ p. omega arith)
headless {k} {n} (inr (inr (inr (inr (inr (inr (inr e))))))) h = off (along n e h)
  where
    off : (n ≡ 0) ⊎ (11 ≤ n) → (n ≡ 1 → ⊥) × (n ≡ 7 → ⊥) × (n ≡ 10 → ⊥)
    off (inl q) = (λ p. omega arith, λ p. omega arith, λ p. omega arith)
    off (inr q) = (λ p. omega arith, λ p. omega arith, λ p. omega arith)
