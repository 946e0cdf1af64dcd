-- Laws of tables that grow value by value, and of listings.
use Prim.Native.Nat.{ℕ, zero, suc, ◌<◌}
use native.Mathlib.Omega.{arith}
use native.Mathlib.Nat.{eq-or-lt_of_le}
use mathlib.Core.Path.{◌≡◌, refl, ◌∙◌}
use mathlib.Core.Logic.{⊎_elim}
use mathlib.Core.List.{List, [], ◌∷◌}
use lib.ListN.{length, get_or, length-append, get_or-append}
use lib.Seq.{get_or_at}
use Rattle.card.specs.Format.{listing, grow}

module _ {ℓ} {A : Type ℓ} where
  pub length_grow : (f : List A → ℕ → A) (n : ℕ) → length (grow f n) ≡ n
  unfolding grow
  length_grow f zero = refl
  length_grow f (suc n) = omega (arith, length-append (grow f n) (f (grow f n) n ∷ []), length_grow f n)

  -- a table's value is made from the table before it, however far the table has grown since
  pub grow_at : (f : List A → ℕ → A) (n i : ℕ) (d : A) → i < n → get_or (grow f n) i d ≡ f (grow f i) i
  unfolding grow
  grow_at f zero i d h = absurd (omega arith)
  grow_at f (suc n) i d h = ⊎_elim
      (λ e. rw e (get_or_at (grow f n) (f (grow f n) n) [] d n (length_grow f n)))
      (λ l. get_or-append (grow f n) (f (grow f n) n ∷ []) d i (rw (length_grow f n) l) ∙ grow_at f n i d l)
      (eq-or-lt_of_le {n = i} {m = n} (omega arith))

  pub length_listing : (f : ℕ → A) (n : ℕ) → length (listing n f) ≡ n
  unfolding listing
  length_listing f zero = refl
  length_listing f (suc n) = omega (arith, length-append (listing n f) (f n ∷ []), length_listing f n)

  pub listing_at : (f : ℕ → A) (n i : ℕ) (d : A) → i < n → get_or (listing n f) i d ≡ f i
  unfolding listing
  listing_at f zero i d h = absurd (omega arith)
  listing_at f (suc n) i d h = ⊎_elim
      (λ e. rw e (get_or_at (listing n f) (f n) [] d n (length_listing f n)))
      (λ l. get_or-append (listing n f) (f n ∷ []) d i (rw (length_listing f n) l) ∙ listing_at f n i d l)
      (eq-or-lt_of_le {n = i} {m = n} (omega arith))
