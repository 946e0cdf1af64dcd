-- The cases of the enum of kinds, by their numbers.
use Rattle.std.proofs.Common.{ℕ, ◌≤◌, ◌≡◌, refl, [], ◌∷◌, get_or, arith}
use mathlib.Core.Logic.{⊎_elim}
use Rattle.card.specs.Kinds.{Numbered}
use Rattle.card.specs.declared.kinds.Kind.{Kind}
use Rattle.card.specs.declared.kinds.Kind.TheVariants.{Atom, Top, One, Tensor, With, Lend, Recipe, Oplus, Zero, Menu, Unknown}

abbrev pub named : ℕ → Kind
named k = get_or (Unknown ∷ Atom ∷ Top ∷ One ∷ Tensor ∷ With ∷ Lend ∷ Recipe ∷ Oplus ∷ Zero ∷ Menu ∷ []) k Unknown

pub numbered_is : (x : Kind) {k : ℕ} → Numbered x k → 1 ≤ k → k ≤ 10 → x ≡ named k
numbered_is Atom n a b = rw n refl
numbered_is Top n a b = rw n refl
numbered_is One n a b = rw n refl
numbered_is Tensor n a b = rw n refl
numbered_is With n a b = rw n refl
numbered_is Lend n a b = rw n refl
numbered_is Recipe n a b = rw n refl
numbered_is Oplus n a b = rw n refl
numbered_is Zero n a b = rw n refl
numbered_is Menu n a b = rw n refl
numbered_is Unknown n a b = absurd (⊎_elim (λ h. omega arith) (λ h. omega arith) n)
