-- Sets of items. An item is known by its entry number, so equal lines are separate items.
use Rattle.std.specs.Prelude.{ℕ, ◌≡◌, Bool, true, false, not, ◌&&◌, ◌||◌, eqb}

abbrev pub Items : Type 0
Items = ℕ → Bool

-- no item
unfoldable pub ∅ : Items
∅ i = false

-- the items of either
infixl 40 ◌∪◌
unfoldable pub ◌∪◌ : Items → Items → Items
(I ∪ J) i = I i || J i

-- the items of both
infixl 45 ◌∩◌
unfoldable pub ◌∩◌ : Items → Items → Items
(I ∩ J) i = I i && J i

-- the items of the first that are not in the second
infixl 45 ◌∖◌
unfoldable pub ◌∖◌ : Items → Items → Items
(I ∖ J) i = I i && not (J i)

-- the one item e
unfoldable pub only : ℕ → Items
only e i = eqb i e

-- "from no items"
pub record Empty (I : Items) : Type 0 where
  pub vacant : (i : ℕ) → I i ≡ false

-- "the items are divided in two, one share for each part"
pub record Splits (I J K : Items) : Type 0 where
  pub whole : (i : ℕ) → I i ≡ (J i || K i)
  pub apart : (i : ℕ) → (J i && K i) ≡ false

-- every item of the first is one of the second
pub record Within (I J : Items) : Type 0 where
  pub kept : (i : ℕ) → I i ≡ true → J i ≡ true
