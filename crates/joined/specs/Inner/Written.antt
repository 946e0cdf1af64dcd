-- What a lent buffer holds after a write.
use Rattle.std.specs.Prelude.{ℕ, ◌+◌, ◌≡◌, List, ◌++◌, length, take, drop}

-- xs stands at this place; all other bytes are as they were
pub record Written (old new : List ℕ) (at : ℕ) (xs : List ℕ) : Type 0 where
  pub bytes : new ≡ take at old ++ xs ++ drop (at + length xs) old
