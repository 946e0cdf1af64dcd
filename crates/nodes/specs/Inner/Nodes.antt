-- The table of heights that the check of a node goes by.
use Rattle.std.specs.Prelude.{ℕ, ◌+◌, ◌*◌, ◌≤◌, ◌<◌, ◌≡◌, List, length, take}
use Rattle.card.specs.Format.{grow}
use Rattle.card.specs.Fault.{height_step}

-- Node i stands on the card, and t begins with the heights of the nodes before it.
pub record HeightsTabled (bs : List ℕ) (i : ℕ) (t : List ℕ) : Type 0 where
  pub here : 16 + 5 * i ≤ length bs
  pub few : i < 512
  pub heights : take i t ≡ grow (height_step bs) i
