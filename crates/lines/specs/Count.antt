-- How many items there are, by a scan of them all.
use Rattle.std.specs.Prelude.{Bool, true, false, ℕ, zero, suc, ◌+◌}
use Rattle.lines.specs.declared.LineSet.{LineSet}
use Rattle.lines.specs.Set.{member}

unfoldable pub bit : Bool → ℕ
bit true = 1
bit false = 0

-- how many below n pass the test
unfoldable pub number : (ℕ → Bool) → ℕ → ℕ
number I zero = 0
number I (suc n) = number I n + bit (I n)

-- how many items are in the set
unfoldable pub count_s : LineSet → ℕ
count_s s = number (member s) 192
