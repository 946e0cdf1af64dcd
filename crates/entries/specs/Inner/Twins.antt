-- Wider twins: a line waits for the lower lines of its node that are must, and for those that are as it is.
use Rattle.std.specs.Prelude.{ℕ, zero, suc, ◌+◌, ◌-◌, Bool, true, false, not, ◌&&◌, ◌||◌, List, leb, ltb, eqb}
use Rattle.calculus.specs.Steps.{stands}
use Rattle.card.specs.Format.{rule_count, line_count, line_node, line_byte}

-- line i waits for line x: x is lower, has the same node, and is must or has the same must/may byte
unfoldable pub waits : List ℕ → ℕ → ℕ → Bool
waits bs i x =
    ltb x i && (eqb (line_node bs x) (line_node bs i) && (eqb (line_byte bs x) 1 || eqb (line_byte bs x) (line_byte bs i)))

-- the test holds of every number below n
unfoldable pub every : (ℕ → Bool) → ℕ → Bool
every p zero = true
every p (suc n) = p n && every p n

-- the entry is a line
unfoldable pub is_line : List ℕ → ℕ → Bool
is_line bs e = leb (rule_count bs) e && ltb e (rule_count bs + line_count bs)

-- line x is none that line i waits for, or stands among the steps so far
unfoldable pub met : List ℕ → List ℕ → ℕ → ℕ → Bool
met bs done i x = not (waits bs i x) || stands (rule_count bs + x) done

-- A line may be used once every line that it waits for has been; any other entry always.
unfoldable pub eligible : List ℕ → List ℕ → ℕ → Bool
eligible bs done e =
    elim (is_line bs e) [ true ↦ every (met bs done (e - rule_count bs)) (e - rule_count bs) | false ↦ true ]
