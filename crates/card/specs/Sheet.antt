-- Marks and the sheet's bytes (01, "Steps, nesting, order, marks" and "The sheet").
use Rattle.std.specs.Prelude.{ℕ, ◌+◌, ◌/◌, ◌%◌, cond, List, [], ◌∷◌, ◌++◌, length, eqb}
use Rattle.calculus.specs.Items.{Items}
use Rattle.calculus.specs.Steps.{stands}
use Rattle.card.specs.Format.{rule_count, line_count, line_byte, listing}

-- "Mark 1 now means surely used, mark 3 in the list but not surely" (02, #105); "2 = must, not in the list (some rest covers it); 0 = may, not
-- in the list." Of line i, where a derivation surely uses the items U, all of which stand in its list l.
unfoldable pub mark_of : List ℕ → Items → List ℕ → ℕ → ℕ
mark_of bs U l i = cond (stands (rule_count bs + i) l) (cond (U (rule_count bs + i)) 1 3) (cond (eqb (line_byte bs i) 1) 2 0)

unfoldable pub marks_of : List ℕ → Items → List ℕ → List ℕ
marks_of bs U l = listing (line_count bs) (mark_of bs U l)

-- a number of two bytes, big-endian: it is a sheet's length, which is at most 324
unfoldable pub word : ℕ → List ℕ
word n = n / 256 ∷ n % 256 ∷ []

-- "Length (2 bytes), version 1, step count k, T, then k steps, then T marks: 5 + k + T bytes."
unfoldable pub sheet_of : List ℕ → Items → List ℕ → List ℕ
sheet_of bs U l = word (5 + length l + line_count bs) ++ (1 ∷ length l ∷ line_count bs ∷ (l ++ marks_of bs U l))
