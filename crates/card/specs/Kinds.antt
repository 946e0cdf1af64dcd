-- The table of kinds (01, "The card"; 02, #103).
use Rattle.std.specs.Prelude.{◌≡◌, ◌⊎◌, ◌≤◌, ℕ, List, [], ◌∷◌, get_or}
use Rattle.std.proofs.Math.Option.{Option, none, some}
use Rattle.calculus.specs.Formula.{Goal, Clause, atomᴳ, topᴳ, oneᴳ, zeroᴳ, tensor, with, oplus, lolliᴳ, atomᴰ, topᴰ, lolliᴰ, withᴰ}
use Rattle.card.specs.declared.kinds.Field.{Field}
use Rattle.card.specs.declared.kinds.Field.TheVariants.{Unused, Name, GoalPart, ClausePart, Unknown}
use Rattle.card.specs.declared.kinds.Kind as code
use Rattle.card.specs.declared.kinds.Kind.TheVariants as kind

-- What a field gives to its node's reading: a name, or what the part reads as.
abbrev pub Held : Field → Type 0
Held Unused = Unit {0}
Held Name = ℕ
Held GoalPart = Goal
Held ClausePart = Clause
Held Unknown = Unit {0}

-- A row: what the fields hold, and how a node reads as a goal and as a clause, where it does.
pub record Kind : Type 0 where
  pub left : Field
  pub right : Field
  pub goal : Option (Held left → Held right → Goal)
  pub clause : Option (Held left → Held right → Clause)

abbrev pub row : (l r : Field) → Option (Held l → Held r → Goal) → Option (Held l → Held r → Clause) → Kind
row l r g d = record { left = l; right = r; goal = g; clause = d }

-- 01's "unknown kind": it reads as nothing, and nothing fits its fields
abbrev pub unknown : Kind
unknown = row Unknown Unknown none none

-- The rows by number, from 0, which is unknown; so are those past the last. 01's row, of 8 to 10 02's, stands beside each:
-- kind | trade word | logic | left, right | reads as
unfoldable pub kinds : List Kind
kinds =
    unknown
    ∷ row Name Unused (some (λ n u. atomᴳ n)) (some (λ n u. atomᴰ n))  -- 1 | name | atom | name 0 to 999, 0 | goal and clause
    ∷ row Unused Unused (some (λ u v. topᴳ)) (some (λ u v. topᴰ))  -- 2 | rest | ⊤ | 0, 0 | goal and clause
    ∷ row Unused Unused (some (λ u v. oneᴳ)) none  -- 3 | done | 1 | 0, 0 | goal
    ∷ row GoalPart GoalPart (some tensor) none  -- 4 | both | ⊗ | goal, goal | goal
    ∷ row GoalPart GoalPart (some with) none  -- 5 | either way | & | goal, goal | goal
    ∷ row ClausePart GoalPart (some lolliᴳ) none  -- 6 | lend | D ⊸ G | clause, goal | goal
    ∷ row GoalPart ClausePart none (some lolliᴰ)  -- 7 | recipe | G ⊸ D | goal, clause | clause
    ∷ row GoalPart GoalPart (some oplus) none  -- 8 | one of | ⊕ | goal, goal | goal
    ∷ row Unused Unused (some (λ u v. zeroᴳ)) none  -- 9 | never | 0 | 0, 0 | goal
    ∷ row ClausePart ClausePart none (some withᴰ)  -- 10 | menu | D & E | clause, clause | clause
    ∷ []

-- The row of kind k.
unfoldable pub kind_of : ℕ → Kind
kind_of k = get_or kinds k unknown

-- The number of each case of the enum `Kind`.
abbrev pub Numbered : code.Kind → ℕ → Type 0
Numbered kind.Atom k = k ≡ 1
Numbered kind.Top k = k ≡ 2
Numbered kind.One k = k ≡ 3
Numbered kind.Tensor k = k ≡ 4
Numbered kind.With k = k ≡ 5
Numbered kind.Lend k = k ≡ 6
Numbered kind.Recipe k = k ≡ 7
Numbered kind.Oplus k = k ≡ 8
Numbered kind.Zero k = k ≡ 9
Numbered kind.Menu k = k ≡ 10
Numbered kind.Unknown k = (k ≡ 0) ⊎ (11 ≤ k)
