-- Formulas: the kinds of 01 and of 02, #103, as goals and clauses, residuation (000, Figure 1, top), and which clauses can be used for a
-- name.
use Rattle.std.specs.Prelude.{ℕ, Bool, true, false, ◌||◌}

mutual
  -- "reads as goal": G of 000. `zeroᴳ` is also what is left of a clause that cannot be used.
  pub data Goal : Type 0 where
    atomᴳ : ℕ → Goal  -- 01: name
    topᴳ : Goal  -- 01: rest, ⊤
    oneᴳ : Goal  -- 01: done, 1
    zeroᴳ : Goal  -- 02: never, 0
    tensor : Goal → Goal → Goal  -- 01: both, ⊗
    with : Goal → Goal → Goal  -- 01: either way, &
    oplus : Goal → Goal → Goal  -- 02: one of, ⊕
    lolliᴳ : Clause → Goal → Goal  -- 01: lend, D ⊸ G

  -- "reads as clause": D of 000.
  pub data Clause : Type 0 where
    atomᴰ : ℕ → Clause  -- 01: name
    topᴰ : Clause  -- 01: rest, ⊤
    lolliᴰ : Goal → Clause → Clause  -- 01: recipe, G ⊸ D
    withᴰ : Clause → Clause → Clause  -- 02: menu, D & E

-- A test of a clause's head and a wanted name. Each scope carries the one by which its entries are used.
abbrev pub Fits : Type 0
Fits = ℕ → ℕ → Bool

-- dec-atm: the equation of head and wanted name, which is 1 where they fit and 0 where not.
unfoldable pub matched : Bool → Goal
matched true = oneᴳ
matched false = zeroᴳ

-- D ≫ a \ G (000, Figure 1): dec-atm, dec-⊤, dec-⊸, dec-&. "The condition nearest the head is met first"; at a menu one of the two
-- residuals is.
unfoldable pub residual : Fits → ℕ → Clause → Goal
residual fits a (atomᴰ b) = matched (fits b a)
residual fits a topᴰ = zeroᴳ
residual fits a (lolliᴰ G D) = tensor (residual fits a D) G
residual fits a (withᴰ D E) = oplus (residual fits a D) (residual fits a E)

-- "A clause's head is found by following the right parts of recipes. Where it ends in rest there is no head": some head fits the name.
-- "A menu's entry may be used at a name when either side could."
unfoldable pub usable : Fits → ℕ → Clause → Bool
usable fits a (atomᴰ b) = fits b a
usable fits a topᴰ = false
usable fits a (lolliᴰ G D) = usable fits a D
usable fits a (withᴰ D E) = usable fits a D || usable fits a E
