-- Bounds of goals, for one class of items: least steps, least and greatest number of items. They are given by name; those of a goal are
-- folded from its names. A greatest number of 255 or more is none. Of 0, which has no list, any bounds are right: least ones of 255.
use Rattle.std.specs.Prelude.{ℕ, suc, max, min, ◌+◌, ◌-◌, ◌≤◌, ◌<◌, ◌≡◌, Bool, true, false, cond, ◌&&◌, List, [], ◌∷◌, length, leb}
use Rattle.calculus.specs.Formula.{Fits, Goal, Clause, atomᴳ, topᴳ, oneᴳ, zeroᴳ, tensor, with, oplus, lolliᴳ, atomᴰ, topᴰ, lolliᴰ, withᴰ}
use Rattle.calculus.specs.Items.{Items, ◌∪◌}
use Rattle.calculus.specs.Derivation.{Scope, size, clause_at, linear_at}
use Rattle.agenda.specs.Inner.Agenda.{Agenda}
use Rattle.lines.specs.Count.{bit}
use Rattle.bounds.specs.Inner.Count.{Class, count}

-- the bounds of each name
pub record Names : Type 0 where
  pub least : ℕ → ℕ
  pub low : ℕ → ℕ
  pub high : ℕ → ℕ

-- a greatest number less an item that is taken for sure; none stays none
unfoldable pub off : ℕ → Bool → ℕ
off h b = cond (leb 255 h) h (h - bit b)

module _ (K : Class) (t : Names) where
  unfoldable pub least_g : Goal → ℕ
  least_g (atomᴳ a) = t.least a
  least_g topᴳ = 0
  least_g oneᴳ = 0
  least_g zeroᴳ = 255
  least_g (tensor G H) = least_g G + least_g H
  least_g (with G H) = least_g G + least_g H
  least_g (oplus G H) = suc (min (least_g G) (least_g H))
  least_g (lolliᴳ D G) = least_g G

  unfoldable pub low_g : Goal → ℕ
  low_g (atomᴳ a) = t.low a
  low_g topᴳ = 0
  low_g oneᴳ = 0
  low_g zeroᴳ = 255
  low_g (tensor G H) = low_g G + low_g H
  low_g (with G H) = max (low_g G) (low_g H)
  low_g (oplus G H) = min (low_g G) (low_g H)
  low_g (lolliᴳ D G) = low_g G - bit (K D)

  unfoldable pub high_g : Goal → ℕ
  high_g (atomᴳ a) = t.high a
  high_g topᴳ = 255
  high_g oneᴳ = 0
  high_g zeroᴳ = 0
  high_g (tensor G H) = high_g G + high_g H
  high_g (with G H) = min (high_g G) (high_g H)
  high_g (oplus G H) = max (high_g G) (high_g H)
  high_g (lolliᴳ D G) = off (high_g G) (K D)

  -- of all tasks of an agenda
  unfoldable pub least_a : Agenda → ℕ
  least_a [] = 0
  least_a (x ∷ A) = least_g x.goal + least_a A

  unfoldable pub low_a : Agenda → ℕ
  low_a [] = 0
  low_a (x ∷ A) = low_g x.goal + low_a A

  unfoldable pub high_a : Agenda → ℕ
  high_a [] = 0
  high_a (x ∷ A) = high_g x.goal + high_a A

  -- The bounds of the name a admit s steps and l to h items of the class.
  pub record Admits (a s l h : ℕ) : Type 0 where
    pub least : t.least a ≤ s
    pub low : t.low a ≤ l
    pub high : t.high a < 255 → h ≤ t.high a

  -- They allow what is left of a clause for it, after s steps and l to h items: the way to each head that fits, with its conditions, and a
  -- step at each menu.
  unfoldable pub Allows : Fits → ℕ → Clause → ℕ → ℕ → ℕ → Type 0
  Allows fits a (atomᴰ b) s l h = fits b a ≡ true → Admits a s l h
  Allows fits a topᴰ s l h = Unit {0}
  Allows fits a (lolliᴰ G D) s l h = Allows fits a D (s + least_g G) (l + low_g G) (h + high_g G)
  Allows fits a (withᴰ D E) s l h = Allows fits a D (suc s) l h × Allows fits a E (suc s) l h

  -- They allow the use of a clause for it: one step, and one item of the class if the clause is linear and of it.
  unfoldable pub Settles : Fits → ℕ → Clause → Bool → Type 0
  Settles fits a D linear = Allows fits a D 1 (bit (linear && K D)) (bit (linear && K D))

-- A family of clauses, each with whether it is linear. What a goal lends is of the family; so are the clauses that conditions lend.
abbrev pub Kin : Type 1
Kin = Clause → Bool → Type 0

module _ (P : Kin) where
  unfoldable pub LendsG : Goal → Type 0
  LendsG (atomᴳ a) = Unit {0}
  LendsG topᴳ = Unit {0}
  LendsG oneᴳ = Unit {0}
  LendsG zeroᴳ = Unit {0}
  LendsG (tensor G H) = LendsG G × LendsG H
  LendsG (with G H) = LendsG G × LendsG H
  LendsG (oplus G H) = LendsG G × LendsG H
  LendsG (lolliᴳ D G) = P D true × LendsG G

  unfoldable pub LendsD : Clause → Type 0
  LendsD (atomᴰ b) = Unit {0}
  LendsD topᴰ = Unit {0}
  LendsD (lolliᴰ G D) = LendsD D × LendsG G
  LendsD (withᴰ D E) = LendsD D × LendsD E

  unfoldable pub LendsA : Agenda → Type 0
  LendsA [] = Unit {0}
  LendsA (x ∷ A) = LendsG x.goal × LendsA A

  -- every entry in scope is of the family
  pub record Scoped (fits : Fits) (es : Scope) : Type 0 where
    pub same_fits : es.fits ≡ fits
    pub kin : (e : ℕ) → e < size es → P (clause_at es e) (linear_at es e)

  -- the bounds allow every use of a clause of the family, and its conditions lend but clauses of the family
  pub record Closed (fits : Fits) (K : Class) (t : Names) : Type 0 where
    pub settles : (D : Clause) (b : Bool) → P D b → (a : ℕ) → Settles K t fits a D b
    pub lends : (D : Clause) (b : Bool) → P D b → LendsD D

-- A list of a goal that takes U, with slack v, keeps to the goal's bounds; no slack where there is a greatest number.
pub record Keeps (K : Class) (es : Scope) (least low high : ℕ) (l : List ℕ) (U : Items) (v : Bool) : Type 0 where
  pub long : least ≤ length l
  pub some : low ≤ count es K U
  pub few : high < 255 → (v ≡ false) × (count es K U ≤ high)

-- No list of the agenda is in the window (S, L) and within the room.
pub data Hopeless (K : Class) (t : Names) (es : Scope) (A : Agenda) (S L : Items) (room : ℕ) : Type 0 where
  too_long : room < least_a K t A → Hopeless K t es A S L room
  too_few : count es K (S ∪ L) < low_a K t A → Hopeless K t es A S L room
  too_many : high_a K t A < 255 → high_a K t A < count es K S → Hopeless K t es A S L room
