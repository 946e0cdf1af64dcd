-- Derivations: source document 000, Figure 1, cut to the kinds of 01 and of 02, #103. A scope has one list of entries, so that an entry's
-- number is its place in it.
use Rattle.std.specs.Prelude.{ℕ, ◌≡◌, Bool, true, false, List, [], ◌∷◌, ◌++◌, length, get_or}
use Rattle.calculus.specs.Formula.{Fits, Goal, Clause, atomᴳ, topᴳ, oneᴳ, tensor, with, oplus, lolliᴳ, topᴰ, residual}
use Rattle.calculus.specs.Items.{Items, ◌∪◌, ◌∖◌, only, Empty, Splits}

-- An entry of the scope: a clause that stays when used (a rule) or is gone when used (linear: a line or a lent clause).
pub record Entry : Type 0 where
  pub clause : Clause
  pub linear : Bool

-- "Entries are numbered: rules from 0, lines from P, lent clauses from P + T by how many lent clauses already stand in scope": an entry's
-- number is its place in the list. `fits` is the scope's test of a head and a wanted name.
pub record Scope : Type 0 where
  pub entries : List Entry
  pub fits : Fits

-- Out of scope there is nothing to use: ⊤ has no head.
abbrev pub no_entry : Entry
no_entry = record { clause = topᴰ; linear = false }

-- how many entries stand in scope
unfoldable pub size : Scope → ℕ
size es = length es.entries

unfoldable pub entry_at : Scope → ℕ → Entry
entry_at es e = get_or es.entries e no_entry

unfoldable pub clause_at : Scope → ℕ → Clause
clause_at es e = (entry_at es e).clause

unfoldable pub linear_at : Scope → ℕ → Bool
linear_at es e = (entry_at es e).linear

-- what is left to derive where the entry e is used for the name a
unfoldable pub residual_at : Scope → ℕ → ℕ → Goal
residual_at es a e = residual es.fits a (clause_at es e)

-- one more entry, with the next number
unfoldable pub extend : Scope → Entry → Scope
extend es x = record { entries = es.entries ++ (x ∷ []); fits = es.fits }

-- "lend: the clause joins the items for that goal alone"
unfoldable pub lend : Scope → Clause → Scope
lend es D = extend es (record { clause = D; linear = true })

-- Derives es I G: the goal G is derived in the scope es from the items I, each of them spent. "Items are the tray lines and lent
-- clauses at hand; rules are no items." The rules bear their names in Figure 1.
pub data Derives : Scope → Items → Goal → Type 0 where
  -- "done: from no items"
  res_1 : {es : Scope} {I : Items} → Empty I → Derives es I oneᴳ
  -- "rest: from any items"
  res_⊤ : {es : Scope} {I : Items} → Derives es I topᴳ
  -- "both: the items are divided in two, one share for each part"
  res_⊗ : {es : Scope} {I J K : Items} {G H : Goal} → Splits I J K → Derives es J G → Derives es K H → Derives es I (tensor G H)
  -- "either way: each part is derived from all the items"
  res_& : {es : Scope} {I : Items} {G H : Goal} → Derives es I G → Derives es I H → Derives es I (with G H)
  -- one of: one part, left or right, is derived from all the items; 0 has no rule
  res_⊕₁ : {es : Scope} {I : Items} {G H : Goal} → Derives es I G → Derives es I (oplus G H)
  res_⊕₂ : {es : Scope} {I : Items} {G H : Goal} → Derives es I H → Derives es I (oplus G H)
  -- "lend: the clause joins the items for that goal alone and counts as must there"; its number is none of the items'
  res_⊸ : {es : Scope} {I : Items} {D : Clause} {G : Goal} → I (size es) ≡ false → Derives (lend es D) (I ∪ only (size es)) G
      → Derives es I (lolliᴳ D G)
  -- "name: one entry whose head is this name is used. A rule stays"
  res_atm_int : {es : Scope} {I : Items} {a : ℕ} (e : ℕ) → linear_at es e ≡ false → Derives es I (residual_at es a e)
      → Derives es I (atomᴳ a)
  -- "a line or lent clause is gone. The recipe's conditions are then derived, dividing what remains; none may remain over."
  res_atm_lin : {es : Scope} {I : Items} {a : ℕ} (e : ℕ) → linear_at es e ≡ true → I e ≡ true
      → Derives es (I ∖ only e) (residual_at es a e) → Derives es I (atomᴳ a)
