-- What is read off a derivation: its step list, its nesting, its needs with their places; and the order of lists.
use Rattle.std.specs.Prelude.{ℕ, zero, suc, max, ◌<◌, ◌≡◌, ◌↔◌, Bool, false, cond, ◌||◌, eqb, ltb}
use mathlib.Core.List.{List, [], ◌∷◌, ◌++◌, map, Memᴰ}
use Rattle.calculus.specs.Formula.{Goal}
use Rattle.calculus.specs.Items.{Items, ∅, ◌∪◌, ◌∩◌, only}
use Rattle.calculus.specs.Derivation.{Scope, Derives, res_1, res_⊤, res_⊗, res_&, res_⊕₁, res_⊕₂, res_⊸, res_atm_int, res_atm_lin}

-- "A choice writes 254 for left or 255 for right".
abbrev pub left_choice : ℕ
left_choice = 254

abbrev pub right_choice : ℕ
right_choice = 255

-- "The step list writes the entry used at each name, in walking order: left part before right, a clause's use before its conditions."
-- A choice is written "at 'one of' where it is walked, for a menu straight after the entry that holds it, outer menus first, before any
-- condition": the residual, walked from left to right.
unfoldable pub steps : {es : Scope} {I : Items} {G : Goal} → Derives es I G → List ℕ
steps (res_1 n) = []
steps res_⊤ = []
steps (res_⊗ s l r) = steps l ++ steps r
steps (res_& l r) = steps l ++ steps r
steps (res_⊕₁ d) = left_choice ∷ steps d
steps (res_⊕₂ d) = right_choice ∷ steps d
steps (res_⊸ f d) = steps d
steps (res_atm_int e n d) = e ∷ steps d
steps (res_atm_lin e n h d) = e ∷ steps d

-- entries renumbered, choices as they are
unfoldable pub renumber : (ℕ → ℕ) → ℕ → ℕ
renumber f e = cond (ltb e left_choice) (f e) e

-- its entries alone, without its choices
unfoldable pub entries_used : {es : Scope} {I : Items} {G : Goal} → Derives es I G → List ℕ
entries_used (res_1 n) = []
entries_used res_⊤ = []
entries_used (res_⊗ s l r) = entries_used l ++ entries_used r
entries_used (res_& l r) = entries_used l ++ entries_used r
entries_used (res_⊕₁ d) = entries_used d
entries_used (res_⊕₂ d) = entries_used d
entries_used (res_⊸ f d) = entries_used d
entries_used (res_atm_int e n d) = e ∷ entries_used d
entries_used (res_atm_lin e n h d) = e ∷ entries_used d

-- the entry stands in the list
unfoldable pub stands : ℕ → List ℕ → Bool
stands e [] = false
stands e (x ∷ l) = eqb e x || stands e l

-- 02, #105: "A name's step surely uses an item that is its entry or surely used in its conditions; 'both' one that either part surely uses;
-- 'either way' only one that each does; lend or a choice what the goal taken does." A rule is no item.
unfoldable pub surely : {es : Scope} {I : Items} {G : Goal} → Derives es I G → Items
surely (res_1 n) = ∅
surely res_⊤ = ∅
surely (res_⊗ s l r) = surely l ∪ surely r
surely (res_& l r) = surely l ∩ surely r
surely (res_⊕₁ d) = surely d
surely (res_⊕₂ d) = surely d
surely (res_⊸ f d) = surely d
surely (res_atm_int e n d) = surely d
surely (res_atm_lin e n h d) = only e ∪ surely d

-- "A step's nesting is 1 plus the number of uses it stands inside": the greatest nesting of any step. Of a choice, "d doesn't bind it and it
-- adds no nesting".
unfoldable pub nesting : {es : Scope} {I : Items} {G : Goal} → Derives es I G → ℕ
nesting (res_1 n) = zero
nesting res_⊤ = zero
nesting (res_⊗ s l r) = max (nesting l) (nesting r)
nesting (res_& l r) = max (nesting l) (nesting r)
nesting (res_⊕₁ d) = nesting d
nesting (res_⊕₂ d) = nesting d
nesting (res_⊸ f d) = nesting d
nesting (res_atm_int e n d) = suc (nesting d)
nesting (res_atm_lin e n h d) = suc (nesting d)

-- "left or right at each both and either way, into the goal of each lend, and at a use which condition, counted from the head"; 02: "a place
-- tells the side taken at each 'one of' above it, and choices at one name are told apart by their order".
pub data Turn : Type 0 where
  left right into : Turn
  condition : ℕ → Turn
  choice : ℕ → Turn

-- "A need is a name met as a goal", or a choice: the path to it, and the entry that serves it or the choice's byte.
pub record Need : Type 0 where
  pub place : List Turn
  pub entry : ℕ

unfoldable pub under : List Turn → List Need → List Need
under p = map (λ n. record { place = p ++ n.place; entry = n.entry })

-- Where a walk stands: at a goal of the card, or in the residual of a clause in use. A residual ((1 ⊗ G₀) ⊗ G₁) ⊗ G₂ is a row of
-- conditions, counted from the head, and its ⊗ are no part of a place; nor are its ⊕, the choices of its menus, counted from the outside.
pub data Mode : Type 0 where
  plain : Mode
  row : ℕ → Mode  -- with this many choices made

-- how many conditions a derivation of a row meets: one at each ⊗ down its left parts and chosen sides
unfoldable pub rowed : {es : Scope} {I : Items} {G : Goal} → Derives es I G → ℕ
rowed (res_1 n) = zero
rowed res_⊤ = zero
rowed (res_⊗ s l r) = suc (rowed l)
rowed (res_& l r) = zero
rowed (res_⊕₁ d) = rowed d
rowed (res_⊕₂ d) = rowed d
rowed (res_⊸ f d) = zero
rowed (res_atm_int e n d) = zero
rowed (res_atm_lin e n h d) = zero

unfoldable pub turn_left : Mode → List Turn
turn_left plain = left ∷ []
turn_left (row k) = []

-- in a row, the right part is the condition behind those that the left part meets
unfoldable pub turn_right : Mode → ℕ → List Turn
turn_right plain n = right ∷ []
turn_right (row k) n = condition n ∷ []

-- the place of a choice, the way from there to the side taken, and how the walk stands there
unfoldable pub turn_choice : Mode → List Turn
turn_choice plain = []
turn_choice (row k) = choice k ∷ []

unfoldable pub turn_side : Mode → Turn → List Turn
turn_side plain t = t ∷ []
turn_side (row k) t = []

unfoldable pub chosen : Mode → Mode
chosen plain = plain
chosen (row k) = row (suc k)

-- the needs in walking order, with their places
unfoldable pub needs : {es : Scope} {I : Items} {G : Goal} → Mode → Derives es I G → List Need
needs m (res_1 n) = []
needs m res_⊤ = []
needs m (res_⊗ s l r) = under (turn_left m) (needs m l) ++ under (turn_right m (rowed l)) (needs plain r)
needs m (res_& l r) = under (left ∷ []) (needs plain l) ++ under (right ∷ []) (needs plain r)
needs m (res_⊕₁ d) = record { place = turn_choice m; entry = left_choice } ∷ under (turn_side m left) (needs (chosen m) d)
needs m (res_⊕₂ d) = record { place = turn_choice m; entry = right_choice } ∷ under (turn_side m right) (needs (chosen m) d)
needs m (res_⊸ f d) = under (into ∷ []) (needs plain d)
needs m (res_atm_int e n d) = record { place = []; entry = e } ∷ needs (row zero) d
needs m (res_atm_lin e n h d) = record { place = []; entry = e } ∷ needs (row zero) d

-- the derivation has a need at this place, and this entry serves it
unfoldable pub Serves : {es : Scope} {I : Items} {G : Goal} → Derives es I G → List Turn → ℕ → Type 0
Serves d p e = Memᴰ (record { place = p; entry = e }) (needs plain d)

-- the derivation has a need at this place
unfoldable pub Needed : {es : Scope} {I : Items} {G : Goal} → Derives es I G → List Turn → Type 0
Needed d p = (e : ℕ) × Serves d p e

-- "The same entry serves every need in two derivations if both have needs at the same places and at each the same entry number".
pub record SameService {es : Scope} {I J : Items} {G : Goal} (c : Derives es I G) (d : Derives es J G) : Type 0 where
  pub places : (p : List Turn) → Needed c p ↔ Needed d p
  pub entries : (p : List Turn) (e f : ℕ) → Serves c p e → Serves d p f → e ≡ f

-- "at the first place where two differ, the lower number wins": the first list comes before the second. It never holds between
-- a list and a beginning of it.
pub data Before : List ℕ → List ℕ → Type 0 where
  here : {x y : ℕ} {l m : List ℕ} → x < y → Before (x ∷ l) (y ∷ m)
  there : {x : ℕ} {l m : List ℕ} → Before l m → Before (x ∷ l) (x ∷ m)
