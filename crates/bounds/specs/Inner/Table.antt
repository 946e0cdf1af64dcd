-- The table of a card. A class holds the clauses with one head, the menus alike, or all clauses; there are at most 64 of them. For each
-- node and class the table has a least and a greatest number of items, and for each node least steps; a node of a recipe has those of its
-- conditions together, up to a menu. The bounds of a name stand at a row of the table: that of one node of the name, or 512 for a name of
-- no node. How the table is filled in does not matter: it is settled if each node's bounds follow from its parts, and each name's from
-- every clause of a rule, a line or a lend that has it for a head. 255 is the greatest number that stands for none; least numbers and
-- steps stop there.
use Rattle.std.specs.Prelude.{ℕ, suc, max, min, ◌+◌, ◌-◌, ◌*◌, ◌%◌, ◌≤◌, ◌<◌, ◌≡◌, Bool, true, false, cond, ◌&&◌, ◌||◌, List, [], ◌∷◌, length, get_or, eqb, ltb}
use Rattle.calculus.specs.Formula.{Clause, atomᴰ, topᴰ, lolliᴰ, withᴰ}
use Rattle.lines.specs.Set.{bit_at}
use Rattle.card.specs.Format.{rule_count, line_count, node_count, kind_at, left_at, right_at, rule_node, line_node}
use Rattle.card.specs.Fault.{Sound, clause_part}
use Rattle.card.specs.Decode.{clause_of, scope_of}
use Rattle.lines.specs.Count.{bit}
use Rattle.bounds.specs.Inner.Count.{Class}
use Rattle.bounds.specs.Inner.Bound.{Names, off}

-- the two arrays that hold a table, as every array of their types is
pub record NameCells (names : List ℕ) : Type 0 where
  pub room : length names ≡ 1577
  pub word : (i : ℕ) → get_or names i 0 < 65536

pub record TableCells (t : List ℕ) : Type 0 where
  pub room : length t ≡ 66177
  pub byte : (i : ℕ) → get_or t i 0 < 256

-- what the functions over the table are handed
pub record TableHeld (bs names t : List ℕ) : Type 0 where
  pub sound : Sound bs
  pub names_held : NameCells names
  pub table_held : TableCells t

-- i is a node of the card
pub record Node (bs : List ℕ) (i : ℕ) : Type 0 where
  pub here : i < node_count bs
  pub few : i < 512

-- a menu's code from those of its sides: 1002 or more, which is no name; different menus may share it
unfoldable pub menu_code : ℕ → ℕ → ℕ
menu_code l r = 1002 + (l * 31 + r) % 64000

-- a clause's head; 1000, which is no name, where there is none; the code of a menu, which may have several
unfoldable pub head_of : Clause → ℕ
head_of (atomᴰ b) = b
head_of topᴰ = 1000
head_of (lolliᴰ G D) = head_of D
head_of (withᴰ D E) = menu_code (head_of D) (head_of E)

-- A class goes by a code: that of its clauses' head, or 1001 for all clauses. Whether the class takes in the clauses with the head h.
unfoldable pub takes_in : ℕ → ℕ → Bool
takes_in k h = eqb k 1001 || eqb h k

-- Names: the head of each clause node, the row of each name, the code of each class, and how many classes there are.
unfoldable pub head_at : List ℕ → ℕ → ℕ
head_at names i = get_or names i 0

unfoldable pub row_of : List ℕ → ℕ → ℕ
row_of names a = min (get_or names (512 + a) 0) 512

unfoldable pub class_at : List ℕ → ℕ → ℕ
class_at names c = get_or names (1512 + c) 0

unfoldable pub classes : List ℕ → ℕ
classes names = min (get_or names 1576 0) 64

-- Bounds: the least numbers, the greatest numbers and the least steps of each row.
unfoldable pub low_at : List ℕ → ℕ → ℕ → ℕ
low_at t i c = get_or t (i * 64 + c) 0

unfoldable pub high_at : List ℕ → ℕ → ℕ → ℕ
high_at t i c = get_or t (32832 + (i * 64 + c)) 0

unfoldable pub least_at : List ℕ → ℕ → ℕ
least_at t i = get_or t (65664 + i) 0

-- what stands for the kind: name, rest, done, both, either way, lend, recipe, one of, never, menu; what stands for an unknown one does not
-- matter
unfoldable pub by_kind : ℕ → ℕ → ℕ → ℕ → ℕ → ℕ → ℕ → ℕ → ℕ → ℕ → ℕ → ℕ
by_kind k name rest done both either lend recipe one_of_lem never menu =
    get_or (done ∷ name ∷ rest ∷ done ∷ both ∷ either ∷ lend ∷ recipe ∷ one_of_lem ∷ never ∷ []) k menu

-- the value of a recipe, 0 of any other clause: it has no conditions, or none up to its menu
unfoldable pub if_recipe : List ℕ → ℕ → ℕ → ℕ
if_recipe bs i v = cond (eqb (kind_at bs i) 7) v 0

-- the clause at the node is of the class
unfoldable pub in_class : List ℕ → ℕ → ℕ → Bool
in_class names i c = takes_in (class_at names c) (head_at names i)

unfoldable pub head_step : List ℕ → List ℕ → ℕ → ℕ
head_step bs names i =
    by_kind (kind_at bs i) (left_at bs i) 1000 1000 1000 1000 1000 (head_at names (right_at bs i)) 1000 1000
    (menu_code (head_at names (left_at bs i)) (head_at names (right_at bs i)))

-- what is added up on the way to a head is small: a part of node i is lower, and adds less than 256
pub record OnWay (i s l h : ℕ) : Type 0 where
  pub steps : s + 256 * i ≤ 200000
  pub low : l + 256 * i ≤ 200000
  pub high : h + 256 * i ≤ 200000

-- the bounds at row r take in s steps and l to h items of class c; so do those of the name a, at its row
pub record RowFits (t : List ℕ) (r c s l h : ℕ) : Type 0 where
  pub least : least_at t r ≤ s
  pub low : low_at t r c ≤ l
  pub high : high_at t r c < 255 → h ≤ high_at t r c

abbrev pub HeadFits : List ℕ → List ℕ → ℕ → ℕ → ℕ → ℕ → ℕ → Type 0
HeadFits names t a c s l h = RowFits t (row_of names a) c s l h

module _ (bs names t : List ℕ) where
  unfoldable pub least_step : ℕ → ℕ
  least_step i =
      let l = least_at t (left_at bs i) in
      let r = least_at t (right_at bs i) in
      by_kind (kind_at bs i) (least_at t (row_of names (left_at bs i))) 0 0 (l + r) (l + r) r (l + if_recipe bs (right_at bs i) r)
      (suc (min l r)) 255 0

  unfoldable pub low_step : ℕ → ℕ → ℕ
  low_step i c =
      let l = low_at t (left_at bs i) c in
      let r = low_at t (right_at bs i) c in
      by_kind (kind_at bs i) (low_at t (row_of names (left_at bs i)) c) 0 0 (l + r) (max l r) (r - bit (in_class names (left_at bs i) c))
      (l + if_recipe bs (right_at bs i) r) (min l r) 255 0

  unfoldable pub high_step : ℕ → ℕ → ℕ
  high_step i c =
      let l = high_at t (left_at bs i) c in
      let r = high_at t (right_at bs i) c in
      by_kind (kind_at bs i) (high_at t (row_of names (left_at bs i)) c) 255 0 (l + r) (min l r) (off r (in_class names (left_at bs i) c))
      (l + if_recipe bs (right_at bs i) r) (max l r) 0 0

  -- one class, at a node
  pub record NodeFits (i c : ℕ) : Type 0 where
    pub low : low_at t i c ≤ low_step i c
    pub high : high_at t i c < 255 → high_step i c ≤ high_at t i c

  -- After s steps and l to h items, the bounds of each head of the clause D at node i take in the way to it: its conditions, and a step at
  -- each menu.
  unfoldable pub WaysFit : Clause → ℕ → ℕ → ℕ → ℕ → ℕ → Type 0
  WaysFit (atomᴰ b) i c s l h = (a : ℕ) → (scope_of bs).fits b a ≡ true → HeadFits names t a c s l h
  WaysFit topᴰ i c s l h = Unit {0}
  WaysFit (lolliᴰ G D) i c s l h =
      let j = left_at bs i in
      WaysFit D (right_at bs i) c (s + least_at t j) (l + low_at t j c) (h + high_at t j c)
  WaysFit (withᴰ D E) i c s l h = WaysFit D (left_at bs i) c (s + 1) l h × WaysFit E (right_at bs i) c (s + 1) l h

  pub record NodeSettled (i : ℕ) : Type 0 where
    pub head : head_at names i ≡ head_step bs names i
    pub least : least_at t i ≤ least_step i
    pub class : (c : ℕ) → c < classes names → NodeFits i c

  -- a use of the clause: one step, and one item if it is linear and of the class; then the way to each head
  pub record UseSettled (i : ℕ) (b : Bool) : Type 0 where
    pub class : (c : ℕ) → c < classes names
        → WaysFit (clause_of bs i) i c 1 (bit (b && in_class names i c)) (bit (b && in_class names i c))

-- the same of a bare name at node i, and of a recipe with the one condition g before a name, the name's bounds standing at row r
pub record NameSettled (names t : List ℕ) (i : ℕ) (b : Bool) (r : ℕ) : Type 0 where
  pub class : (c : ℕ) → c < classes names → RowFits t r c 1 (bit (b && in_class names i c)) (bit (b && in_class names i c))

pub record RecipeSettled (names t : List ℕ) (i : ℕ) (b : Bool) (g r : ℕ) : Type 0 where
  pub class : (c : ℕ) → c < classes names
      → RowFits t r c (1 + least_at t g) (bit (b && in_class names i c) + low_at t g c) (bit (b && in_class names i c) + high_at t g c)

-- The clauses that may come into scope, by node, and whether they are linear: those of rules, of lines, and of lends.
pub data Origin (bs : List ℕ) : ℕ → Bool → Type 0 where
  rule : (k i : ℕ) → k < rule_count bs → i ≡ rule_node bs k → Origin bs i false
  line : (k i : ℕ) → k < line_count bs → i ≡ line_node bs k → Origin bs i true
  lent : (j i : ℕ) → j < node_count bs → kind_at bs j ≡ 6 → i ≡ left_at bs j → Origin bs i true

-- the family of a card
pub record OfCard (bs : List ℕ) (D : Clause) (b : Bool) : Type 0 where
  pub node : ℕ
  pub here : clause_part bs (node_count bs) node ≡ true
  pub reads : clause_of bs node ≡ D
  pub origin : Origin bs node b

-- a class's lines as a word: bit i says whether i is a line of the class
pub record Masked (bs names masks : List ℕ) (c : ℕ) : Type 0 where
  pub mask : (i : ℕ) → i < 64 → bit_at (get_or masks c 0) i ≡ (ltb i (line_count bs) && in_class names (line_node bs i) c)

pub record Settled (bs names t masks : List ℕ) : Type 0 where
  pub some : 0 < classes names
  pub nodes : (i : ℕ) → i < node_count bs → NodeSettled bs names t i
  pub uses : (i : ℕ) (b : Bool) → Origin bs i b → UseSettled bs names t i b
  pub masked : (c : ℕ) → c < classes names → Masked bs names masks c

-- the bounds of names that the table has for a class, and the class
unfoldable pub names_of : List ℕ → List ℕ → ℕ → Names
names_of names t c = record {
  least = λ a. least_at t (row_of names a);
  low = λ a. low_at t (row_of names a) c;
  high = λ a. high_at t (row_of names a) c;
}

unfoldable pub class_of : List ℕ → ℕ → Class
class_of names c D = takes_in (class_at names c) (head_of D)
