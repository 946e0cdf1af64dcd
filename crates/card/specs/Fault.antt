-- The refusals 1 to 9 (01, "Refused, and where") and soundness.
use Rattle.std.specs.Prelude.{ℕ, ◌+◌, ◌≤◌, ◌<◌, max, ◌≡◌, Bool, true, false, not, ◌&&◌, List, length, get_or, leb, ltb, eqb}
use Rattle.std.proofs.Math.Option.{Option, none, some}
use Rattle.card.specs.Format.{length_field, version, rule_count, line_count, node_count, goal_node, depth_limit, step_limit, kind_at, left_at, right_at}
use Rattle.card.specs.Format.{rule_node, line_node, line_byte, card_length, grow}
use Rattle.card.specs.declared.kinds.Field.{Field}
use Rattle.card.specs.declared.kinds.Field.TheVariants.{Unused, Name, GoalPart, ClausePart, Unknown}
use Rattle.card.specs.Kinds.{kind_of}
use Rattle.card.specs.Verdict.{Verdict, Where, sound, card, node, rule, line, sheet, steps, mark, step, refuse, ◌▹◌, first_of}

-- Refusals 1 to 5: the card's front.
unfoldable pub in_range : List ℕ → Bool
in_range bs =
    leb (rule_count bs) 64 && (leb (line_count bs) 64 && (leb 1 (node_count bs) && (leb (node_count bs) 512 && leb (depth_limit bs) 16)))

unfoldable pub front_fault : List ℕ → Verdict
front_fault bs =
    refuse (ltb (length bs) 11) 1 card
    ▹ refuse (not (eqb (length_field bs) (length bs))) 2 card
    ▹ refuse (not (eqb (version bs) 1)) 3 card
    ▹ refuse (not (in_range bs)) 4 card
    ▹ refuse (not (eqb (card_length bs) (length bs))) 5 card

unfoldable pub given : {A : Type 0} → Option A → Bool
given none = false
given (some a) = true

-- "reads as": a kind reads as a goal, or as a clause, where its row says how.
unfoldable pub is_goal : ℕ → Bool
is_goal k = given (kind_of k).goal

unfoldable pub is_clause : ℕ → Bool
is_clause k = given (kind_of k).clause

-- "A part's node number is lower than that of the node holding it", and the part has the reading asked for.
unfoldable pub goal_part : List ℕ → ℕ → ℕ → Bool
goal_part bs i part = ltb part i && is_goal (kind_at bs part)

unfoldable pub clause_part : List ℕ → ℕ → ℕ → Bool
clause_part bs i part = ltb part i && is_clause (kind_at bs part)

-- "left, right": an unused field is 0, a name at most 999, a part lower and of the reading asked for; of an unknown kind nothing fits.
unfoldable pub fits_field : List ℕ → ℕ → Field → ℕ → Bool
fits_field bs i Unused v = eqb v 0
fits_field bs i Name v = leb v 999
fits_field bs i GoalPart v = goal_part bs i v
fits_field bs i ClausePart v = clause_part bs i v
fits_field bs i Unknown v = false

unfoldable pub well_built : List ℕ → ℕ → Bool
well_built bs i =
    let k = kind_of (kind_at bs i) in
    fits_field bs i k.left (left_at bs i) && fits_field bs i k.right (right_at bs i)

-- The height of the part in a field, from the heights of the nodes before; 0 where the field holds none.
unfoldable pub part_height : List ℕ → Field → ℕ → ℕ
part_height t Unused v = 0
part_height t Name v = 0
part_height t GoalPart v = get_or t v 0
part_height t ClausePart v = get_or t v 0
part_height t Unknown v = 0

-- "Height is 1 for kinds 1 to 3, else 1 plus the greater of the parts' heights" (1 to 3 have no parts): of node i, from those before it.
unfoldable pub height_step : List ℕ → List ℕ → ℕ → ℕ
height_step bs t i =
    let k = kind_of (kind_at bs i) in
    max (part_height t k.left (left_at bs i)) (part_height t k.right (right_at bs i)) + 1

unfoldable pub height_at : List ℕ → ℕ → ℕ
height_at bs i = height_step bs (grow (height_step bs) i) i

-- Refusal 6, "height ..; at most 8".
unfoldable pub node_fault : List ℕ → ℕ → Verdict
node_fault bs i = refuse (not (well_built bs i && leb (height_at bs i) 8)) 6 (node i)

-- Refusals 7 to 9: the roots.
unfoldable pub goal_fault : List ℕ → Verdict
goal_fault bs = refuse (not (goal_part bs (node_count bs) (goal_node bs))) 7 card

unfoldable pub rule_fault : List ℕ → ℕ → Verdict
rule_fault bs i = refuse (not (clause_part bs (node_count bs) (rule_node bs i))) 8 (rule i)

unfoldable pub line_good : List ℕ → ℕ → Bool
line_good bs i = clause_part bs (node_count bs) (line_node bs i) && leb (line_byte bs i) 1

unfoldable pub line_fault : List ℕ → ℕ → Verdict
line_fault bs i = refuse (not (line_good bs i)) 9 (line i)

-- The first of 1 to 9 that applies, with its place.
unfoldable pub first_fault : List ℕ → Verdict
first_fault bs =
    front_fault bs
    ▹ first_of (node_count bs) (node_fault bs)
    ▹ goal_fault bs
    ▹ first_of (rule_count bs) (rule_fault bs)
    ▹ first_of (line_count bs) (line_fault bs)

-- Demand 1, "refused with its number and place": the index of a place is that of a node, rule or line of the card; a mark's is its line's.
-- A step's is at most s: a step that is missing stands behind the last.
unfoldable pub Placed : List ℕ → Where → Type 0
Placed bs card = Unit {0}
Placed bs (node i) = i < node_count bs
Placed bs (rule i) = i < rule_count bs
Placed bs (line i) = i < line_count bs
Placed bs sheet = Unit {0}
Placed bs steps = Unit {0}
Placed bs (mark i) = i < line_count bs
Placed bs (step i) = i ≤ step_limit bs

-- "A card is sound if it meets none of 1 to 9 below."
pub record Sound (bs : List ℕ) : Type 0 where
  pub faultless : first_fault bs ≡ sound
