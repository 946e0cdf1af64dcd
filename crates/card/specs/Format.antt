-- The card's bytes (01, "The card"). Past the end of the bytes every byte reads as 0.
use Rattle.std.specs.Prelude.{ℕ, zero, suc, ◌+◌, ◌*◌, ◌<◌, List, [], ◌∷◌, ◌++◌, get_or}

abbrev pub byte_at : List ℕ → ℕ → ℕ
byte_at bs at = get_or bs at 0

-- what every slice of bytes is
pub record Bytes (s : List ℕ) : Type 0 where
  pub byte : (i : ℕ) → byte_at s i < 256

-- "Numbers of two bytes are big-endian."
abbrev pub word_at : List ℕ → ℕ → ℕ
word_at bs at = byte_at bs at * 256 + byte_at bs (at + 1)

-- bytes 0 to 10
abbrev pub length_field : List ℕ → ℕ
length_field bs = word_at bs 0

abbrev pub version : List ℕ → ℕ
version bs = byte_at bs 2

abbrev pub rule_count : List ℕ → ℕ
rule_count bs = byte_at bs 3

abbrev pub line_count : List ℕ → ℕ
line_count bs = byte_at bs 4

abbrev pub node_count : List ℕ → ℕ
node_count bs = word_at bs 5

abbrev pub goal_node : List ℕ → ℕ
goal_node bs = word_at bs 7

abbrev pub depth_limit : List ℕ → ℕ
depth_limit bs = byte_at bs 9

abbrev pub step_limit : List ℕ → ℕ
step_limit bs = byte_at bs 10

-- "Then N nodes of 5 bytes (kind, left, right), P rules of 2 bytes (a node), T lines of 3 bytes (a node, then 1 = must or 0 = may)."
abbrev pub node_start : ℕ → ℕ
node_start i = 11 + 5 * i

abbrev pub rule_start : List ℕ → ℕ → ℕ
rule_start bs i = 11 + 5 * node_count bs + 2 * i

abbrev pub line_start : List ℕ → ℕ → ℕ
line_start bs i = 11 + 5 * node_count bs + 2 * rule_count bs + 3 * i

abbrev pub kind_at : List ℕ → ℕ → ℕ
kind_at bs i = byte_at bs (node_start i)

abbrev pub left_at : List ℕ → ℕ → ℕ
left_at bs i = word_at bs (node_start i + 1)

abbrev pub right_at : List ℕ → ℕ → ℕ
right_at bs i = word_at bs (node_start i + 3)

abbrev pub rule_node : List ℕ → ℕ → ℕ
rule_node bs i = word_at bs (rule_start bs i)

abbrev pub line_node : List ℕ → ℕ → ℕ
line_node bs i = word_at bs (line_start bs i)

-- 01: the must/may byte
abbrev pub line_byte : List ℕ → ℕ → ℕ
line_byte bs i = byte_at bs (line_start bs i + 2)

-- "Length is 11 + 5N + 2P + 3T"
abbrev pub card_length : List ℕ → ℕ
card_length bs = 11 + 5 * node_count bs + 2 * rule_count bs + 3 * line_count bs

-- f 0, f 1, .., f (n - 1)
unfoldable pub listing {ℓ} : {A : Type ℓ} → ℕ → (ℕ → A) → List A
listing zero f = []
listing (suc n) f = listing n f ++ (f n ∷ [])

-- A table of n values, each made from its index and the table of those before it.
unfoldable pub grow {ℓ} : {A : Type ℓ} → (List A → ℕ → A) → ℕ → List A
grow f zero = []
grow f (suc n) = let t = grow f n in t ++ (f t n ∷ [])
