-- The terms of the contracts: which entry is tried next at a name, and where the given steps bear on it.
use Rattle.std.specs.Prelude.{ℕ, ◌+◌, ◌-◌, ◌^◌, ◌≤◌, ◌<◌, ◌≡◌, Bool, true, false, not, cond, ◌&&◌, ◌||◌, List, length, get_or, take, drop, leb, ltb, eqb, Option, None, Some}
use Rattle.calculus.specs.Items.{◌∪◌}
use Rattle.card.specs.Format.{rule_count, line_count, node_count, byte_at}
use Rattle.card.specs.Fault.{Sound, clause_part}
use Rattle.lines.specs.declared.LineWord.{LineWord}
use Rattle.lines.specs.Inner.Word.{line_in, lines_of}
use Rattle.scope.specs.Inner.Sets.{items}
use Rattle.entries.specs.Inner.Entries.{code_fits}
use Rattle.entries.specs.Inner.Masks.{ready_by}
use Rattle.branch.specs.declared.Branch.{Branch}
use Rattle.branch.specs.declared.Floor.{Floor}
use Rattle.branch.specs.declared.Outcome.{Outcome}
use Rattle.branch.specs.declared.Outcome.TheVariants.{Stuck as IsStuck, Tired as IsTired}

-- the entry is a rule or an item at hand
unfoldable pub at_hand_by : ℕ → ℕ → Branch → Bool
at_hand_by P e b = not (leb P e) || (items P b.strict ∪ items P b.lax) e

-- and the lines that it waits for are seen
unfoldable pub open_to : List ℕ → List ℕ → Branch → ℕ → Bool
open_to bs waits b e = at_hand_by (rule_count bs) e b && ready_by (rule_count bs) (line_count bs) waits b.seen e

-- the entry can be used for the name: it is in scope, some head of it is the name, it is a rule or an item at hand, and the lines that it
-- waits for are seen
unfoldable pub takable_by : List ℕ → List ℕ → List ℕ → Branch → ℕ → ℕ → Bool
takable_by bs waits heads b name e = ltb e b.count && (code_fits bs (get_or heads e 0) name && open_to bs waits b e)

-- What the test of an entry asks.
pub record Testing (bs waits heads : List ℕ) (b : Branch) : Type 0 where
  pub sound : Sound bs
  pub wait_room : length waits ≡ 64
  pub head_room : length heads ≡ 256
  pub few : b.count ≤ 256
  pub scoped : rule_count bs + line_count bs ≤ b.count
  pub heads_low : (e : ℕ) → e < b.count → get_or heads e 0 < 1513
  pub menus : (e : ℕ) → e < b.count → 1001 ≤ get_or heads e 0 → clause_part bs (node_count bs) (get_or heads e 0 - 1001) ≡ true

-- Whether an entry with this code is passed: where it is, it cannot be used; where it is not and has no menu, it can.
pub record Passes (bs waits : List ℕ) (b : Branch) (name code e : ℕ) (r : Bool) : Type 0 where
  pub unusable : r ≡ true → (code_fits bs code name && open_to bs waits b e) ≡ false
  pub usable : r ≡ false → code ≤ 1000 → (code_fits bs code name && open_to bs waits b e) ≡ true

-- line x is at hand
abbrev pub line_at_hand : Branch → ℕ → Bool
line_at_hand b x = line_in (lines_of b.strict) x || line_in (lines_of b.lax) x

-- The lines at hand from line i on, as a word of the machine.
pub record HandFrom (b : Branch) (i : ℕ) (hand : LineWord) : Type 0 where
  pub fits : hand.bits < 2 ^ 64
  pub line : (x : ℕ) → line_in hand x ≡ (line_at_hand b x && not (ltb x i))

-- What an entry in scope is that is not passed.
pub record Reached (bs waits heads : List ℕ) (b : Branch) (name e : ℕ) : Type 0 where
  pub inside : e < b.count
  pub takable : get_or heads e 0 ≤ 1000 → takable_by bs waits heads b name e ≡ true

-- Of the entries from the given one on and below the end, e is the least that is not passed; those before it cannot be used.
pub record ReachesAt (bs waits heads : List ℕ) (b : Branch) (name from end e : ℕ) : Type 0 where
  pub onward : from ≤ e
  pub ends : e < end
  pub reached : Reached bs waits heads b name e
  pub passed : (x : ℕ) → from ≤ x → x < e → takable_by bs waits heads b name x ≡ false

-- none of the entries from one on and below the end can be used
abbrev pub NoneTakable : List ℕ → List ℕ → List ℕ → Branch → ℕ → ℕ → ℕ → Type 0
NoneTakable bs waits heads b name from end = (x : ℕ) → from ≤ x → x < end → takable_by bs waits heads b name x ≡ false

unfoldable pub Reaches : List ℕ → List ℕ → List ℕ → Branch → ℕ → ℕ → ℕ → Option ℕ → Type 0
Reaches bs waits heads b name from end (Some e) = ReachesAt bs waits heads b name from end e
Reaches bs waits heads b name from end None = NoneTakable bs waits heads b name from end

-- What the least usable entry from the given one on is.
pub record SeeksAt (bs waits heads : List ℕ) (b : Branch) (name from e : ℕ) : Type 0 where
  pub onward : from ≤ e
  pub inside : e < b.count
  pub takable : takable_by bs waits heads b name e ≡ true
  pub passed : (x : ℕ) → from ≤ x → x < e → takable_by bs waits heads b name x ≡ false

unfoldable pub Seeks : List ℕ → List ℕ → List ℕ → Branch → ℕ → ℕ → Option ℕ → Type 0
Seeks bs waits heads b name from (Some e) = SeeksAt bs waits heads b name from e
Seeks bs waits heads b name from None = NoneTakable bs waits heads b name from b.count

-- The floor at a place of the tape: the given steps from there on, and the least entry after them.
unfoldable pub given_at : Floor → ℕ → List ℕ → List ℕ
given_at f at tape = drop at (take f.fixed tape)

unfoldable pub from_at : Floor → ℕ → ℕ
from_at f at = cond (leb at f.fixed) f.from 0

-- the least entry to be taken at a place: the given step, or the least after the given ones
unfoldable pub first_at : Floor → ℕ → List ℕ → ℕ
first_at f at tape = cond (ltb at f.fixed) (byte_at tape at) (from_at f at)

pub record FirstEntry (f : Floor) (at : ℕ) (tape : List ℕ) (first : ℕ) : Type 0 where
  pub is : first ≡ first_at f at tape
  pub low : at < f.fixed → first < 256

-- the entry e is a given step, where `first` is the least to be taken; no floor bears on the place
unfoldable pub keeps_by : Floor → ℕ → ℕ → ℕ → Bool
keeps_by f at first e = cond (ltb at f.fixed) (eqb e first) false

unfoldable pub open_by : Floor → ℕ → ℕ → Bool
open_by f at first = cond (ltb at f.fixed) false (eqb first 0)

-- what a dead end answers: that the search gives up, or that nothing is found
unfoldable pub gives : Bool → Outcome
gives true = IsTired
gives false = IsStuck
