-- What entering a part with a scope or window of its own asks and leaves.
use Rattle.std.specs.Prelude.{ℕ, ◌+◌, ◌*◌, ◌-◌, ◌≤◌, ◌<◌, ◌≡◌, true, false, List, length, set}
use Rattle.lines.specs.Set.{member}
use Rattle.card.specs.Format.{rule_count, node_count, kind_at, left_at, right_at}
use Rattle.card.specs.Fault.{Sound, clause_part}
use Rattle.entries.specs.Inner.Entries.{Headed}
use Rattle.branch.specs.declared.Branch.{Branch}
use Rattle.branch.specs.declared.Way.{Way}
use Rattle.branch.specs.Inner.Values.{Counted, lent_b, without_w}

-- the item of a clause that is lent next
abbrev pub next_item : List ℕ → Branch → ℕ
next_item bs b = b.count - rule_count bs

-- what is asked
pub record Opening (bs nodes heads : List ℕ) (goal n : ℕ) (b : Branch) : Type 0 where
  pub sound : Sound bs
  pub node_room : length nodes ≡ 256
  pub head_room : length heads ≡ 256
  pub here : goal < node_count bs
  pub kind : kind_at bs goal ≡ 6
  pub clause : clause_part bs (node_count bs) (left_at bs goal) ≡ true
  pub nested : n < 32
  pub few : b.count < 256
  pub scoped : rule_count bs ≤ b.count
  pub item : next_item bs b < 192
  pub free : member b.strict (next_item bs b) ≡ false
  pub counted : Counted b

-- The goal inside alone on an agenda, and the branch in which it is met, by the part's kind.
pub data InsideOpened (bs nodes nodes' heads heads' codes codes' : List ℕ) (goal n : ℕ) (b c : Branch) : Type 0 where
  lends : kind_at bs goal ≡ 6 → nodes' ≡ set nodes b.count (left_at bs goal) → Headed bs heads heads' b.count (left_at bs goal)
      → codes' ≡ set codes 0 (right_at bs goal * 32 + n) → c ≡ lent_b b (next_item bs b)
      → InsideOpened bs nodes nodes' heads heads' codes codes' goal n b c

-- what a way found inside is outside
unfoldable pub outside_w : List ℕ → ℕ → ℕ → Way → Way
outside_w bs goal count w = without_w w (count - rule_count bs)
