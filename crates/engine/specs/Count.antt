-- 02, #104: "at every goal met the count in the branch's record is what a scan of its open items finds".
use Rattle.std.specs.Prelude.{ℕ, ◌-◌, ◌≡◌, List}
use Rattle.card.specs.Format.{rule_count}
use Rattle.lines.specs.Set.{member}
use Rattle.lines.specs.Count.{number}
use Rattle.branch.specs.declared.Branch.{Branch}

-- The open items that have to be used are those of the branch's strict set. Item i is the entry behind the rules with the number P + i: so the entries in
-- scope are scanned.
pub record CountIsScan (bs : List ℕ) (b : Branch) : Type 0 where
  pub scan : b.due ≡ number (member b.strict) (b.count - rule_count bs)
