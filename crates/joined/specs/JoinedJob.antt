-- What the joined card asks, by what the two cards ask (02, #101).
use Rattle.std.specs.Prelude.{ℕ, ◌+◌, ◌<◌, ◌≤◌, max, min, ◌≡◌, Bool, true, cond, List, ◌++◌, ltb}
use Rattle.calculus.specs.Formula.{tensor}
use Rattle.calculus.specs.Items.{Items, ◌∪◌}
use Rattle.calculus.specs.Derivation.{Entry}
use Rattle.card.specs.Format.{rule_count, line_count, listing}
use Rattle.card.specs.Decode.{rule_entry, line_entry, job_of}

-- a card's rules and lines, as entries of its scope
abbrev pub rule_entries : List ℕ → List Entry
rule_entries bs = listing (rule_count bs) (rule_entry bs)

abbrev pub line_entries : List ℕ → List Entry
line_entries bs = listing (line_count bs) (line_entry bs)

-- line by line, whether it is one of these items
abbrev pub lines_in : List ℕ → Items → List Bool
lines_in bs I = listing (line_count bs) (λ i. I (rule_count bs + i))

-- The job of the card c: rules, lines, must and may lines of the first, each followed by those of the second, formulas and not node numbers;
-- no must or may line but these; the goal both of the two; "Limits: d the greater, s the sum or 255 if lower."
pub record JobJoined (a b c : List ℕ) : Type 0 where
  pub entries : (job_of c).scope.entries ≡ rule_entries a ++ rule_entries b ++ (line_entries a ++ line_entries b)
  pub fits : (job_of c).scope.fits ≡ (job_of a).scope.fits
  pub strict : lines_in c (job_of c).strict ≡ lines_in a (job_of a).strict ++ lines_in b (job_of b).strict
  pub lax : lines_in c (job_of c).lax ≡ lines_in a (job_of a).lax ++ lines_in b (job_of b).lax
  pub lines_only : (e : ℕ) → ((job_of c).strict ∪ (job_of c).lax) e ≡ true → (rule_count c ≤ e) × (e < rule_count c + line_count c)
  pub goal : (job_of c).goal ≡ tensor (job_of a).goal (job_of b).goal
  pub depth : (job_of c).depth ≡ max (job_of a).depth (job_of b).depth
  pub length_limit : (job_of c).length_limit ≡ min ((job_of a).length_limit + (job_of b).length_limit) 255

module _ (a b : List ℕ) where
  -- The joined number of an entry of the first card: a rule keeps its number, a line stands behind the second's rules, a lent clause
  -- behind its lines too.
  unfoldable pub first_entry : ℕ → ℕ
  first_entry e =
      cond (ltb e (rule_count a)) e (cond (ltb e (rule_count a + line_count a)) (e + rule_count b) (e + (rule_count b + line_count b)))

  -- of an entry of the second: a rule stands behind the first's rules, a line or lent clause behind its lines too
  unfoldable pub second_entry : ℕ → ℕ
  second_entry e = cond (ltb e (rule_count b)) (e + rule_count a) (e + (rule_count a + line_count a))
