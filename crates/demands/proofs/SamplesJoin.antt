-- Two small cards are joined to the card that docs/FORMAT.md draws, and each of its lines comes from the card that it says.
use Prim.Native.Nat.{ℕ, ◌≤◌}
use mathlib.Core.Path.{◌≡◌, refl, ◌∙◌, ap, subst}
use mathlib.Core.List.{List, [], ◌∷◌, ◌++◌}
use lib.ListN.{length, drop}
use borrow.Author.Tests.{le-ltb}
use Rattle.card.specs.Format.{grow}
use Rattle.card.specs.Kinds.{kinds, kind_of}
use Rattle.card.specs.Verdict.{refuse, ◌▹◌, first_of, sheet}
use Rattle.card.specs.Fault.{first_fault, front_fault, in_range, given, is_goal, is_clause, goal_part, clause_part, fits_field, well_built, part_height}
use Rattle.card.specs.Fault.{height_step, height_at, node_fault, goal_fault, rule_fault, line_fault, line_good}
use Rattle.card.proofs.FaultsInOrder.{refuse_false}
use Rattle.joined.specs.Joined.{overfull, joined_height}
use Rattle.joined.specs.Sample.{first_sample, second_sample, joined_sample}
use Rattle.joined.proofs.SampleJoined.{sample_joined}
use Rattle.benched.specs.Benched.{BenchVerdict, fine, neither, first, second, about, ◌▸◌, bench_fault, said_of}
use Rattle.benched.proofs.BenchChecked.{after_fine}
use Rattle.bench.specs.Bench.{joined, join_fault, Joining, is_joined, held, source_fault, holder, source_of, part_of}

-- the whole check of both cards; to unfold this is to unfold all of it
run : List ℕ → List ℕ → BenchVerdict
unfolding first_fault front_fault in_range kinds kind_of given is_goal is_clause goal_part clause_part fits_field well_built part_height height_step
    height_at node_fault goal_fault rule_fault line_fault line_good refuse ◌▹◌ first_of grow overfull joined_height about ◌▸◌ bench_fault
run = bench_fault

samples_pass : bench_fault first_sample second_sample ≡ fine
unfolding run
samples_pass = refl

-- THEOREM. They are joined to 64 bytes.
pub samples_join : (old : List ℕ) → 64 ≤ length old → Joining first_sample second_sample old (joined 64) (joined_sample ++ drop 64 old)
unfolding join_fault about
samples_join old h =
    subst (λ (c : List ℕ). Joining first_sample second_sample old (joined 64) (c ++ drop 64 old)) sample_joined
    (is_joined (after_fine (bench_fault first_sample second_sample) _ samples_pass
    ∙ ap (about neither) (refuse_false _ 10 sheet (le-ltb (length old) 64 h))))

-- THEOREM. Line 0 is the first card's, at byte 21, and line 1 the second's, at byte 43.
pub samples_source : (source_of first_sample second_sample 0 ≡ held first 21) × (source_of first_sample second_sample 1 ≡ held second 43)
unfolding run source_of source_fault said_of holder
samples_source = (refl, refl)

pub samples_part : part_of first_sample second_sample (held second 43) ≡ 0x00 ∷ 0x03 ∷ 0x01 ∷ []
unfolding part_of
samples_part = refl
