-- What an unrefused join wrote: a sound card that asks for both jobs, and is planned where both cards have lists that together fit 255 steps.
use Prim.Native.Nat.{ℕ, ◌+◌, ◌≤◌}
use mathlib.Core.Path.{◌≡◌, sym, subst}
use mathlib.Core.Bool.{false}
use mathlib.Core.List.{List, ◌++◌, map}
use lib.ListN.{length, take, drop}
use lib.Seq.{take_at}
use Rattle.calculus.specs.Steps.{renumber}
use Rattle.calculus.specs.Job.{Listed}
use Rattle.card.specs.Fault.{Sound}
use Rattle.card.specs.Decode.{job_of}
use Rattle.planning.specs.Plan.{PlanVerdict, planned, room_of, Planning}
use Rattle.planner.proofs.PlannedExactly.{planned_exactly}
use Rattle.joined.specs.Joined.{joined_card, joined_length, overfull}
use Rattle.joined.specs.JoinedJob.{JobJoined, first_entry, second_entry}
use Rattle.joined.proofs.JoinedBytes.{joined_long}
use Rattle.joined.proofs.JoinedSound.{joined_sound}
use Rattle.joined.proofs.JoinedAsks as JoinedAsks
use Rattle.joined.proofs.JoinedLists as JoinedLists
use Rattle.benched.specs.Benched.{fine, bench_fault}
use Rattle.benched.proofs.BenchChecked.{fine_left, first_sound, second_sound, fits_on_one}
use Rattle.bench.specs.Bench.{joined, join_fault, Joining, is_joined}

-- the cards of a join that is not refused
both_pass : {a b old new : List ℕ} {n : ℕ} → Joining a b old (joined n) new → bench_fault a b ≡ fine
unfolding join_fault
both_pass (is_joined e) = fine_left _ _ e

-- THEOREM. What an unrefused join wrote is the joined card, at the buffer's start.
pub joined_bytes : {a b old new : List ℕ} {n : ℕ} → Joining a b old (joined n) new → take n new ≡ joined_card a b
joined_bytes {a} {b} {old} (is_joined e) = take_at (joined_card a b) (drop (joined_length a b) old) (joined_length a b) (joined_long a b)

module _ {a b old new : List ℕ} {n : ℕ} (j : Joining a b old (joined n) new) where
  first : Sound a
  first = first_sound a b (both_pass j)

  second : Sound b
  second = second_sound a b (both_pass j)

  fits : overfull a b ≡ false
  fits = fits_on_one a b (both_pass j)

  -- THEOREM. It is sound.
  pub joined_is_sound : Sound (take n new)
  joined_is_sound = subst Sound (sym (joined_bytes j)) (joined_sound a b first second fits)

  -- THEOREM. Its job is both jobs.
  pub joined_asks : JobJoined a b (take n new)
  joined_asks = subst (JobJoined a b) (sym (joined_bytes j)) (JoinedAsks.joined_asks a b first second fits)

  module _ {l m : List ℕ} (x : Listed (job_of a) l) (y : Listed (job_of b) m) (h : length l + length m ≤ 255) where
    -- THEOREM. A list of each card, its entries renumbered, one behind the other, is a list of it.
    pub joined_lists : Listed (job_of (take n new)) (map (renumber (first_entry a b)) l ++ map (renumber (second_entry a b)) m)
    joined_lists =
        subst (λ (bs : List ℕ). Listed (job_of bs) (map (renumber (first_entry a b)) l ++ map (renumber (second_entry a b)) m))
        (sym (joined_bytes j)) (JoinedLists.joined_listed a b first second fits x y h)

    -- THEOREM. With room for its sheet, the planner plans it.
    pub joined_is_planned : {sheet after : List ℕ} {v : PlanVerdict} → room_of (take n new) ≤ length sheet
        → Planning (take n new) sheet v after → (k : ℕ) × (v ≡ planned k)
    joined_is_planned room p =
        (planned_exactly joined_is_sound room p).1
        (record { derivation = joined_lists.derivation; limited = joined_lists.limited })
