-- Laws of joining: its outcome where a check stops it, and where none does.
use Rattle.std.proofs.Common.{◌≡◌, ℕ, List, ◌++◌, length, drop, Err, sym, subst}
use Rattle.joined.specs.Joined.{joined_length, joined_card}
use Rattle.benched.specs.declared.BenchRefusal.{BenchRefusal}
use Rattle.benched.specs.Benched.{fine, told_bench}
use Rattle.bench.specs.Bench.{joined, join_fault, Joining, is_refused, is_joined, told_join}

module _ (a b old : List ℕ) where
  -- a check that stops it is its answer, and the buffer is as it was
  pub join_stopped : (r : BenchRefusal) → told_bench (Err r) ≡ join_fault a b (length old) → Joining a b old (told_join (Err r)) old
  unfolding told_bench told_join
  join_stopped r t = is_refused (sym t)

  -- none does, and the joined card is written
  pub join_written : {n : ℕ} {new : List ℕ} → join_fault a b (length old) ≡ fine → n ≡ joined_length a b
      → new ≡ joined_card a b ++ drop (joined_length a b) old → Joining a b old (joined n) new
  join_written {n} {new} e l q =
      subst (λ (s : List ℕ). Joining a b old (joined n) s) (sym q)
      (subst (λ k. Joining a b old (joined k) (joined_card a b ++ drop (joined_length a b) old)) (sym l) (is_joined e))
