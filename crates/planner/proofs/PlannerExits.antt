-- What the checks' and the search's answers show of the outcome.
use Rattle.std.proofs.Common.{ℕ, List, Some, None, refl}
use Rattle.calculus.specs.Job.{DerivableWithin}
use Rattle.card.specs.Decode.{job_of}
use Rattle.search.specs.Inner.Found.{FirstOn, Finds}

module _ (bs tape : List ℕ) where
  pub list_found : (k : ℕ) → Finds bs tape (Some k) → FirstOn bs tape k
  unfolding Finds
  list_found k h = h

  pub none_found : Finds bs tape None → DerivableWithin (job_of bs) → ⊥
  unfolding Finds
  none_found h d = h _ (record { derivation = d.derivation; limited = d.limited; list = refl })
