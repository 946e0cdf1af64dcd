-- `about` meets its contract: a refusal is told with the card, and a check that finds nothing finds nothing.
use Rattle.std.proofs.Common.{◌≡◌, Result, Ok, Err, Option, refl, rules}
use Rattle.std.specs.Prelude.{⊤, MatchResult}
use Rattle.std.specs.Result.{IsErrAnd}
use Rattle.std.proofs.lemmas.Result.{err_from_is_err_and}
use Rattle.card.specs.declared.faults.Refusal.{Refusal}
use Rattle.card.specs.Verdict.{told}
use Rattle.benched.specs.declared.Which.{Which}
use Rattle.benched.specs.declared.BenchRefusal.{BenchRefusal}
use Rattle.benched.specs.Benched.{about, owner_of, told_bench}
use Rattle.benched.proofs.about.Goals as goal

mapped : (o : Option Which) (x : Result ⊤ Refusal) (y : Result ⊤ BenchRefusal)
    → MatchResult x (λ t. y ≡ Ok t) (λ e. IsErrAnd y (λ r. r ≡ record { card = o; refusal = e })) → told_bench y ≡ about (owner_of o) (told x)
unfolding told_bench about told
mapped o (Ok t) y h = rw h refl
mapped o (Err e) y h = let p = err_from_is_err_and y h in rw (p.1, p.2) refl

pub returns : goal.returns
returns c = search (rules, mapped)
