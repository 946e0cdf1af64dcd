-- What both calls over two cards check first (02, #101), told with which card.
use Rattle.std.specs.Prelude.{ℕ, List, Option, None, Some, Result, Ok, Err, ⊤}
use Rattle.card.specs.Verdict.{Verdict, Where, sound, fault, card, number_of, where_of, refuse}
use Rattle.card.specs.Fault.{first_fault}
use Rattle.joined.specs.Joined.{overfull}
use Rattle.benched.specs.declared.Which.{Which}
use Rattle.benched.specs.declared.Which.TheVariants.{First, Second}
use Rattle.benched.specs.declared.BenchRefusal.{BenchRefusal}

-- "told with which card": the card that a refusal is about
pub data Owner : Type 0 where
  neither first second : Owner

-- What checks find: nothing, or a number with its place, told with which card.
pub data BenchVerdict : Type 0 where
  fine : BenchVerdict
  stopped : Owner → ℕ → Where → BenchVerdict

-- a check, told with which card
unfoldable pub about : Owner → Verdict → BenchVerdict
about o sound = fine
about o (fault n w) = stopped o n w

-- "Each check is taken apart before the next begins ..; the first that applies ends the call."
infixr 30 ◌▸◌
unfoldable pub ◌▸◌ : BenchVerdict → BenchVerdict → BenchVerdict
fine ▸ v = v
stopped o n w ▸ v = stopped o n w

-- "Errors: each card's own 1 to 9, first card first, told with which card; 15, place card, if joined P, T or N passes its limit or the new goal
-- is higher than 8"
unfoldable pub bench_fault : List ℕ → List ℕ → BenchVerdict
bench_fault a b = about first (first_fault a) ▸ about second (first_fault b) ▸ about neither (refuse (overfull a b) 15 card)

-- a call's own word where nothing is found, else the refusal
unfoldable pub said_of : {A : Type 0} → A → (Owner → ℕ → Where → A) → BenchVerdict → A
said_of x refused fine = x
said_of x refused (stopped o n w) = refused o n w

-- 02's card of a refusal that is told with this one, and 02's card, number and place of the refusal that the checks answer
unfoldable pub owner_of : Option Which → Owner
owner_of None = neither
owner_of (Some First) = first
owner_of (Some Second) = second

unfoldable pub told_bench : Result ⊤ BenchRefusal → BenchVerdict
told_bench (Ok u) = fine
told_bench (Err r) = stopped (owner_of r.card) (number_of r.refusal.fault) (where_of r.refusal.place)
