-- What marks 1 and 3 mean: surely used, and in the list but not surely; and of the runs of a derivation.
use Prim.Native.Nat.{ℕ, ◌+◌, ◌<◌}
use native.Mathlib.Omega.{arith}
use mathlib.Core.Path.{◌≡◌, refl, ap}
use mathlib.Core.Logic.{◌↔◌}
use mathlib.Core.Bool.{Bool, true, false, cond}
use mathlib.Core.List.{List}
use lib.Dec.{eqb}
use Rattle.calculus.specs.Derivation.{Entry, linear_at}
use Rattle.calculus.specs.Steps.{steps, surely, stands}
use Rattle.calculus.specs.Job.{Derivation}
use Rattle.calculus.specs.Runs.{RunWith}
use Rattle.calculus.proofs.SurelyByList.{surely_stands}
use Rattle.calculus.proofs.SurelyMeans.{stands_means, misses}
use Rattle.card.specs.Format.{rule_count, line_count, line_byte}
use Rattle.card.specs.Fault.{Sound}
use Rattle.card.specs.Decode.{job_of, line_entry}
use Rattle.card.specs.Sheet.{mark_of}
use Rattle.card.proofs.CardChecked.{sound_front}
use Rattle.card.proofs.NodesDecoded.{scope_size, line_at}

module _ (s u m : Bool) where
  -- the mark of a line that stands in the list or not, is surely used or not, and is must or not
  abbrev marked : ℕ
  marked = cond s (cond u 1 3) (cond m 2 0)

one : (s u m : Bool) → marked s u m ≡ 1 → u ≡ true
one true true m e = refl
one true false m e = absurd (omega (arith, e))
one false u true e = absurd (omega (arith, e))
one false u false e = absurd (omega (arith, e))

three : (s u m : Bool) → marked s u m ≡ 3 → (s ≡ true) × (u ≡ false)
three true true m e = absurd (omega (arith, e))
three true false m e = (refl, refl)
three false u true e = absurd (omega (arith, e))
three false u false e = absurd (omega (arith, e))

module _ (bs : List ℕ) (d : Derivation (job_of bs)) (i : ℕ) where
  abbrev listed : Bool
  listed = stands (rule_count bs + i) (steps d.tree)

  abbrev sure : Bool
  sure = surely d.tree (rule_count bs + i)

  abbrev must : Bool
  must = eqb (line_byte bs i) 1

  pub mark_one : (mark_of bs (surely d.tree) (steps d.tree) i ≡ 1) ↔ (surely d.tree (rule_count bs + i) ≡ true)
  unfolding mark_of
  mark_one = (one listed sure must, λ u. rw (surely_stands d.tree (rule_count bs + i) u, u) refl)

  pub mark_three : (mark_of bs (surely d.tree) (steps d.tree) i ≡ 3)
      ↔ ((stands (rule_count bs + i) (steps d.tree) ≡ true) × (surely d.tree (rule_count bs + i) ≡ false))
  unfolding mark_of
  mark_three = (three listed sure must, λ h. rw (h.0, h.1) refl)

pub one_way : {bs : List ℕ} → Sound bs → (d : Derivation (job_of bs)) (i : ℕ) → i < line_count bs
    → stands (rule_count bs + i) (steps d.tree) ≡ true → surely d.tree (rule_count bs + i) ≡ false
    → RunWith d.tree (rule_count bs + i) true × RunWith d.tree (rule_count bs + i) false
unfolding linear_at line_entry
one_way {bs} s d i h t u =
    let f = sound_front bs s in (
      stands_means (rule_count bs + i) (omega (arith, f.rules, f.lines)) (omega (arith, scope_size bs))
          (ap (λ (x : Entry). x.linear) (line_at bs i h)) d.tree t,
      misses d.tree (rule_count bs + i) u,
    )
