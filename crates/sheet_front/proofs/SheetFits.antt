-- Laws of the sheet's front: what holds where no test of 12 fails.
use Prim.Native.Nat.{ℕ, ◌+◌}
use native.Mathlib.Omega.{arith}
use mathlib.Core.Path.{◌≡◌, refl}
use mathlib.Core.Bool.{Bool, true, ◌&&◌}
use mathlib.Core.List.{List}
use lib.ListN.{length, drop, length-drop}
use lib.Seq.{length-take-le}
use lib.Dec.{leb, eqb}
use borrow.Author.Tests.{le-leb, eq-eqb, leb-true, eqb-true, not-false}
use Rattle.card.specs.Format.{length_field, version, line_count, step_limit}
use Rattle.card.specs.Verdict.{sound}
use Rattle.card.proofs.FaultsInOrder.{refuse_false, not_applied}
use Rattle.card.proofs.FrontChecked.{both_left, both_right}
use Rattle.sheet_front.specs.Front.{step_count, mark_count, steps_of, sheet_fits, sheet_fault}
use Rattle.sheet_front.specs.Inner.Fitting.{Fitting}

module _ (bs sh : List ℕ) where
  pub all_fit : Fitting bs sh → true ≡ sheet_fits bs sh
  unfolding sheet_fits
  all_fit f =
      simp (
        le-leb _ _ f.front,
        eq-eqb _ _ f.whole,
        eq-eqb _ _ f.first,
        eq-eqb _ _ f.lines,
        eq-eqb _ _ f.long,
        le-leb _ _ f.few,
      )

  -- 12 does not apply to a sheet that fits
  pub sheet_fits_lem : sheet_fits bs sh ≡ true → sheet_fault bs sh ≡ sound
  unfolding sheet_fault
  sheet_fits_lem e = refuse_false _ _ _ (rw e refl)

  pub fitting : sheet_fault bs sh ≡ sound → Fitting bs sh
  unfolding sheet_fault sheet_fits
  fitting e =
      let fits = not-false _ (not_applied _ _ _ e) in
      let t₅ : Bool = eqb (5 + step_count sh + mark_count sh) (length sh) && leb (step_count sh) (step_limit bs) in
      let t₄ : Bool = eqb (mark_count sh) (line_count bs) && t₅ in
      let t₃ : Bool = eqb (version sh) 1 && t₄ in
      let t₂ : Bool = eqb (length_field sh) (length sh) && t₃ in
      let r₂ = both_right (leb 5 (length sh)) t₂ fits in
      let r₃ = both_right (eqb (length_field sh) (length sh)) t₃ r₂ in
      let r₄ = both_right (eqb (version sh) 1) t₄ r₃ in
      let r₅ = both_right (eqb (mark_count sh) (line_count bs)) t₅ r₄ in
      record {
        front = leb-true _ _ (both_left (leb 5 (length sh)) t₂ fits);
        whole = eqb-true _ _ (both_left (eqb (length_field sh) (length sh)) t₃ r₂);
        first = eqb-true _ _ (both_left (eqb (version sh) 1) t₄ r₃);
        lines = eqb-true _ _ (both_left (eqb (mark_count sh) (line_count bs)) t₅ r₄);
        long = eqb-true _ _ (both_left (eqb (5 + step_count sh + mark_count sh) (length sh)) (leb (step_count sh) (step_limit bs)) r₅);
        few = leb-true _ _ (both_right (eqb (5 + step_count sh + mark_count sh) (length sh)) (leb (step_count sh) (step_limit bs)) r₅);
      }

-- a sheet that fits has as many steps as it says
pub steps_length : {bs sh : List ℕ} → Fitting bs sh → length (steps_of sh) ≡ step_count sh
steps_length {sh} f = let long = f.long in length-take-le (step_count sh) (drop 5 sh) (simp length-drop (omega arith))
