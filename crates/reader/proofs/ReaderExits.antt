-- What each way out of the reader's code shows of the outcome.
use Rattle.std.proofs.Common.{ℕ, zero, suc, ◌+◌, ◌-◌, ◌≤◌, ◌<◌, ◌≡◌, refl, sym, ap, ap₂, ◌∙◌, not, List, length, take, drop, Ok, Err, arith}
use Rattle.std.specs.Bool.{⊤}
use lib.Dec.{eqb}
use lib.ListN.{length-drop}
use Rattle.std.proofs.lemmas.List.{length-take}
use lib.Seq.{take_all}
use Rattle.calculus.specs.Job.{Listed, surely_used}
use Rattle.card.specs.declared.faults.Refusal.{Refusal}
use Rattle.card.specs.Format.{byte_at, line_count}
use Rattle.card.specs.Verdict.{Verdict, Where, sound, fault, mark, refuse, ◌▹◌, first_of, told, steps}
use Rattle.card.specs.Fault.{Sound}
use Rattle.card.specs.Decode.{job_of}
use Rattle.card.proofs.MarksByLines.{mark_same}
use Rattle.lines.specs.declared.LineWord.{LineWord}
use Rattle.scope.specs.Inner.Sets.{word_items, SureLines}
use Rattle.scope.proofs.SetsAreItems.{word_lines}
use Rattle.trace.specs.Inner.Listing.{told_followed, Following, strays, divides_not, follows, SurelyFollows}
use Rattle.sheet_front.specs.Front.{step_count, steps_of, marks_in, sheet_fault}
use Rattle.sheet_front.proofs.SheetFits.{fitting, steps_length}
use Rattle.marks.specs.Marks.{mark_fault}
use Rattle.reader.specs.Read.{refused, told_read, marks_fault, Reading, misfit, astray, undivided, wrong_mark, accepted_as}

first_same : (n : ℕ) {f g : ℕ → Verdict} → ((i : ℕ) → i < n → f i ≡ g i) → first_of n f ≡ first_of n g
unfolding first_of
first_same zero h = refl
first_same (suc n) h = ap₂ ◌▹◌ (first_same n (λ i k. h i (omega arith))) (h n (omega arith))

-- 12
pub found_misfit : (bs sh : List ℕ) (r : Refusal) → Sound bs → told (Err r) ≡ sheet_fault bs sh → Reading bs sh (told_read (Err r))
unfolding told told_read
found_misfit bs sh r s e = misfit s (sym e)

-- A sheet that fits, read with its k.
module _ (bs sh : List ℕ) (k : ℕ) (s : Sound bs) (fits : sheet_fault bs sh ≡ sound) (count : k ≡ step_count sh) where
  -- what is lent of the sheet from 5 on: its steps
  lent_steps : take (5 + k - 5) (drop 5 sh) ≡ steps_of sh
  lent_steps = let e : 5 + k - 5 ≡ step_count sh = omega arith in ap (λ (n : ℕ). take n (drop 5 sh)) e

  pub steps_room : k ≤ length (take (5 + k - 5) (drop 5 sh))
  steps_room = let f = fitting bs sh fits in rw lent_steps (omega (arith, steps_length f))

  -- and from 5 + k on: its marks
  lent_marks : take (length sh - (5 + k)) (drop (5 + k) sh) ≡ marks_in sh
  lent_marks =
      take_all (length sh - (5 + k)) (drop (5 + k) sh) (simp length-drop (omega arith))
      ∙ ap (λ (n : ℕ). drop (5 + n) sh) count

  pub marks_room : line_count bs ≤ length (take (length sh - (5 + k)) (drop (5 + k) sh))
  marks_room = let f = fitting bs sh fits in rw lent_marks (simp length-drop (omega arith))

  -- the walk goes along all of the lent steps
  walked_steps : take k (take (5 + k - 5) (drop 5 sh)) ≡ steps_of sh
  walked_steps = let e : 5 + k - 5 ≡ k = omega arith in take_all k (take (5 + k - 5) (drop 5 sh)) (simp length-take (omega arith)) ∙ lent_steps

  -- 13, 17, 18 and 19, of the lent steps
  pub found_wrong : (r : Refusal) → Following bs (take k (take (5 + k - 5) (drop 5 sh))) (told_followed (Err r)) → Reading bs sh (told_read (Err r))
  unfolding told_followed told_read
  found_wrong r h = wrong (rw walked_steps at h) refl
    where
      wrong : {v : Verdict} {m : ℕ} {w : Where} → Following bs (steps_of sh) v → v ≡ fault m w → Reading bs sh (refused m w)
      wrong (strays q) p = astray s fits (q ∙ p)
      wrong {m} {w} (divides_not q d) p =
          let x : ◌≡◌ {A = ℕ} 19 m = cc in
          let y : steps ≡ w = cc in
          rw (sym x, sym y) (undivided s fits q d)
      wrong (follows x) p = cc

  pub found_list : (u : LineWord) → Following bs (take k (take (5 + k - 5) (drop 5 sh))) (told_followed (Ok u)) → Listed (job_of bs) (steps_of sh)
  unfolding told_followed
  found_list u h = listed (rw walked_steps at h) refl
    where
      listed : {v : Verdict} → Following bs (steps_of sh) v → v ≡ sound → Listed (job_of bs) (steps_of sh)
      listed (strays q) p = cc
      listed (divides_not q n) p = cc
      listed (follows x) p = x

  pub found_sure : (u : LineWord) → SurelyFollows bs (take k (take (5 + k - 5) (drop 5 sh))) (Ok u) → SureLines bs (steps_of sh) u
  unfolding SurelyFollows
  found_sure u h = rw walked_steps at h

  -- 14, of the lent steps and marks
  module _ {sure : LineWord} (x : Listed (job_of bs) (steps_of sh)) (g : SureLines bs (steps_of sh) sure) {v : Verdict}
      (t : v ≡ first_of (line_count bs) (mark_fault bs (word_items bs sure) (take (5 + k - 5) (drop 5 sh))
      (take (length sh - (5 + k)) (drop (5 + k) sh)))) where
    told_marks : v ≡ marks_fault bs (surely_used x) sh
    unfolding marks_fault mark_fault
    told_marks =
        t ∙ rw (lent_steps, lent_marks)
        (first_same (line_count bs) (λ i h. ap (λ m. refuse (not (eqb (byte_at (marks_in sh) i) m)) 14 (mark i))
        (mark_same bs (steps_of sh) (word_items bs sure) (surely_used x) (word_lines bs (steps_of sh) g x) i h)))

    pub found_mark : (r : Refusal) → v ≡ told (Err r) → Reading bs sh (told_read (Err r))
    unfolding told told_read
    found_mark r e = wrong_mark s fits x (sym told_marks ∙ e)

    pub found_right : (u : ⊤) → v ≡ told (Ok u) → Reading bs sh (told_read (Ok k))
    unfolding told told_read
    found_right u e =
        let long : length (steps_of sh) ≡ k = steps_length (fitting bs sh fits) ∙ sym count in
        rw long at (accepted_as s fits x (sym told_marks ∙ e))
