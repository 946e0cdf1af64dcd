-- What 01 asks of the reader's outcomes, for every card and sheet. The contract of `read` says that its answer is an outcome; these
-- theorems say what follows.
use Prim.Native.Nat.{ℕ, zero, suc, ◌+◌, ◌*◌, ◌/◌, ◌%◌, ◌≤◌, ◌<◌}
use native.Mathlib.Omega.{arith}
use mathlib.Core.Path.{◌≡◌, refl, sym, ap, subst, ◌∙◌}
use mathlib.Core.Logic.{inl, inr}
use mathlib.Core.List.{List, [], ◌∷◌, ◌++◌}
use lib.ListN.{length, get_or, drop, length-append, length-drop, take-append-drop}
use lib.Seq.{take-append_seam, drop-append_seam, drop-drop, ext_get_or}
use borrow.Author.Tests.{eqb-true, not-false}
use Rattle.calculus.specs.Items.{Items}
use Rattle.calculus.specs.Job.{Listed, First, surely_used}
use Rattle.calculus.specs.Walk.{ItemsDivide}
use Rattle.calculus.proofs.SurelyByList.{listed_surely}
use Rattle.card.specs.Format.{byte_at, Bytes, line_count, step_limit, listing}
use Rattle.card.specs.Verdict.{Verdict, Where, sound, first_of}
use Rattle.card.specs.Fault.{Placed, Sound}
use Rattle.card.specs.Decode.{job_of}
use Rattle.card.specs.Sheet.{mark_of, marks_of, word, sheet_of}
use Rattle.card.proofs.TablesGrow.{length_listing, listing_at}
use Rattle.card.proofs.FaultsInOrder.{not_applied, first_each, first_goes, sound_or_faulty, same_fault}
use Rattle.card.proofs.NodesDecoded.{listed_short}
use Rattle.card.proofs.FaultsInRange.{Tells, tells_refuse, tells_first, fault_in_range}
use Rattle.sheet_front.specs.Front.{step_count, steps_of, marks_in, sheet_fault}
use Rattle.sheet_front.specs.Inner.Fitting.{Fitting}
use Rattle.marks.specs.Marks.{mark_fault}
use Rattle.trace.specs.Steps.{steps_fault}
use Rattle.trace.proofs.StepsMean.{none_found, steps_placed}
use Rattle.sheet_front.proofs.SheetFits.{fitting, all_fit, sheet_fits_lem, steps_length}
use Rattle.marks.proofs.LinesMarked.{mark_right}
use Rattle.reader.specs.Read.{ReadVerdict, accepted, refused, marks_fault, Reading, faulty, misfit, astray, undivided, wrong_mark}
use Rattle.reader.specs.Read.{accepted_as}
use Rattle.reader.specs.Read.{ReadDecided, is_accepted, is_refused, Holds, AcceptsExactly}

-- a list of a derivation within limits has none of 13, 17, 18 and 19
listed_found : (bs l : List ℕ) → Listed (job_of bs) l → (steps_fault bs l ≡ sound) × ItemsDivide (job_of bs) l
listed_found bs l x = (none_found bs l (listed_short bs l x)).1 x

-- two derivations with the sheet's steps ask for the same marks
same_marks : (bs sh : List ℕ) (x y : Listed (job_of bs) (steps_of sh)) → marks_fault bs (surely_used x) sh ≡ marks_fault bs (surely_used y) sh
same_marks bs sh x y = ap (λ (U : Items). marks_fault bs U sh) (listed_surely x y)

-- "Card, the reader's sheet .. and these rules therefore determine every answer": the cases of an outcome exclude each other.
pub read_determined : {bs sh : List ℕ} {a b : ReadVerdict} → Reading bs sh a → Reading bs sh b → a ≡ b
read_determined (faulty p) (faulty q) = same_fault refused p q
read_determined (faulty p) (misfit t q) = absurd (sound_or_faulty t.faultless p)
read_determined (faulty p) (astray t g q) = absurd (sound_or_faulty t.faultless p)
read_determined (faulty p) (undivided t g q m) = absurd (sound_or_faulty t.faultless p)
read_determined (faulty p) (wrong_mark t g y q) = absurd (sound_or_faulty t.faultless p)
read_determined (faulty p) (accepted_as t g y q) = absurd (sound_or_faulty t.faultless p)
read_determined (misfit s p) (faulty q) = absurd (sound_or_faulty s.faultless q)
read_determined (misfit s p) (misfit t q) = same_fault refused p q
read_determined (misfit s p) (astray t g q) = absurd (sound_or_faulty g p)
read_determined (misfit s p) (undivided t g q m) = absurd (sound_or_faulty g p)
read_determined (misfit s p) (wrong_mark t g y q) = absurd (sound_or_faulty g p)
read_determined (misfit s p) (accepted_as t g y q) = absurd (sound_or_faulty g p)
read_determined (astray s f p) (faulty q) = absurd (sound_or_faulty s.faultless q)
read_determined (astray s f p) (misfit t q) = absurd (sound_or_faulty f q)
read_determined (astray s f p) (astray t g q) = same_fault refused p q
read_determined (astray s f p) (undivided t g q m) = absurd (sound_or_faulty q p)
read_determined {bs} {sh} (astray s f p) (wrong_mark t g y q) = absurd (sound_or_faulty (listed_found bs (steps_of sh) y).0 p)
read_determined {bs} {sh} (astray s f p) (accepted_as t g y q) = absurd (sound_or_faulty (listed_found bs (steps_of sh) y).0 p)
read_determined (undivided s f p n) (faulty q) = absurd (sound_or_faulty s.faultless q)
read_determined (undivided s f p n) (misfit t q) = absurd (sound_or_faulty f q)
read_determined (undivided s f p n) (astray t g q) = absurd (sound_or_faulty p q)
read_determined (undivided s f p n) (undivided t g q m) = refl
read_determined {bs} {sh} (undivided s f p n) (wrong_mark t g y q) = absurd (n (listed_found bs (steps_of sh) y).1)
read_determined {bs} {sh} (undivided s f p n) (accepted_as t g y q) = absurd (n (listed_found bs (steps_of sh) y).1)
read_determined (wrong_mark s f x p) (faulty q) = absurd (sound_or_faulty s.faultless q)
read_determined (wrong_mark s f x p) (misfit t q) = absurd (sound_or_faulty f q)
read_determined {bs} {sh} (wrong_mark s f x p) (astray t g q) = absurd (sound_or_faulty (listed_found bs (steps_of sh) x).0 q)
read_determined {bs} {sh} (wrong_mark s f x p) (undivided t g q m) = absurd (m (listed_found bs (steps_of sh) x).1)
read_determined {bs} {sh} (wrong_mark s f x p) (wrong_mark t g y q) = same_fault refused (same_marks bs sh y x ∙ p) q
read_determined {bs} {sh} (wrong_mark s f x p) (accepted_as t g y q) = absurd (sound_or_faulty q (same_marks bs sh y x ∙ p))
read_determined (accepted_as s f x p) (faulty q) = absurd (sound_or_faulty s.faultless q)
read_determined (accepted_as s f x p) (misfit t q) = absurd (sound_or_faulty f q)
read_determined {bs} {sh} (accepted_as s f x p) (astray t g q) = absurd (sound_or_faulty (listed_found bs (steps_of sh) x).0 q)
read_determined {bs} {sh} (accepted_as s f x p) (undivided t g q m) = absurd (m (listed_found bs (steps_of sh) x).1)
read_determined {bs} {sh} (accepted_as s f x p) (wrong_mark t g y q) = absurd (sound_or_faulty (same_marks bs sh y x ∙ p) q)
read_determined (accepted_as s f x p) (accepted_as t g y q) = refl

marks_length : (bs : List ℕ) (U : Items) (l : List ℕ) → length (marks_of bs U l) ≡ line_count bs
unfolding marks_of
marks_length bs U l = length_listing (mark_of bs U l) (line_count bs)

front_of : (s : List ℕ) → 5 ≤ length s → s ≡ byte_at s 0 ∷ byte_at s 1 ∷ byte_at s 2 ∷ byte_at s 3 ∷ byte_at s 4 ∷ drop 5 s
front_of [] h = absurd (omega arith)
front_of (a ∷ []) h = absurd (omega arith)
front_of (a ∷ b ∷ []) h = absurd (omega arith)
front_of (a ∷ b ∷ c ∷ []) h = absurd (omega arith)
front_of (a ∷ b ∷ c ∷ d ∷ []) h = absurd (omega arith)
front_of (a ∷ b ∷ c ∷ d ∷ e ∷ s) h = refl

word_of : (a b n : ℕ) → b < 256 → a * 256 + b ≡ n → word n ≡ a ∷ b ∷ []
unfolding word
word_of a b n g e =
    let p : n / 256 ≡ a = omega arith in
    let q : n % 256 ≡ b = omega arith in
    rw (p, q) refl

first_all : (n : ℕ) (f : ℕ → Verdict) → ((i : ℕ) → i < n → f i ≡ sound) → first_of n f ≡ sound
unfolding first_of
first_all zero f h = refl
first_all (suc n) f h = first_goes n f (first_all n f (λ i g. h i (omega arith))) (h n (omega arith))

-- A sheet that fits and has no wrong mark is the sheet of its steps.
module _ {bs sh : List ℕ} (U : Items) (f : Fitting bs sh) where
  marks_true : marks_fault bs U sh ≡ sound → drop (step_count sh) (drop 5 sh) ≡ marks_of bs U (steps_of sh)
  unfolding marks_fault mark_fault marks_of
  marks_true e =
      ext_get_or 0 (drop (step_count sh) (drop 5 sh)) (listing (line_count bs) (mark_of bs U (steps_of sh)))
      (size ∙ sym (length_listing (mark_of bs U (steps_of sh)) (line_count bs)))
      (λ i h.
      let g : i < line_count bs = omega (arith, size) in
      let r = first_each (line_count bs) (mark_fault bs U (steps_of sh) (marks_in sh)) e i g in
      ap (λ (x : List ℕ). get_or x i 0) (drop-drop (step_count sh) 5 sh)
      ∙ eqb-true (byte_at (marks_in sh) i) (mark_of bs U (steps_of sh) i) (not-false _ (not_applied _ _ _ r))
      ∙ sym (listing_at (mark_of bs U (steps_of sh)) (line_count bs) i 0 g))
    where
      size : length (drop (step_count sh) (drop 5 sh)) ≡ line_count bs
      size = let g = f.long in let l = f.lines in simp (length-drop) (omega arith)

  is_sheet : Bytes sh → marks_fault bs U sh ≡ sound → sh ≡ sheet_of bs U (steps_of sh)
  unfolding sheet_of
  is_sheet b e =
      let k = steps_length f in
      let w : word (5 + length (steps_of sh) + line_count bs) ≡ byte_at sh 0 ∷ byte_at sh 1 ∷ [] =
      word_of (byte_at sh 0) (byte_at sh 1) (5 + length (steps_of sh) + line_count bs) (b.byte 1)
      (omega (arith, f.whole, f.long, f.lines))
      in
      let r : drop 5 sh ≡ steps_of sh ++ marks_of bs U (steps_of sh) =
      sym (take-append-drop (step_count sh) (drop 5 sh)) ∙ ap (λ (x : List ℕ). steps_of sh ++ x) (marks_true e)
      in
      let p = f.first in
      let q = f.lines in
      front_of sh f.front ∙ rw w (cc)

-- The sheet of a list fits and has no wrong mark.
module _ (bs : List ℕ) (U : Items) (l : List ℕ) where
  pub sheet_length : length (sheet_of bs U l) ≡ 5 + length l + line_count bs
  unfolding sheet_of word
  sheet_length = omega (arith, length-append l (marks_of bs U l), marks_length bs U l)

  sheet_steps : steps_of (sheet_of bs U l) ≡ l
  unfolding sheet_of word
  sheet_steps = take-append_seam l (marks_of bs U l)

  sheet_marks : marks_in (sheet_of bs U l) ≡ marks_of bs U l
  unfolding sheet_of word
  sheet_marks = sym (drop-drop (length l) 5 (sheet_of bs U l)) ∙ drop-append_seam l (marks_of bs U l)

  sheet_fitting : Listed (job_of bs) l → Fitting bs (sheet_of bs U l)
  unfolding sheet_of word
  sheet_fitting x =
      let long = sheet_length in
      record {
        front = omega arith;
        whole = omega arith;
        first = refl;
        lines = refl;
        long = omega arith;
        few = listed_short bs l x;
      }

  sheet_faultless : marks_fault bs U (sheet_of bs U l) ≡ sound
  unfolding marks_fault marks_of
  sheet_faultless = rw (sheet_steps, sheet_marks)
      (first_all (line_count bs) (mark_fault bs U l (marks_of bs U l))
      (λ i h. mark_right bs U l (marks_of bs U l) i (listing_at (mark_of bs U l) (line_count bs) i 0 h)))

-- Demand 3, the reader: the sheet of a derivation within limits is accepted.
pub sheet_accepted : (bs l : List ℕ) → Sound bs → (x : Listed (job_of bs) l) → Reading bs (sheet_of bs (surely_used x) l) (accepted (length l))
sheet_accepted bs l s x =
    let U = surely_used x in
    let sh = sheet_of bs U l in
    let e = sheet_steps bs U l in
    let fits = sheet_fits_lem bs sh (sym (all_fit bs sh (sheet_fitting bs U l x))) in
    let y : Listed (job_of bs) (steps_of sh) = record { derivation = x.derivation; limited = x.limited; list = x.list ∙ sym e } in
    subst (λ (m : List ℕ). Reading bs sh (accepted (length m))) e (accepted_as s fits y (sheet_faultless bs U l))

-- What a sheet that is accepted holds. Its second byte is below 256, as every byte is: else another pair of numbers gave the same length.
accepted_holds : {bs sh : List ℕ} {a : ReadVerdict} → Bytes sh → Reading bs sh a → (k : ℕ) → a ≡ accepted k → Holds bs sh k
accepted_holds b (faulty q) k e = let z : ◌≡◌ {A = ℕ} 0 1 = cc in absurd (omega arith)
accepted_holds b (misfit s q) k e = let z : ◌≡◌ {A = ℕ} 0 1 = cc in absurd (omega arith)
accepted_holds b (astray s f q) k e = let z : ◌≡◌ {A = ℕ} 0 1 = cc in absurd (omega arith)
accepted_holds b (undivided s f q n) k e = let z : ◌≡◌ {A = ℕ} 0 1 = cc in absurd (omega arith)
accepted_holds b (wrong_mark s f x q) k e = let z : ◌≡◌ {A = ℕ} 0 1 = cc in absurd (omega arith)
accepted_holds {bs} {sh} b (accepted_as s f x m) k e = record {
  card = s;
  list = steps_of sh;
  listed = x;
  bytes = is_sheet (surely_used x) (fitting bs sh f) b m;
  count = cc;
}

-- What holds a list is accepted with its length.
pub holds_accepted : {bs sh : List ℕ} {k : ℕ} → Holds bs sh k → Reading bs sh (accepted k)
holds_accepted {bs} h = rw (h.count, ← h.bytes) at (sheet_accepted bs h.list h.card h.listed)

-- Demand 3, second half, of a sheet of bytes.
pub accepts_exactly : {bs sh : List ℕ} {a : ReadVerdict} → Bytes sh → Reading bs sh a → AcceptsExactly bs sh a
accepts_exactly b r = record { exactly = λ k. (accepted_holds b r k, λ h. read_determined r (holds_accepted h)) }

-- The sheet of a card's first list, which the planner writes, is read back.
pub round_trip : (bs l : List ℕ) → Sound bs → (f : First (job_of bs) l) → Reading bs (sheet_of bs (surely_used f.listed) l) (accepted (length l))
round_trip bs l s f = sheet_accepted bs l s f.listed

-- 12 tells of the sheet, and 14 of a mark that there is.
abbrev Of : List ℕ → ℕ → ℕ → Where → Type 0
Of bs m n w = (n ≡ m) × Placed bs w

sheet_told : (bs sh : List ℕ) → Tells (Of bs 12) (sheet_fault bs sh)
unfolding sheet_fault Placed
sheet_told bs sh = tells_refuse (Of bs 12) _ (refl, tt)

pub marks_told : (bs : List ℕ) (U : Items) (sh : List ℕ) → Tells (Of bs 14) (marks_fault bs U sh)
unfolding marks_fault mark_fault Placed
marks_told bs U sh = tells_first (Of bs 14) (line_count bs) _ (λ i h. tells_refuse (Of bs 14) _ (refl, h))

-- a sheet that fits has no more steps than s
few_steps : (bs sh : List ℕ) → sheet_fault bs sh ≡ sound → length (steps_of sh) ≤ step_limit bs
few_steps bs sh f = let t = fitting bs sh f in omega (arith, steps_length t, t.few)

-- Demand 1. Every card and every sheet get a decision.
pub read_decided : {bs sh : List ℕ} {a : ReadVerdict} → Reading bs sh a → ReadDecided bs a
unfolding Placed
read_decided {bs} (faulty {n} {w} p) = let r = fault_in_range bs p in is_refused {n = n} {w = w} (inl (r.0, r.1)) r.2
read_decided {bs} {sh} (misfit {n} {w} s p) =
    let r = (sheet_told bs sh).told_so p in is_refused {n = n} {w = w} (inr (inl (omega (arith, r.0), omega (arith, r.0)))) r.1
read_decided {bs} {sh} (astray {n} {w} s f p) =
    let r = steps_placed bs (steps_of sh) (few_steps bs sh f) p in is_refused {n = n} {w = w} (inr r.0) r.1
read_decided (undivided s f p n) = is_refused {n = 19} (inr (inr (omega arith, omega arith))) tt
read_decided {bs} {sh} (wrong_mark {n} {w} s f x p) =
    let r = (marks_told bs (surely_used x) sh).told_so p in is_refused {n = n} {w = w} (inr (inl (omega (arith, r.0), omega (arith, r.0)))) r.1
read_decided {bs} {sh} (accepted_as s f x m) = is_accepted (listed_short bs (steps_of sh) x)
