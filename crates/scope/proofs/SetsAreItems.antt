-- Laws of line sets as item sets: the items of each operation, and the lines of a sound card.
use Prim.Native.Nat.{ℕ, zero, suc, ◌+◌, ◌-◌, ◌≤◌, ◌<◌}
use native.Mathlib.Omega.{arith}
use native.Mathlib.Decide.{ℕ_discrete}
use mathlib.Core.Path.{◌≡◌, refl, sym, ◌∙◌, ap, ap₂, fun_ext}
use mathlib.Core.Logic.{◌↔◌}
use mathlib.Core.Bool.{Bool, true, false, not, ◌&&◌, ◌||◌}
use mathlib.Core.List.{List}
use lib.Dec.{leb, ltb, eqb}
use borrow.Author.Tests.{le-leb, leb-true, leb-false, lt-ltb, le-ltb, ltb-true, ltb-false, eq-eqb, ne_eqb, not-false}
use Rattle.calculus.specs.Items.{∅, ◌∪◌, ◌∖◌, only, Empty}
use Rattle.calculus.specs.Steps.{stands}
use Rattle.calculus.specs.Job.{Listed, surely_used}
use Rattle.lines.specs.declared.LineSet.{LineSet}
use Rattle.lines.specs.declared.LineWord.{LineWord}
use Rattle.lines.specs.Inner.Word.{line_in}
use Rattle.lines.specs.Set.{member, is_empty_s, empty_s, full_s, add_s, take_s, cut_s, meet_s, join_s, Words}
use Rattle.lines.specs.Count.{bit}
use Rattle.lines.proofs.MemberLaws.{member_empty, member_full, member_join, member_meet, member_cut, member_add, member_take}
use Rattle.lines.proofs.MemberLaws.{empty_none, none_empty}
use Rattle.card.specs.Format.{rule_count, line_count, node_count, line_node, line_byte}
use Rattle.card.specs.Fault.{Sound, clause_part, line_fault, line_good}
use Rattle.card.specs.Decode.{lines_with, job_of}
use Rattle.card.proofs.FrontChecked.{both_right}
use Rattle.card.proofs.FaultsInOrder.{not_applied}
use Rattle.card.proofs.CardChecked.{sound_front, sound_line}
use Rattle.card.proofs.NodesDecoded.{line_within}
use Rattle.scope.specs.Inner.Sets.{items, strict_below, strict_of, word_items, SureLines}

-- items P of the set operations
pub items_empty : (P : ℕ) → items P empty_s ≡ ∅
unfolding items ∅
items_empty P = fun_ext (λ e. simp member_empty (none (leb P e)))
  where
    none : (b : Bool) → (b && false) ≡ false
    none true = refl
    none false = refl

pub items_join : (P : ℕ) (s t : LineSet) → items P (join_s s t) ≡ items P s ∪ items P t
unfolding items ◌∪◌
items_join P s t = fun_ext (λ e. simp member_join (law (leb P e) (member s (e - P)) (member t (e - P))))
  where
    law : (b c d : Bool) → (b && (c || d)) ≡ ((b && c) || (b && d))
    law true c d = refl
    law false c d = refl

pub items_cut : (P : ℕ) (s t : LineSet) → items P (cut_s s t) ≡ items P s ∖ items P t
unfolding items ◌∖◌
items_cut P s t = fun_ext (λ e. simp member_cut (law (leb P e) (member s (e - P)) (member t (e - P))))
  where
    law : (b c d : Bool) → (b && (c && not d)) ≡ ((b && c) && not (b && d))
    law true c d = refl
    law false c d = refl

pub items_meet : (P : ℕ) (s t : LineSet) (e : ℕ) → items P (meet_s s t) e ≡ (items P s e && items P t e)
unfolding items
items_meet P s t e = rw (member_meet s t (e - P)) (law (leb P e) (member s (e - P)) (member t (e - P)))
  where
    law : (b c d : Bool) → (b && (c && d)) ≡ ((b && c) && (b && d))
    law true c d = refl
    law false c d = refl

-- a set is empty exactly if it has no items
pub items_none : (P : ℕ) (s : LineSet) → Words s → (is_empty_s s ≡ true) ↔ Empty (items P s)
unfolding items
items_none P s w = (
  λ e. record { vacant = λ x. rw (empty_none s e (x - P)) (none (leb P x)) },
  λ n. none_empty w (λ i. sym (here i) ∙ n.vacant (P + i)),
)
  where
    none : (b : Bool) → (b && false) ≡ false
    none true = refl
    none false = refl

    here : (i : ℕ) → (leb P (P + i) && member s (P + i - P)) ≡ member s i
    here i = rw (le-leb P (P + i) (omega arith)) (ap (member s) (omega arith))

-- an entry from P on is in the set if its item is
pub items_at_lem : (P : ℕ) (s : LineSet) (e : ℕ) → P ≤ e → items P s e ≡ member s (e - P)
unfolding items
items_at_lem P s e h = rw (le-leb P e h) refl

-- an entry from P on is told by its item
same_item : (P e x : ℕ) → P ≤ e → (leb P x && eqb (x - P) (e - P)) ≡ eqb x e
same_item P e x h = at (leb P x) refl
  where
    at : (b : Bool) → leb P x ≡ b → (b && eqb (x - P) (e - P)) ≡ eqb x e
    at false p = let l = leb-false P x p in sym (ne_eqb x e (omega arith))
    at true p = elim (ℕ_discrete x e) [
      | yes q ↦ (let l = leb-true P x p in eq-eqb (x - P) (e - P) (omega arith) ∙ sym (eq-eqb x e q))
      | no q ↦ (let l = leb-true P x p in ne_eqb (x - P) (e - P) (λ r. q (omega arith)) ∙ sym (ne_eqb x e q))
    ]

pub items_add : (P : ℕ) (s : LineSet) (e : ℕ) → P ≤ e → e - P < 192 → items P (add_s s (e - P)) ≡ items P s ∪ only e
unfolding items ◌∪◌ only
items_add P s e h k =
    fun_ext (λ x. rw (member_add s (e - P) (x - P) k)
    (law (leb P x) (eqb (x - P) (e - P)) (member s (x - P)) ∙ ap (λ b. (leb P x && member s (x - P)) || b) (same_item P e x h)))
  where
    law : (b c d : Bool) → (b && (c || d)) ≡ ((b && d) || (b && c))
    law true true true = refl
    law true true false = refl
    law true false true = refl
    law true false false = refl
    law false c d = refl

pub items_take : (P : ℕ) (s : LineSet) (e : ℕ) → P ≤ e → items P (take_s s (e - P)) ≡ items P s ∖ only e
unfolding items ◌∖◌ only
items_take P s e h =
    fun_ext (λ x. rw (member_take s (e - P) (x - P))
    (law (leb P x) (eqb (x - P) (e - P)) (member s (x - P)) ∙ ap (λ b. (leb P x && member s (x - P)) && not b) (same_item P e x h)))
  where
    law : (b c d : Bool) → (b && (d && not c)) ≡ ((b && d) && not (b && c))
    law true c d = refl
    law false c d = refl

-- a sound card's must/may byte is 0 or 1
byte_known : {bs : List ℕ} → Sound bs → (i : ℕ) → i < line_count bs → line_byte bs i ≤ 1
unfolding line_fault line_good
byte_known {bs} s i h =
    leb-true (line_byte bs i) 1
    (both_right (clause_part bs (node_count bs) (line_node bs i)) (leb (line_byte bs i) 1)
    (not-false _ (not_applied _ _ _ (sound_line bs s i h))))

ltb_next : (i n : ℕ) → (i ≡ n → ⊥) → ltb i (suc n) ≡ ltb i n
ltb_next i n d = at (ltb i n) refl
  where
    at : (c : Bool) → ltb i n ≡ c → ltb i (suc n) ≡ c
    at true e = let h = ltb-true i n e in lt-ltb i (suc n) (omega arith)
    at false e = let h = ltb-false i n e in le-ltb i (suc n) (omega arith)

-- the must lines among the first n
strict_member : (bs : List ℕ) (n i : ℕ) → n ≤ 64 → member (strict_below bs n) i ≡ (ltb i n && eqb (line_byte bs i) 1)
unfolding strict_below
strict_member bs zero i h = member_empty i ∙ sym (rw (le-ltb i 0 (omega arith)) refl)
strict_member bs (suc n) i h = at (strict_member bs n i (omega arith)) (eqb (line_byte bs n) 1) refl (ℕ_discrete i n)
  where
    at : member (strict_below bs n) i ≡ (ltb i n && eqb (line_byte bs i) 1) → (c : Bool) → eqb (line_byte bs n) 1 ≡ c → Dec (i ≡ n)
        → member (elim c as (λ x. LineSet) [ true ↦ add_s (strict_below bs n) n | false ↦ strict_below bs n ]) i ≡
        (ltb i (suc n) && eqb (line_byte bs i) 1)
    at before true e (yes q) =
        member_add (strict_below bs n) n i (omega arith)
        ∙ rw (eq-eqb i n q, lt-ltb i (suc n) (omega arith)) (sym (ap (λ k. eqb (line_byte bs k) 1) q ∙ e))
    at before true e (no q) =
        member_add (strict_below bs n) n i (omega arith)
        ∙ rw (ne_eqb i n q, ltb_next i n q) before
    at before false e (yes q) =
        before ∙ rw (le-ltb i n (omega arith), lt-ltb i (suc n) (omega arith)) (sym (ap (λ k. eqb (line_byte bs k) 1) q ∙ e))
    at before false e (no q) = before ∙ rw (ltb_next i n q) refl

-- a line set whose members are the lines with a must/may byte
lines_items : (bs : List ℕ) (s : LineSet) (b : ℕ) → ((i : ℕ) → member s i ≡ (ltb i (line_count bs) && eqb (line_byte bs i) b))
    → items (rule_count bs) s ≡ lines_with bs b
unfolding items lines_with
lines_items bs s b h = fun_ext (λ e. rw (h (e - rule_count bs)) (at e (leb (rule_count bs) e) refl))
  where
    at : (e : ℕ) (c : Bool) → leb (rule_count bs) e ≡ c
        → (c && (ltb (e - rule_count bs) (line_count bs) && eqb (line_byte bs (e - rule_count bs)) b))
        ≡ (c && (ltb e (rule_count bs + line_count bs) && eqb (line_byte bs (e - rule_count bs)) b))
    at e false q = refl
    at e true q = ap (λ d. d && eqb (line_byte bs (e - rule_count bs)) b) (same (ltb (e - rule_count bs) (line_count bs)) refl)
      where
        same : (d : Bool) → ltb (e - rule_count bs) (line_count bs) ≡ d → ltb (e - rule_count bs) (line_count bs) ≡ ltb e
            (rule_count bs + line_count bs)
        same true f =
            let l = leb-true (rule_count bs) e q in let h = ltb-true (e - rule_count bs) (line_count bs) f in
            f ∙ sym (lt-ltb e (rule_count bs + line_count bs) (omega arith))
        same false f =
            let l = leb-true (rule_count bs) e q in let h = ltb-false (e - rule_count bs) (line_count bs) f in
            f ∙ sym (le-ltb e (rule_count bs + line_count bs) (omega arith))

module _ {bs : List ℕ} (s : Sound bs) where
  lines_few : line_count bs ≤ 64
  lines_few = (sound_front bs s).lines

  pub strict_items : items (rule_count bs) (strict_of bs) ≡ lines_with bs 1
  unfolding strict_of
  strict_items = lines_items bs (strict_below bs (line_count bs)) 1 (λ i. strict_member bs (line_count bs) i lines_few)

  pub lax_items : items (rule_count bs) (cut_s (full_s (line_count bs)) (strict_of bs)) ≡ lines_with bs 0
  unfolding strict_of
  lax_items = lines_items bs (cut_s (full_s (line_count bs)) (strict_below bs (line_count bs))) 0
      (λ i. member_cut (full_s (line_count bs)) (strict_below bs (line_count bs)) i
      ∙ rw (member_full (line_count bs) i lines_few, strict_member bs (line_count bs) i lines_few) (at i (ltb i (line_count bs)) refl))
    where
      at : (i : ℕ) (c : Bool) → ltb i (line_count bs) ≡ c
          → (c && not (c && eqb (line_byte bs i) 1)) ≡ (c && eqb (line_byte bs i) 0)
      at i false e = refl
      at i true e = let k = byte_known s i (ltb-true i (line_count bs) e) in other (line_byte bs i) k (ℕ_discrete (line_byte bs i) 1)
        where
          other : (x : ℕ) → x ≤ 1 → Dec (x ≡ 1) → not (eqb x 1) ≡ eqb x 0
          other x h (yes q) = rw (eq-eqb x 1 q, ne_eqb x 0 (omega arith)) refl
          other x h (no q) = rw (ne_eqb x 1 q, eq-eqb x 0 (omega arith)) refl

  -- every line is a must line or a may line
  pub all_items : items (rule_count bs) (full_s (line_count bs)) ≡ lines_with bs 1 ∪ lines_with bs 0
  unfolding ◌∪◌ ◌∖◌ items
  all_items =
      fun_ext (λ e. whole (items (rule_count bs) (full_s (line_count bs)) e) (items (rule_count bs) (strict_of bs) e) (part e)
      ∙ ap₂ ◌||◌ (ap (λ I. I e) strict_items) (sym (ap (λ I. I e) cut_off) ∙ ap (λ I. I e) lax_items))
    where
      cut_off : items (rule_count bs) (cut_s (full_s (line_count bs)) (strict_of bs))
          ≡ items (rule_count bs) (full_s (line_count bs)) ∖ items (rule_count bs) (strict_of bs)
      cut_off = items_cut (rule_count bs) (full_s (line_count bs)) (strict_of bs)

      whole : (a b : Bool) → (b ≡ true → a ≡ true) → a ≡ (b || (a && not b))
      whole true true h = refl
      whole true false h = refl
      whole false true h = h refl
      whole false false h = refl

      in_full : (e : ℕ) → rule_count bs ≤ e → e < rule_count bs + line_count bs → items (rule_count bs) (full_s (line_count bs)) e ≡ true
      in_full e l r = rw (le-leb (rule_count bs) e l) (member_full (line_count bs) (e - rule_count bs) lines_few
          ∙ lt-ltb (e - rule_count bs) (line_count bs) (omega arith))

      part : (e : ℕ) → items (rule_count bs) (strict_of bs) e ≡ true → items (rule_count bs) (full_s (line_count bs)) e ≡ true
      part e h =
          let w = line_within bs 1 e (sym (ap (λ I. I e) strict_items) ∙ h) in
          in_full e w.0 w.1

  -- a line's must/may byte counts it among the must lines or not, and what is past the lines is none
  pub strict_byte : (i : ℕ) → i < line_count bs → line_byte bs i ≡ bit (member (strict_of bs) i)
  unfolding strict_of bit
  strict_byte i h = by (line_byte bs i) refl (byte_known s i h)
    where
      in_lines : member (strict_below bs (line_count bs)) i ≡ eqb (line_byte bs i) 1
      in_lines = strict_member bs (line_count bs) i lines_few ∙ rw (lt-ltb i (line_count bs) h) refl

      by : (x : ℕ) → line_byte bs i ≡ x → x ≤ 1 → line_byte bs i ≡ bit (member (strict_below bs (line_count bs)) i)
      by zero e k = rw (in_lines, e) refl
      by (suc zero) e k = rw (in_lines, e) refl
      by (suc (suc x)) e k = absurd (omega arith)

  pub strict_past : (i : ℕ) → line_count bs ≤ i → member (strict_of bs) i ≡ false
  unfolding strict_of
  strict_past i h = strict_member bs (line_count bs) i lines_few ∙ rw (le-ltb i (line_count bs) h) refl

-- line x is the entry P + x, by item or by entry
pub same_line : (P i e x : ℕ) → e ≡ P + i → eqb x i ≡ eqb (P + x) e
same_line P i e x q = at (ℕ_discrete x i)
  where
    at : Dec (x ≡ i) → eqb x i ≡ eqb (P + x) e
    at (yes p) = eq-eqb x i p ∙ sym (eq-eqb (P + x) e (omega arith))
    at (no d) = ne_eqb x i d ∙ sym (ne_eqb (P + x) e (λ p. d (omega arith)))

-- the lines of a set at their entries
pub word_lines : (bs l : List ℕ) {word : LineWord} → SureLines bs l word → (x : Listed (job_of bs) l) (i : ℕ) → i < line_count bs
    → stands (rule_count bs + i) l ≡ true → word_items bs word (rule_count bs + i) ≡ surely_used x (rule_count bs + i)
unfolding word_items
word_lines bs l {word} s x i h t =
    let e : rule_count bs + i - rule_count bs ≡ i = omega arith in
    ap (line_in word) e ∙ s.lines x i h t
