-- Laws of masks: the lines of a mask, the masks of a card's lines, and eligible entries by masks.
use Prim.Native.Nat.{ℕ, zero, suc, ◌+◌, ◌-◌, ◌^◌, ◌≤◌, ◌<◌}
use native.Mathlib.Decide.{ℕ_discrete}
use native.Mathlib.Omega.{arith}
use mathlib.Core.Path.{◌≡◌, refl, sym, ◌∙◌, ap, ap₂, subst}
use mathlib.Core.Bool.{Bool, true, false, not, ◌&&◌, ◌||◌, false≢true, and-true as and-unit}
use mathlib.Core.List.{List, [], ◌∷◌, ◌++◌}
use lib.ListN.{length, get_or, set, length-set}
use lib.Seq.{get_or-set_same, get_or-set_other}
use lib.Dec.{leb, ltb, eqb}
use lib.Pow.{pow_pos, pow-lt}
use lib.Bits.{or_lt}
use borrow.Author.Tests.{eqb-true, eqb-false, eq-eqb, ne_eqb, lt-ltb, le-ltb, ltb-true, leb-true, not-false}
use Rattle.calculus.specs.Steps.{stands}
use Rattle.card.specs.Format.{rule_count, line_count, node_count, line_node, line_byte}
use Rattle.card.specs.Fault.{Sound, clause_part, line_fault, line_good}
use Rattle.card.proofs.FrontChecked.{both_right}
use Rattle.card.proofs.FaultsInOrder.{not_applied}
use Rattle.card.proofs.CardChecked.{sound_front, sound_line}
use Rattle.lines.specs.declared.LineWord.{LineWord}
use Rattle.lines.specs.Set.{bit_at}
use Rattle.lines.specs.Inner.Word.{empty_l, add_l, holds_l}
use Rattle.lines.proofs.Word.{bit_or_lem, bit_zero, bit_pow}
use Rattle.lines.proofs.LineLaws.{line_empty, line_add, holds_all, all_holds}
use Rattle.calculus.proofs.StepsBounded.{stands_parts}
use Rattle.entries.specs.Inner.Twins.{waits, every, is_line, met, eligible}
use Rattle.entries.specs.Inner.Masks.{with_line, passing, has_node, must_node, wider, mask_at, Waiting, ready_by, Seen}
use Rattle.calculus.proofs.SetLaws.{or_right}
use Rattle.scope.proofs.SetsAreItems.{same_line}
use Rattle.entries.proofs.TestLaws.{and_true, same_test, every_at, every_all}

-- The lines of a mask

-- the lines below n that pass
module _ (p : ℕ → Bool) where
  pub passing_bit : (n x : ℕ) → bit_at (passing p n) x ≡ (ltb x n && p x)
  unfolding passing with_line
  passing_bit zero x = bit_zero x ∙ sym (rw (le-ltb x 0 (omega arith)) refl)
  passing_bit (suc n) x = at (passing_bit n x) (p n) refl (ℕ_discrete x n)
    where
      beside : (x ≡ n → ⊥) → ltb x (suc n) ≡ ltb x n
      beside d = same_test (ltb x (suc n)) (ltb x n)
          (λ h. let l = ltb-true x (suc n) h in lt-ltb x n (omega arith))
          (λ h. let l = ltb-true x n h in lt-ltb x (suc n) (omega arith))

      at : bit_at (passing p n) x ≡ (ltb x n && p x) → (b : Bool) → p n ≡ b → Dec (x ≡ n)
          → bit_at (with_line b (passing p n) n) x ≡ (ltb x (suc n) && p x)
      at before true q (yes e) =
          bit_or_lem (passing p n) (2 ^ n) x ∙ or_right (bit_at (passing p n) x) (bit_at (2 ^ n) x) (bit_pow n x ∙ eq-eqb x n e)
          ∙ sym (rw (lt-ltb x (suc n) (omega arith)) (ap p e ∙ q))
      at before true q (no d) =
          bit_or_lem (passing p n) (2 ^ n) x ∙ ap₂ ◌||◌ before (bit_pow n x ∙ ne_eqb x n d)
          ∙ or_none (ltb x n && p x) ∙ ap (λ b. b && p x) (sym (beside d))
        where
          or_none : (b : Bool) → (b || false) ≡ b
          or_none true = refl
          or_none false = refl
      at before false q (yes e) =
          before ∙ rw (le-ltb x n (omega arith), lt-ltb x (suc n) (omega arith)) (sym (ap p e ∙ q))
      at before false q (no d) = before ∙ ap (λ b. b && p x) (sym (beside d))

  pub passing_word : (n : ℕ) → n ≤ 64 → passing p n < 2 ^ 64
  unfolding passing with_line
  passing_word zero h = pow_pos 64
  passing_word (suc n) h = at (passing_word n (omega arith)) (p n)
    where
      at : passing p n < 2 ^ 64 → (b : Bool) → with_line b (passing p n) n < 2 ^ 64
      at l true = let k : n < 64 = omega arith in or_lt 64 (passing p n) (2 ^ n) l (pow-lt k)
      at l false = l

-- The masks of a card's lines

-- Every node's last line below i, and 1 more, is the cell of the masks of its lines below i.
pub record Chained (bs last all musts : List ℕ) (i : ℕ) : Type 0 where
  pub last_room : length last ≡ 512
  pub all_room : length all ≡ 65
  pub musts_room : length musts ≡ 65
  pub low : (n : ℕ) → n < 512 → get_or last n 0 ≤ i
  pub alls : (n : ℕ) → n < 512 → get_or all (get_or last n 0) 0 ≡ passing (has_node bs n) i
  pub must : (n : ℕ) → n < 512 → get_or musts (get_or last n 0) 0 ≡ passing (must_node bs n) i

-- one line more, of which the test tells at its node alone
cell_more : (p : ℕ → ℕ → Bool) (last cells : List ℕ) (i node : ℕ) → node < length last → suc i < length cells → node < 512
    → ((n : ℕ) → n < 512 → get_or last n 0 ≤ i) → ((n : ℕ) → n < 512 → get_or cells (get_or last n 0) 0 ≡ passing (p n) i)
    → ((n : ℕ) → (n ≡ node → ⊥) → p n i ≡ false) → (n : ℕ) → n < 512
    → get_or (set cells (suc i) (with_line (p node i) (get_or cells (get_or last node 0) 0) i)) (get_or (set last node (suc i)) n 0) 0
    ≡ passing (p n) (suc i)
unfolding passing with_line
cell_more p last cells i node h k g low is other n l = go (ℕ_discrete n node)
  where
    v : ℕ
    v = with_line (p node i) (get_or cells (get_or last node 0) 0) i

    here : get_or (set cells (suc i) v) (get_or (set last node (suc i)) node 0) 0 ≡ passing (p node) (suc i)
    here =
        ap (λ m. get_or (set cells (suc i) v) m 0) (get_or-set_same last node (suc i) 0 h) ∙ get_or-set_same cells (suc i) v 0 k
        ∙ ap (λ w. with_line (p node i) w i) (is node g)

    go : Dec (n ≡ node) → get_or (set cells (suc i) v) (get_or (set last node (suc i)) n 0) 0 ≡ passing (p n) (suc i)
    go (yes q) = subst (λ m. get_or (set cells (suc i) v) (get_or (set last node (suc i)) m 0) 0 ≡ passing (p m) (suc i)) (sym q) here
    go (no d) =
        let lower = low n l in
        ap (λ m. get_or (set cells (suc i) v) m 0) (get_or-set_other last node n (suc i) 0 d)
        ∙ get_or-set_other cells (suc i) (get_or last n 0) v 0 (λ q. omega arith) ∙ is n l
        ∙ sym (ap (λ b. with_line b (passing (p n) i) i) (other n d))

module _ {bs last all musts : List ℕ} {i : ℕ} (c : Chained bs last all musts i) (h : i < 64) (g : line_node bs i < 512) where
  last_low : (n : ℕ) → n < 512 → get_or (set last (line_node bs i) (suc i)) n 0 ≤ suc i
  last_low n l = go (ℕ_discrete n (line_node bs i))
    where
      go : Dec (n ≡ line_node bs i) → get_or (set last (line_node bs i) (suc i)) n 0 ≤ suc i
      go (yes q) =
          omega (
            arith,
            ap (λ m. get_or (set last (line_node bs i) (suc i)) m 0) q
                ∙ get_or-set_same last (line_node bs i) (suc i) 0 (omega (arith, c.last_room)),
          )
      go (no d) = omega (arith, get_or-set_other last (line_node bs i) n (suc i) 0 d, c.low n l)

  node_here : has_node bs (line_node bs i) i ≡ true
  unfolding has_node
  node_here = eq-eqb (line_node bs i) (line_node bs i) refl

  must_here : must_node bs (line_node bs i) i ≡ eqb (line_byte bs i) 1
  unfolding must_node
  must_here = rw (eq-eqb (line_node bs i) (line_node bs i) refl) refl

  node_other : (n : ℕ) → (n ≡ line_node bs i → ⊥) → has_node bs n i ≡ false
  unfolding has_node
  node_other n d = ne_eqb (line_node bs i) n (λ q. d (sym q))

  must_other : (n : ℕ) → (n ≡ line_node bs i → ⊥) → must_node bs n i ≡ false
  unfolding must_node
  must_other n d = rw (ne_eqb (line_node bs i) n (λ q. d (sym q))) refl

  -- THEOREM. The masks go on past line i.
  pub chained_more : Chained bs (set last (line_node bs i) (suc i))
      (set all (suc i) (with_line true (get_or all (get_or last (line_node bs i) 0) 0) i))
      (set musts (suc i) (with_line (eqb (line_byte bs i) 1) (get_or musts (get_or last (line_node bs i) 0) 0) i)) (suc i)
  chained_more =
      let node = line_node bs i in
      let in_last : node < length last = omega (arith, c.last_room) in
      let in_all : suc i < length all = omega (arith, c.all_room) in
      let in_musts : suc i < length musts = omega (arith, c.musts_room) in
      record {
        last_room = length-set last node (suc i) ∙ c.last_room;
        all_room = length-set all (suc i) _ ∙ c.all_room;
        musts_room = length-set musts (suc i) _ ∙ c.musts_room;
        low = last_low;
        alls = rw node_here at (cell_more (has_node bs) last all i node in_last in_all g c.low c.alls node_other);
        must = rw must_here at (cell_more (must_node bs) last musts i node in_last in_musts g c.low c.must must_other);
      }

pub chained_none : (bs last all musts : List ℕ) → length last ≡ 512 → length all ≡ 65 → length musts ≡ 65
    → ((n : ℕ) → n < 512 → get_or last n 0 ≡ 0) → get_or all 0 0 ≡ 0 → get_or musts 0 0 ≡ 0 → Chained bs last all musts 0
unfolding passing
chained_none bs last all musts l a m z za zm =
    record {
      last_room = l;
      all_room = a;
      musts_room = m;
      low = λ n h. omega (arith, z n h);
      alls = λ n h. ap (λ k. get_or all k 0) (z n h) ∙ za;
      must = λ n h. ap (λ k. get_or musts k 0) (z n h) ∙ zm;
    }

-- a sound card's must/may byte is 0 or 1
byte_known : {bs : List ℕ} → Sound bs → (i : ℕ) → i < line_count bs → line_byte bs i ≤ 1
unfolding line_fault line_good
byte_known {bs} s i h =
    leb-true (line_byte bs i) 1
    (both_right (clause_part bs (node_count bs) (line_node bs i)) (leb (line_byte bs i) 1)
    (not-false _ (not_applied _ _ _ (sound_line bs s i h))))

-- a may line waits for every lower line of its node
must_or_alike : (b m : ℕ) → b ≤ 1 → m ≤ 1 → (m ≡ 1 → ⊥) → (eqb b 1 || eqb b m) ≡ true
must_or_alike b m h k d = go (ℕ_discrete b 1)
  where
    go : Dec (b ≡ 1) → (eqb b 1 || eqb b m) ≡ true
    go (yes q) = ap (λ t. t || eqb b m) (eq-eqb b 1 q)
    go (no n) = or_right (eqb b 1) (eqb b m) (eq-eqb b m (omega arith))

-- the mask of line i, by its must/may byte
unfoldable pub mask_of : List ℕ → ℕ → ℕ
mask_of bs i =
    wider (eqb (line_byte bs i) 1) (passing (must_node bs (line_node bs i)) i) (passing (has_node bs (line_node bs i)) i)

module _ {bs : List ℕ} (s : Sound bs) (i : ℕ) (h : i < line_count bs) where
  -- THEOREM. The mask of line i is that of the lines that it waits for.
  pub mask_waits : (x : ℕ) → bit_at (mask_of bs i) x ≡ waits bs i x
  unfolding mask_of wider waits has_node must_node
  mask_waits x = go (eqb (line_byte bs i) 1) refl
    where
      node : Bool
      node = eqb (line_node bs x) (line_node bs i)

      twice : (a : Bool) → a ≡ (a || a)
      twice true = refl
      twice false = refl

      all_lower : (line_byte bs i ≡ 1 → ⊥) → (b : Bool) → ltb x i ≡ b
          → (b && node) ≡ (b && (node && (eqb (line_byte bs x) 1 || eqb (line_byte bs x) (line_byte bs i))))
      all_lower d false q = refl
      all_lower d true q =
          let l = ltb-true x i q in
          rw (must_or_alike (line_byte bs x) (line_byte bs i) (byte_known s x (omega arith)) (byte_known s i h) d) (sym (and-unit node))

      go : (b : Bool) → eqb (line_byte bs i) 1 ≡ b
          → bit_at (wider b (passing (must_node bs (line_node bs i)) i) (passing (has_node bs (line_node bs i)) i)) x
          ≡ (ltb x i && (node && (eqb (line_byte bs x) 1 || eqb (line_byte bs x) (line_byte bs i))))
      go true q =
          passing_bit (must_node bs (line_node bs i)) i x
          ∙ ap (λ a. ltb x i && (node && a))
          (twice (eqb (line_byte bs x) 1) ∙ ap (λ m. eqb (line_byte bs x) 1 || eqb (line_byte bs x) m) (sym (eqb-true _ _ q)))
      go false q = passing_bit (has_node bs (line_node bs i)) i x ∙ all_lower (eqb-false _ _ q) (ltb x i) refl

  pub mask_word : mask_of bs i < 2 ^ 64
  unfolding mask_of wider
  mask_word = go (eqb (line_byte bs i) 1)
    where
      few : i ≤ 64
      few = omega (arith, (sound_front bs s).lines)

      go : (b : Bool) → wider b (passing (must_node bs (line_node bs i)) i) (passing (has_node bs (line_node bs i)) i) < 2 ^ 64
      go true = passing_word (must_node bs (line_node bs i)) i few
      go false = passing_word (has_node bs (line_node bs i)) i few

-- Lines seen

pub seen_none : {bs : List ℕ} → Sound bs → Seen bs empty_l []
unfolding stands
seen_none {bs} s = record { few = (sound_front bs s).lines; line = λ x h. line_empty x }

stands_more : (x e : ℕ) (done : List ℕ) → stands x (done ++ (e ∷ [])) ≡ (eqb x e || stands x done)
unfolding stands
stands_more x e done = stands_parts x done (e ∷ []) ∙ law (stands x done) (eqb x e)
  where
    law : (a b : Bool) → (a || (b || false)) ≡ (b || a)
    law true true = refl
    law true false = refl
    law false true = refl
    law false false = refl

module _ {bs : List ℕ} {seen : LineWord} {done : List ℕ} (s : Seen bs seen done) (e : ℕ) where
  -- an entry that is no line
  seen_beside : ((x : ℕ) → x < line_count bs → rule_count bs + x ≡ e → ⊥) → Seen bs seen (done ++ (e ∷ []))
  seen_beside d =
      record {
        few = s.few;
        line = λ x h.
            s.line x h ∙ sym (stands_more (rule_count bs + x) e done ∙ ap (λ b. b || stands (rule_count bs + x) done)
            (ne_eqb (rule_count bs + x) e (d x h)));
      }

  pub seen_rule : e < rule_count bs → Seen bs seen (done ++ (e ∷ []))
  seen_rule h = seen_beside (λ x l p. omega arith)

  pub seen_lent : rule_count bs + line_count bs ≤ e → Seen bs seen (done ++ (e ∷ []))
  seen_lent h = seen_beside (λ x l p. omega arith)

  -- a line
  pub seen_item : rule_count bs ≤ e → e - rule_count bs < 64 → Seen bs (add_l seen (e - rule_count bs)) (done ++ (e ∷ []))
  seen_item h k =
      record {
        few = s.few;
        line = λ x l.
            line_add seen (e - rule_count bs) x k
            ∙ ap₂ ◌||◌ (same_line (rule_count bs) (e - rule_count bs) e x (omega arith)) (s.line x l)
            ∙ sym (stands_more (rule_count bs + x) e done);
      }

-- Eligible by masks

met_if : (w t : Bool) → (w ≡ true → t ≡ true) → (not w || t) ≡ true
met_if true t h = h refl
met_if false t h = refl

if_met : (w t : Bool) → (not w || t) ≡ true → w ≡ true → t ≡ true
if_met true t h p = h
if_met false t h p = absurd (false≢true p)

module _ {bs masks : List ℕ} {seen : LineWord} {done : List ℕ} (w : Waiting bs masks) (s : Seen bs seen done) where
  module _ (i : ℕ) (h : i < line_count bs) where
    waits_low : (x : ℕ) → waits bs i x ≡ true → x < i
    unfolding waits
    waits_low x p = ltb-true x i (and_true (ltb x i) _ p).0

    all_met : holds_l seen (mask_at masks i) ≡ true → every (met bs done i) i ≡ true
    unfolding met
    all_met p =
        every_all (met bs done i) i
        (λ x l. met_if (waits bs i x) (stands (rule_count bs + x) done)
        (λ q. sym (s.line x (omega arith)) ∙ holds_all seen (mask_at masks i) p x (w.bits i h x ∙ q)))

    none_missing : every (met bs done i) i ≡ true → holds_l seen (mask_at masks i) ≡ true
    unfolding met
    none_missing p =
        all_holds seen (mask_at masks i) (w.words i h)
        (λ x l q.
        let r = sym (w.bits i h x) ∙ q in
        let k = waits_low x r in
        s.line x (omega arith)
        ∙ if_met (waits bs i x) (stands (rule_count bs + x) done) (every_at (met bs done i) i p x k) r)

    holds_met : holds_l seen (mask_at masks i) ≡ every (met bs done i) i
    holds_met = same_test (holds_l seen (mask_at masks i)) (every (met bs done i) i) all_met none_missing

  -- THEOREM. By the card's masks and the lines seen an entry is eligible as it should be.
  pub ready_eligible : (rules lines e : ℕ) → rules ≡ rule_count bs → lines ≡ line_count bs
      → ready_by rules lines masks seen e ≡ eligible bs done e
  unfolding ready_by eligible is_line
  ready_eligible rules lines e p q =
      ap₂ (λ r l. ready_by r l masks seen e) p q
      ∙ by_test (leb (rule_count bs) e) refl (ltb e (rule_count bs + line_count bs)) refl
    where
      by_test : (a : Bool) → leb (rule_count bs) e ≡ a → (b : Bool) → ltb e (rule_count bs + line_count bs) ≡ b
          → ◌≡◌ {A = Bool} (elim (a && b) [ true ↦ holds_l seen (mask_at masks (e - rule_count bs)) | false ↦ true ])
          (elim (a && b) [ true ↦ every (met bs done (e - rule_count bs)) (e - rule_count bs) | false ↦ true ])
      by_test true u true v =
          let h = leb-true (rule_count bs) e u in
          let k = ltb-true e (rule_count bs + line_count bs) v in
          holds_met (e - rule_count bs) (omega arith)
      by_test true u false v = refl
      by_test false u b v = refl
