-- Wider twins: from every list of a job one gets an eligible list that is no later, so the first eligible list is the first list.
use Prim.Native.Nat.{ℕ, zero, suc, ◌+◌, ◌-◌, ◌≤◌, ◌<◌}
use native.Mathlib.Decide.{dec_lt}
use native.Mathlib.Nat.{add-sub_cancel_left, lt_trans}
use native.Mathlib.Omega.{arith}
use mathlib.Core.Path.{◌≡◌, refl, sym, ap, ap₂, ◌∙◌, subst}
use mathlib.Core.Logic.{◌⊎◌, inl, inr, ⊎_elim, ⊎_map}
use mathlib.Core.Bool.{Bool, true, false, not, ◌&&◌, ◌||◌, true≢false, false≢true}
use mathlib.Core.List.{List, [], ◌∷◌, ◌++◌, map, map-append}
use lib.Dec.{ltb, eqb}
use lib.ListN.{length, length-map}
use lib.Seq.{append_snoc}
use borrow.Author.Tests.{eqb-true, eqb-false, ltb-true, not-false, lt-ltb, le-ltb, le-leb, lt-leb, eq-eqb}
use Rattle.calculus.specs.Items.{◌∪◌}
use Rattle.calculus.specs.Derivation.{Entry, clause_at, linear_at}
use Rattle.calculus.specs.Steps.{stands, left_choice, Before, here, there}
use Rattle.calculus.specs.Job.{Listed, First}
use Rattle.calculus.specs.Inner.Renaming.{swap}
use Rattle.calculus.proofs.RenamingKeeps.{swap_second, swap_other}
use Rattle.card.specs.Format.{rule_count, line_count, line_node, line_byte}
use Rattle.card.specs.Decode.{clause_of, line_entry, lines_with, job_of}
use Rattle.card.proofs.NodesDecoded.{scope_size, line_at}
use Rattle.agenda.specs.Inner.Order.{Chosen, none, step}
use Rattle.entries.specs.Inner.Twins.{waits, every, is_line, met, eligible}
use Rattle.calculus.proofs.SetLaws.{or_false, or_right, or_cases}
use Rattle.calculus.proofs.StepsBounded.{stands_parts}
use Rattle.entries.proofs.TestLaws.{either, and_true, every_at, every_all, every_fails}
use Rattle.entries.proofs.SwappingKeeps.{WiderLine, swap_wider}

-- What a line waits for

-- line i waits for line x
pub record Wait (bs : List ℕ) (i x : ℕ) : Type 0 where
  pub lower : x < i
  pub node : line_node bs x ≡ line_node bs i
  pub kind : (line_byte bs x ≡ 1) ⊎ (line_byte bs x ≡ line_byte bs i)

pub wait : (bs : List ℕ) (i x : ℕ) → waits bs i x ≡ true → Wait bs i x
unfolding waits
wait bs i x h =
    let n = eqb (line_node bs x) (line_node bs i) in
    let must = eqb (line_byte bs x) 1 in
    let alike = eqb (line_byte bs x) (line_byte bs i) in
    let a = and_true (ltb x i) (n && (must || alike)) h in
    let b = and_true n (must || alike) a.1 in
    record {
      lower = ltb-true x i a.0;
      node = eqb-true (line_node bs x) (line_node bs i) b.0;
      kind = ⊎_map (eqb-true (line_byte bs x) 1) (eqb-true (line_byte bs x) (line_byte bs i)) (or_cases must alike b.1);
    }

-- Eligible entries

module _ (bs : List ℕ) (done : List ℕ) where
  pub eligible_rule : (e : ℕ) → e < rule_count bs → eligible bs done e ≡ true
  unfolding eligible is_line
  eligible_rule e h = rw (lt-leb (rule_count bs) e h, eligible)

  pub eligible_lent : (e : ℕ) → rule_count bs + line_count bs ≤ e → eligible bs done e ≡ true
  unfolding eligible is_line
  eligible_lent e h = rw (le-leb (rule_count bs) e (omega arith), le-ltb e (rule_count bs + line_count bs) h, eligible)

  pub eligible_line : (i : ℕ) → i < line_count bs → eligible bs done (rule_count bs + i) ≡ every (met bs done i) i
  unfolding eligible is_line
  eligible_line i h =
      let P = rule_count bs in
      rw (le-leb P (P + i) (omega arith), lt-ltb (P + i) (P + line_count bs) (omega arith), eligible, add-sub_cancel_left P i)

-- the entry is line i
record Line (bs : List ℕ) (e : ℕ) : Type 0 where
  i : ℕ
  entry : e ≡ rule_count bs + i
  low : i < line_count bs

-- an entry is a line, or is always eligible
line_or_not : (bs : List ℕ) (e : ℕ) → Line bs e ⊎ ((done : List ℕ) → eligible bs done e ≡ true)
line_or_not bs e = go (dec_lt e (rule_count bs)) (dec_lt e (rule_count bs + line_count bs))
  where
    go : Dec (e < rule_count bs) → Dec (e < rule_count bs + line_count bs) → Line bs e ⊎ ((done : List ℕ) → eligible bs done e ≡ true)
    go (yes h) b = inr (λ done. eligible_rule bs done e h)
    go (no n) (yes h) = inl (record { i = e - rule_count bs; entry = omega arith; low = omega arith })
    go (no n) (no m) = inr (λ done. eligible_lent bs done e (omega arith))

-- an entry that is not eligible: line i, which waits for line k, and that does not stand in the steps so far
record Unmet (bs done : List ℕ) (e : ℕ) : Type 0 where
  i : ℕ
  k : ℕ
  entry : e ≡ rule_count bs + i
  low : i < line_count bs
  awaited : Wait bs i k
  missing : stands (rule_count bs + k) done ≡ false

-- the entry of the line that it waits for
partner : {bs done : List ℕ} {e : ℕ} → Unmet bs done e → ℕ
partner {bs} w = rule_count bs + w.k

unmet : (bs done : List ℕ) (e : ℕ) → eligible bs done e ≡ false → Unmet bs done e
unfolding met
unmet bs done e h = ⊎_elim of_line (λ f. absurd (true≢false (sym (f done) ∙ h))) (line_or_not bs e)
  where
    of_line : Line bs e → Unmet bs done e
    of_line l =
        let i = l.i in
        let f = every_fails (met bs done i) i (sym (ap (eligible bs done) l.entry ∙ eligible_line bs done i l.low) ∙ h) in
        let o = or_false (not (waits bs i f.at)) (stands (rule_count bs + f.at) done) f.fails in
        record {
          i = i;
          k = f.at;
          entry = l.entry;
          low = l.low;
          awaited = wait bs i f.at (not-false (waits bs i f.at) o.0);
          missing = o.1;
        }

-- Steps so far

met_more : (bs q l : List ℕ) (i x : ℕ) → met bs q i x ≡ true → met bs (q ++ l) i x ≡ true
unfolding met
met_more bs q l i x h =
    let a = not (waits bs i x) in
    let s = rule_count bs + x in
    ap (λ (b : Bool). a || b) (stands_parts s q l) ∙ more a (stands s q) (stands s l) h
  where
    more : (a b c : Bool) → (a || b) ≡ true → (a || (b || c)) ≡ true
    more true b c h = refl
    more false true c h = refl
    more false false c h = absurd (false≢true h)

-- what is eligible stays so
pub eligible_more : (bs q l : List ℕ) (e : ℕ) → eligible bs q e ≡ true → eligible bs (q ++ l) e ≡ true
eligible_more bs q l e h = ⊎_elim of_line (λ f. f (q ++ l)) (line_or_not bs e)
  where
    of_line : Line bs e → eligible bs (q ++ l) e ≡ true
    of_line w =
        let i = w.i in
        let was = sym (ap (eligible bs q) w.entry ∙ eligible_line bs q i w.low) ∙ h in
        ap (eligible bs (q ++ l)) w.entry ∙ eligible_line bs (q ++ l) i w.low
        ∙ every_all (met bs (q ++ l) i) i (λ x k. met_more bs q l i x (every_at (met bs q i) i was x k))

-- every step of the list is eligible after the list
record Closed (bs q : List ℕ) : Type 0 where
  kept : (x : ℕ) → stands x q ≡ true → eligible bs q x ≡ true

closed_none : (bs : List ℕ) → Closed bs []
unfolding stands
closed_none bs = record { kept = λ x h. absurd (false≢true h) }

closed_more : {bs q : List ℕ} (e : ℕ) → Closed bs q → eligible bs q e ≡ true → Closed bs (q ++ (e ∷ []))
unfolding stands
closed_more {bs} {q} e c h = record { kept = λ x t. eligible_more bs q (e ∷ []) x (was x t) }
  where
    was : (x : ℕ) → stands x (q ++ (e ∷ [])) ≡ true → eligible bs q x ≡ true
    was x t = ⊎_elim (c.kept x)
        (λ u. ⊎_elim (λ v. ap (eligible bs q) (eqb-true x e v) ∙ h) (λ v. absurd (false≢true v)) (or_cases (eqb x e) false u))
        (or_cases (stands x q) (stands x (e ∷ [])) (sym (stands_parts x q (e ∷ [])) ∙ t))

-- The order of lists

pub before_trans : {k l m : List ℕ} → Before k l → Before l m → Before k m
before_trans (here h) (here g) = here (lt_trans h g)
before_trans (here h) (there b) = here h
before_trans (there a) (here g) = here g
before_trans (there a) (there b) = there (before_trans a b)

no_later_trans : {k l m : List ℕ} → (k ≡ l) ⊎ Before k l → (l ≡ m) ⊎ Before l m → (k ≡ m) ⊎ Before k m
no_later_trans (inl p) (inl q) = inl (p ∙ q)
no_later_trans {m} (inl p) (inr b) = inr (subst (λ (x : List ℕ). Before x m) (sym p) b)
no_later_trans {k} (inr a) (inl q) = inr (subst (Before k) q a)
no_later_trans (inr a) (inr b) = inr (before_trans a b)

-- A line may be swapped with one that it waits for

module _ (bs : List ℕ) where
  line_with : (b i : ℕ) → i < line_count bs → lines_with bs b (rule_count bs + i) ≡ eqb (line_byte bs i) b
  unfolding lines_with
  line_with b i h =
      let P = rule_count bs in
      rw (le-leb P (P + i) (omega arith), lt-ltb (P + i) (P + line_count bs) (omega arith), add-sub_cancel_left P i)

  module _ (i k : ℕ) (h : i < line_count bs) (w : Wait bs i k) (few : rule_count bs + line_count bs ≤ left_choice) where
    low : k < line_count bs
    low = omega (arith, w.lower)

    -- what holds of a must line, and of k if of i, where the byte is all that matters
    by_byte : (P : ℕ → Type 0) → P 1 → P (line_byte bs i) → P (line_byte bs k)
    by_byte P must alike = ⊎_elim (λ p. subst P (sym p) must) (λ p. subst P (sym p) alike) w.kind

    wide_strict : (job_of bs).strict (rule_count bs + i) ≡ true → (job_of bs).strict (rule_count bs + k) ≡ true
    unfolding job_of
    wide_strict p = line_with 1 k low ∙ by_byte (λ n. eqb n 1 ≡ true) refl (sym (line_with 1 i h) ∙ p)

    wide_line : ((job_of bs).strict ∪ (job_of bs).lax) (rule_count bs + i) ≡ true
        → ((job_of bs).strict ∪ (job_of bs).lax) (rule_count bs + k) ≡ true
    unfolding job_of ◌∪◌
    wide_line p =
        ap₂ ◌||◌ (line_with 1 k low) (line_with 0 k low)
        ∙ by_byte (λ n. (eqb n 1 || eqb n 0) ≡ true) refl (sym (ap₂ ◌||◌ (line_with 1 i h) (line_with 0 i h)) ∙ p)

    wider_line : WiderLine (job_of bs) (rule_count bs + k) (rule_count bs + i)
    unfolding clause_at linear_at line_entry
    wider_line =
        record {
          x_within = omega (arith, low, scope_size bs);
          y_within = omega (arith, scope_size bs);
          x_no_choice = omega (arith, low, few);
          y_no_choice = omega (arith, few);
          same_clause =
              ap (λ (x : Entry). x.clause) (line_at bs k low) ∙ ap (clause_of bs) w.node
              ∙ sym (ap (λ (x : Entry). x.clause) (line_at bs i h));
          x_linear = ap (λ (x : Entry). x.linear) (line_at bs k low);
          y_linear = ap (λ (x : Entry). x.linear) (line_at bs i h);
          strict = wide_strict;
          line = wide_line;
        }

swap_none : (x y : ℕ) (q : List ℕ) → stands x q ≡ false → stands y q ≡ false → map (swap x y) q ≡ q
unfolding stands
swap_none x y [] h k = refl
swap_none x y (z ∷ q) h k =
    let a = or_false (eqb x z) (stands x q) h in
    let b = or_false (eqb y z) (stands y q) k in
    ap₂ ◌∷◌ (swap_other x y z (λ p. eqb-false x z a.0 (sym p)) (λ p. eqb-false y z b.0 (sym p))) (swap_none x y q a.1 b.1)

stands_mid : (e : ℕ) (q s : List ℕ) → stands e (q ++ (e ∷ s)) ≡ true
unfolding stands
stands_mid e [] s = rw (eq-eqb e e refl) refl
stands_mid e (x ∷ q) s = or_right (eqb e x) (stands e (q ++ (e ∷ s))) (stands_mid e q s)

module _ {bs q : List ℕ} {e : ℕ} (w : Unmet bs q e) where
  partner_below : partner w < e
  unfolding partner
  partner_below = omega (arith, w.entry, w.awaited.lower)

  -- a step that is not eligible is swapped with one that it waits for: nothing changes before it
  swap_step : rule_count bs + line_count bs ≤ left_choice → (s : List ℕ) → Closed bs q → eligible bs q e ≡ false → Listed (job_of bs) (q ++ (e ∷ s))
      → Listed (job_of bs) (q ++ (partner w ∷ map (swap (partner w) e) s))
  unfolding partner
  swap_step few s c h m =
      let t = partner w in
      let lines : WiderLine (job_of bs) t e =
      subst (WiderLine (job_of bs) t) (sym w.entry) (wider_line bs w.i w.k w.low w.awaited few) in
      let out : stands e q ≡ false = ⊎_elim (λ k. absurd (true≢false (sym (c.kept e k) ∙ h))) (λ k. k) (either (stands e q)) in
      let same : map (swap t e) (q ++ (e ∷ s)) ≡ q ++ (t ∷ map (swap t e) s) =
      map-append (swap t e) q (e ∷ s)
      ∙ ap₂ (λ (a : List ℕ) (x : ℕ). a ++ (x ∷ map (swap t e) s)) (swap_none t e q w.missing out) (swap_second t e) in
      subst (Listed (job_of bs)) same (swap_wider (job_of bs) t e lines (q ++ (e ∷ s)) m (stands_mid e q s))

-- From every list to an eligible one

-- an eligible list after q that is no later than r
abbrev NoLater : List ℕ → List ℕ → List ℕ → Type 0
NoLater bs q r = (l : List ℕ) × Listed (job_of bs) (q ++ l) × Chosen (eligible bs) q l × ((l ≡ r) ⊎ Before l r)

-- for every r of length n
abbrev Tails : List ℕ → ℕ → Type 0
Tails bs n = (q r : List ℕ) → Closed bs q → length r ≡ n → Listed (job_of bs) (q ++ r) → NoLater bs q r

-- for every e ∷ s with s of length n and e below b
abbrev Heads : List ℕ → ℕ → ℕ → Type 0
Heads bs n b =
    (e : ℕ) → e < b → (q s : List ℕ) → Closed bs q → length s ≡ n → Listed (job_of bs) (q ++ (e ∷ s)) → NoLater bs q (e ∷ s)

module _ (bs : List ℕ) (few : rule_count bs + line_count bs ≤ left_choice) (n : ℕ) (tails : Tails bs n) where
  module _ (e : ℕ) (q s : List ℕ) (c : Closed bs q) (p : length s ≡ n) (m : Listed (job_of bs) (q ++ (e ∷ s))) where
    kept_head : eligible bs q e ≡ true → NoLater bs q (e ∷ s)
    kept_head h =
        let old = subst (Listed (job_of bs)) (sym (append_snoc q e s)) m in
        let (l, x, d, o) = tails (q ++ (e ∷ [])) s (closed_more e c h) p old in
        let new = subst (Listed (job_of bs)) (append_snoc q e l) x in
        (e ∷ l, new, step h d, ⊎_map (ap (λ k. e ∷ k)) there o)

    swapped_head : (b : ℕ) → Heads bs n b → e < suc b → eligible bs q e ≡ false → NoLater bs q (e ∷ s)
    swapped_head b heads g h =
        let w = unmet bs q e h in
        let t = partner w in
        let same = length-map s (swap t e) ∙ p in
        let (l, x, d, o) = heads t (omega (arith, partner_below w)) q (map (swap t e) s) c same (swap_step w few s c h m) in
        (l, x, d, no_later_trans o (inr (here (partner_below w))))

  heads : (b : ℕ) → Heads bs n b
  heads zero = λ e g. absurd (omega arith)
  heads (suc b) = λ e g q s c p m.
      ⊎_elim (kept_head e q s c p m)
      (swapped_head e q s c p m b (heads b) g)
      (either (eligible bs q e))

  longer : Tails bs (suc n)
  longer q [] c p m = absurd (omega arith)
  longer q (e ∷ s) c p m = heads (suc e) e (omega arith) q s c (omega arith) m

no_tail : (bs : List ℕ) → Tails bs zero
no_tail bs q [] c p m = ([], m, none, inl refl)
no_tail bs q (e ∷ s) c p m = absurd (omega arith)

tails : (bs : List ℕ) → rule_count bs + line_count bs ≤ left_choice → (n : ℕ) → Tails bs n
tails bs few zero = no_tail bs
tails bs few (suc n) = longer bs few n (tails bs few n)

-- THEOREM. From every list of the job, whose lines are no choices, one gets an eligible list that is no later.
pub no_later : (bs m : List ℕ) → rule_count bs + line_count bs ≤ left_choice → Listed (job_of bs) m
    → (m' : List ℕ) × Listed (job_of bs) m' × Chosen (eligible bs) [] m' × ((m' ≡ m) ⊎ Before m' m)
no_later bs m few l = tails bs few (length m) [] m (closed_none bs) refl l

-- THEOREM. The first eligible list is the first list.
pub first_eligible : (bs l : List ℕ) → rule_count bs + line_count bs ≤ left_choice → Listed (job_of bs) l
    → ((m : List ℕ) → Listed (job_of bs) m → Chosen (eligible bs) [] m → (m ≡ l) ⊎ Before l m) → First (job_of bs) l
first_eligible bs l few x least =
    record {
      listed = x;
      least = λ m y.
          let (k, z, c, o) = no_later bs m few y in
          ⊎_map sym (λ b. b) (no_later_trans (⊎_map sym (λ b. b) (least k z c)) o);
    }

-- THEOREM. Where no list is eligible there is none.
pub none_eligible : (bs : List ℕ) → rule_count bs + line_count bs ≤ left_choice → ((m : List ℕ) → Listed (job_of bs) m → Chosen (eligible bs) [] m → ⊥)
    → (m : List ℕ) → Listed (job_of bs) m → ⊥
none_eligible bs few f m l = let x = no_later bs m few l in f x.0 x.1 x.2
