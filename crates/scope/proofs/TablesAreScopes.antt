-- Laws of the tables: the scope that they stand for, and how it grows.
use Prim.Native.Nat.{ℕ, zero, suc, ◌<◌, ◌≤◌}
use native.Mathlib.Nat.{eq-or-lt_of_le}
use native.Mathlib.Omega.{arith}
use mathlib.Core.Path.{◌≡◌, refl, sym, ◌∙◌, ap, ap₂}
use mathlib.Core.Logic.{⊎_elim}
use mathlib.Core.Bool.{Bool, true, false}
use mathlib.Core.List.{List, [], ◌∷◌, ◌++◌}
use lib.ListN.{length, get_or, take, set, length-set}
use lib.Seq.{get_or-take, get_or-set_same, get_or-set_other, take-set-le, take-take}
use Rattle.calculus.specs.Derivation.{Entry, no_entry, size, entry_at, clause_at, linear_at, extend, lend}
use Rattle.card.specs.Format.{rule_count, line_count, node_count, listing}
use Rattle.card.specs.Fault.{clause_part}
use Rattle.card.specs.Decode.{clause_of, rule_entry, line_entry, scope_of, job_of}
use Rattle.card.proofs.TablesGrow.{length_listing, listing_at}
use Rattle.scope.specs.Inner.Tables.{table_scope, TableEntered, Kept}

-- tables that agree before n agree at each place before n
cell_kept : {A : Type 0} (z : A) (n : ℕ) (l m : List A) → take n l ≡ take n m → (e : ℕ) → e < n → get_or l e z ≡ get_or m e z
cell_kept {A} z n l m p e h = sym (get_or-take n l e z h) ∙ ap (λ (x : List A). get_or x e z) p ∙ get_or-take n m e z h

listing_same : {A : Type 0} (n : ℕ) (f g : ℕ → A) → ((e : ℕ) → e < n → f e ≡ g e) → listing n f ≡ listing n g
unfolding listing
listing_same zero f g h = refl
listing_same (suc n) f g h = ap₂ (λ l x. l ++ (x ∷ [])) (listing_same n f g (λ e k. h e (omega arith))) (h n (omega arith))

-- the entry that the tables have at e
abbrev cell_at : List ℕ → List ℕ → List Bool → ℕ → Entry
cell_at bs nodes linear e = record { clause = clause_of bs (get_or nodes e 0); linear = get_or linear e false }

module _ (bs nodes : List ℕ) (linear : List Bool) (n : ℕ) where
  pub scope_size : size (table_scope bs nodes linear n) ≡ n
  unfolding table_scope size
  scope_size = length_listing (cell_at bs nodes linear) n

  module _ (e : ℕ) where
    scope_at : e < n → entry_at (table_scope bs nodes linear n) e ≡ cell_at bs nodes linear e
    unfolding table_scope entry_at
    scope_at = listing_at (cell_at bs nodes linear) n e no_entry

    pub scope_clause : e < n → clause_at (table_scope bs nodes linear n) e ≡ clause_of bs (get_or nodes e 0)
    unfolding clause_at
    scope_clause h = ap (λ x. x.clause) (scope_at h)

    pub scope_linear : e < n → linear_at (table_scope bs nodes linear n) e ≡ get_or linear e false
    unfolding linear_at
    scope_linear h = ap (λ x. x.linear) (scope_at h)

-- the scope depends on the entries in it alone
pub scope_kept : (bs nodes nodes' : List ℕ) (linear linear' : List Bool) (n : ℕ) → Kept n nodes nodes' → Kept n linear linear'
    → table_scope bs nodes' linear' n ≡ table_scope bs nodes linear n
unfolding table_scope
scope_kept bs nodes nodes' linear linear' n p q =
    ap (λ es. record { entries = es; fits = (scope_of bs).fits })
    (listing_same n (cell_at bs nodes' linear') (cell_at bs nodes linear)
    (λ e h. ap₂ (λ d b. record { clause = clause_of bs d; linear = b })
    (cell_kept 0 n nodes' nodes p.same e h) (cell_kept false n linear' linear q.same e h)))

-- what is put behind the scope joins it
pub scope_more : (bs nodes : List ℕ) (linear : List Bool) (n c : ℕ) (b : Bool) → n < length nodes → n < length linear
    → table_scope bs (set nodes n c) (set linear n b) (suc n) ≡ extend (table_scope bs nodes linear n) (record { clause = clause_of bs c; linear = b })
unfolding table_scope listing extend
scope_more bs nodes linear n c b h k =
    ap (λ es. record { entries = es; fits = (scope_of bs).fits })
    (ap₂ (λ es x. es ++ (x ∷ []))
    (listing_same n (cell_at bs (set nodes n c) (set linear n b)) (cell_at bs nodes linear)
    (λ e g. ap₂ (λ d t. record { clause = clause_of bs d; linear = t })
    (get_or-set_other nodes n e c 0 (λ p. omega arith)) (get_or-set_other linear n e b false (λ p. omega arith))))
    (ap₂ (λ d t. record { clause = clause_of bs d; linear = t }) (get_or-set_same nodes n c 0 h) (get_or-set_same linear n b false k)))

pub lend_scope : (bs nodes : List ℕ) (linear : List Bool) (n c : ℕ) → n < length nodes → n < length linear
    → table_scope bs (set nodes n c) (set linear n true) (suc n) ≡ lend (table_scope bs nodes linear n) (clause_of bs c)
unfolding lend
lend_scope bs nodes linear n c h k = scope_more bs nodes linear n c true h k

-- the entries of the rules, then those of the lines, are the job's scope
pub job_scope : (bs nodes : List ℕ) (linear : List Bool) (n : ℕ)
    → (table_scope bs nodes linear n).entries ≡ listing (rule_count bs) (rule_entry bs) ++ listing (line_count bs) (line_entry bs)
    → table_scope bs nodes linear n ≡ (job_of bs).scope
unfolding table_scope job_of scope_of
job_scope bs nodes linear n p = ap (λ es. record { entries = es; fits = (scope_of bs).fits }) p

-- Entries

pub kept_trans : {A : Type 0} {n m : ℕ} {xs ys zs : List A} → n ≤ m → Kept n xs ys → Kept m ys zs → Kept n xs zs
kept_trans {n} {m} {ys} {zs} h p q = record {
  size = q.size ∙ p.size;
  same = sym (take-take n m zs h) ∙ ap (take n) q.same ∙ take-take n m ys h ∙ p.same;
}

pub kept_again : {A : Type 0} (n : ℕ) {xs ys zs : List A} → Kept n xs ys → Kept n ys zs → Kept n xs zs
kept_again n = kept_trans {n = n} {m = n} (omega arith)

pub kept_self : {A : Type 0} (n : ℕ) (xs : List A) → Kept n xs xs
kept_self n xs = record { size = refl; same = refl }

pub kept_set : {A : Type 0} (n i : ℕ) (xs : List A) (x : A) → n ≤ i → Kept n xs (set xs i x)
kept_set n i xs x h = record { size = length-set xs i x; same = take-set-le n xs i x h }

set_here : {A : Type 0} (z : A) (l : List A) (n : ℕ) (c : A) (e : ℕ) → e ≡ n → n < length l → get_or (set l n c) e z ≡ c
set_here z l n c e p h = ap (λ x. get_or (set l n c) x z) p ∙ get_or-set_same l n c z h

set_below : {A : Type 0} (z : A) (l : List A) (n : ℕ) (c : A) (e : ℕ) → e < n → get_or (set l n c) e z ≡ get_or l e z
set_below z l n c e h = get_or-set_other l n e c z (λ p. omega arith)

pub entered_none : {bs nodes : List ℕ} {linear : List Bool} → length nodes ≡ 256 → length linear ≡ 256 → TableEntered bs nodes linear 0
entered_none ln lb =
    record { node_room = ln; linear_room = lb; clauses = λ e h. absurd (omega arith); items = λ e h. absurd (omega arith) }

-- an entry more: its node, and whether it is linear
pub entered_more : {bs nodes : List ℕ} {linear : List Bool} {n : ℕ} (c : ℕ) (b : Bool) → TableEntered bs nodes linear n → n < 256
    → clause_part bs (node_count bs) c ≡ true → (b ≡ true → rule_count bs ≤ n) → TableEntered bs (set nodes n c) (set linear n b) (suc n)
entered_more {bs} {nodes} {linear} {n} c b t l p r =
    let in_nodes : n < length nodes = omega (arith, t.node_room) in
    let in_linear : n < length linear = omega (arith, t.linear_room) in
    record {
      node_room = length-set nodes n c ∙ t.node_room;
      linear_room = length-set linear n b ∙ t.linear_room;
      clauses = λ e h.
          ⊎_elim (λ q. rw (set_here 0 nodes n c e q in_nodes) p) (λ q. rw (set_below 0 nodes n c e q) (t.clauses e q))
          (eq-or-lt_of_le {n = e} {m = n} (omega arith));
      items = λ e h g.
          ⊎_elim (λ q. let k = r (sym (set_here false linear n b e q in_linear) ∙ g) in omega arith)
          (λ q. t.items e q (sym (set_below false linear n b e q) ∙ g))
          (eq-or-lt_of_le {n = e} {m = n} (omega arith));
    }

pub entered_kept : {bs nodes nodes' : List ℕ} {linear linear' : List Bool} {n : ℕ} → TableEntered bs nodes linear n
    → Kept n nodes nodes' → Kept n linear linear' → TableEntered bs nodes' linear' n
entered_kept {bs} {nodes} {nodes'} {linear} {linear'} {n} t p q =
    record {
      node_room = p.size ∙ t.node_room;
      linear_room = q.size ∙ t.linear_room;
      clauses = λ e h. rw (cell_kept 0 n nodes' nodes p.same e h) (t.clauses e h);
      items = λ e h g. t.items e h (sym (cell_kept false n linear' linear q.same e h) ∙ g);
    }
