-- Laws of the tables: the scope that they stand for, and how it grows.
use Prim.Native.Nat.{ℕ, suc, ◌+◌, ◌-◌, ◌<◌, ◌≤◌}
use native.Mathlib.Decide.{dec_lt}
use native.Mathlib.Nat.{eq-or-lt_of_le}
use native.Mathlib.Omega.{arith}
use mathlib.Core.Path.{◌≡◌, refl, sym, ◌∙◌, ap, ap₂}
use mathlib.Core.Logic.{⊎_elim}
use mathlib.Core.Bool.{true}
use mathlib.Core.List.{List, [], ◌∷◌, ◌++◌, append_assoc}
use lib.ListN.{length, get_or, take, set, length-set, get_or-append}
use lib.Seq.{get_or-take, get_or-set_same, get_or-set_other, take-set-le, take-suc-set, ext_get_or, get_or-append-add}
use lib.Dec.{leb}
use borrow.Author.Tests.{le-leb, lt-leb}
use Rattle.calculus.specs.Formula.{Clause, Fits, topᴰ, usable}
use Rattle.calculus.specs.Derivation.{Entry, Scope, no_entry, size, entry_at, clause_at, linear_at, extend, lend}
use Rattle.calculus.proofs.RenamingKeeps.{entry_past}
use Rattle.card.specs.Format.{rule_count, line_count, node_count, rule_node, line_node, listing}
use Rattle.card.specs.Fault.{clause_part}
use Rattle.card.specs.Decode.{clause_of, rule_entry, line_entry, scope_of, job_of}
use Rattle.card.proofs.TablesGrow.{length_listing, listing_at}
use Rattle.card.proofs.NodesDecoded.{scope_size, rule_at, line_at}
use Rattle.entries.specs.Inner.Entries.{HeadCode, scope_in, Entered}

-- Lists that agree before n agree at each index before n.
pub cell_kept : (n : ℕ) (l m : List ℕ) → take n l ≡ take n m → (e : ℕ) → e < n → get_or l e 0 ≡ get_or m e 0
cell_kept n l m p e h = sym (get_or-take n l e 0 h) ∙ ap (λ (x : List ℕ). get_or x e 0) p ∙ get_or-take n m e 0 h

-- A table that lists f behind its front, with one value more.
pub listed_more : (front : List ℕ) (f : ℕ → ℕ) (l : List ℕ) (k i : ℕ) → k < length l → take k l ≡ front ++ listing i f
    → take (suc k) (set l k (f i)) ≡ front ++ listing (suc i) f
unfolding listing
listed_more front f l k i h p =
    take-suc-set l k (f i) h ∙ ap (λ (x : List ℕ). x ++ (f i ∷ [])) p ∙ append_assoc front (listing i f) (f i ∷ [])

-- The scope

-- the entry that the table has at e
abbrev table_at : List ℕ → List ℕ → ℕ → Entry
table_at bs nodes e = record { clause = clause_of bs (get_or nodes e 0); linear = leb (rule_count bs) e }

module _ (bs nodes : List ℕ) (n : ℕ) where
  pub scope_len : size (scope_in bs nodes n) ≡ n
  unfolding scope_in size
  scope_len = length_listing _ n

  pub scope_fits : (scope_in bs nodes n).fits ≡ (scope_of bs).fits
  unfolding scope_in
  scope_fits = refl

  module _ (e : ℕ) where
    scope_at : e < n → entry_at (scope_in bs nodes n) e ≡ table_at bs nodes e
    unfolding scope_in entry_at
    scope_at = listing_at _ n e no_entry

    pub scope_clause : e < n → clause_at (scope_in bs nodes n) e ≡ clause_of bs (get_or nodes e 0)
    unfolding clause_at
    scope_clause h = ap (λ x. x.clause) (scope_at h)

    pub scope_linear : e < n → linear_at (scope_in bs nodes n) e ≡ leb (rule_count bs) e
    unfolding linear_at
    scope_linear h = ap (λ x. x.linear) (scope_at h)

    pub scope_usable : e < n → (a : ℕ) → usable (scope_in bs nodes n).fits a (clause_at (scope_in bs nodes n) e)
        ≡ usable (scope_of bs).fits a (clause_of bs (get_or nodes e 0))
    scope_usable h a = ap₂ (λ (t : Fits) (d : Clause). usable t a d) scope_fits (scope_clause h)

    pub scope_past : n ≤ e → clause_at (scope_in bs nodes n) e ≡ topᴰ
    unfolding clause_at
    scope_past h = ap (λ x. x.clause) (entry_past (scope_in bs nodes n) e (omega (arith, scope_len)))

-- scopes with the same test and the same entries
same_scope : (es fs : Scope) → es.fits ≡ fs.fits → size es ≡ size fs → ((e : ℕ) → e < size es → entry_at es e ≡ entry_at fs e) → es ≡ fs
unfolding size entry_at
same_scope es fs t n h = λ i. record { entries = ext_get_or no_entry es.entries fs.entries n h i; fits = t i }

-- the scope depends on the nodes in it alone
pub scope_kept : (bs nodes nodes' : List ℕ) (n : ℕ) → take n nodes ≡ take n nodes' → scope_in bs nodes n ≡ scope_in bs nodes' n
scope_kept bs nodes nodes' n p =
    let l = scope_len bs nodes n in
    same_scope (scope_in bs nodes n) (scope_in bs nodes' n) (scope_fits bs nodes n ∙ sym (scope_fits bs nodes' n))
    (l ∙ sym (scope_len bs nodes' n))
    (λ e h.
    let k : e < n = omega arith in
    scope_at bs nodes n e k
    ∙ ap (λ c. record { clause = clause_of bs c; linear = leb (rule_count bs) e }) (cell_kept n nodes nodes' p e k)
    ∙ sym (scope_at bs nodes' n e k))

-- a node that is put behind the scope is lent
pub lend_scope : (bs nodes : List ℕ) (n c : ℕ) → n < length nodes → rule_count bs ≤ n
    → scope_in bs (set nodes n c) (suc n) ≡ lend (scope_in bs nodes n) (clause_of bs c)
unfolding scope_in listing lend extend
lend_scope bs nodes n c h k =
    ap₂ (λ (es : Scope) (x : Entry). extend es x)
    (scope_kept bs (set nodes n c) nodes n (take-set-le n nodes n c (omega arith)))
    (ap₂ (λ d b. record { clause = clause_of bs d; linear = b }) (get_or-set_same nodes n c 0 h) (le-leb (rule_count bs) n k))

-- The nodes of the rules, then those of the lines, stand for the job's scope.
module _ (bs nodes : List ℕ)
    (listed : take (rule_count bs + line_count bs) nodes ≡ listing (rule_count bs) (rule_node bs) ++ listing (line_count bs) (line_node bs)) where
  rules : List ℕ
  rules = listing (rule_count bs) (rule_node bs)

  lines : List ℕ
  lines = listing (line_count bs) (line_node bs)

  rule_cell : (e : ℕ) → e < rule_count bs → get_or nodes e 0 ≡ rule_node bs e
  unfolding rules lines
  rule_cell e h =
      let r = length_listing (rule_node bs) (rule_count bs) in
      sym (get_or-take (rule_count bs + line_count bs) nodes e 0 (omega arith)) ∙ ap (λ (x : List ℕ). get_or x e 0) listed
      ∙ get_or-append rules lines 0 e (omega arith) ∙ listing_at (rule_node bs) (rule_count bs) e 0 h

  line_cell : (i : ℕ) → i < line_count bs → get_or nodes (rule_count bs + i) 0 ≡ line_node bs i
  unfolding rules lines
  line_cell i h =
      sym (get_or-take (rule_count bs + line_count bs) nodes (rule_count bs + i) 0 (omega arith))
      ∙ ap (λ (x : List ℕ). get_or x (rule_count bs + i) 0) listed
      ∙ ap (λ k. get_or (rules ++ lines) (k + i) 0) (sym (length_listing (rule_node bs) (rule_count bs)))
      ∙ get_or-append-add rules lines i 0 ∙ listing_at (line_node bs) (line_count bs) i 0 h

  entry_at_lem : (e : ℕ) → e < rule_count bs + line_count bs → table_at bs nodes e ≡ entry_at (job_of bs).scope e
  unfolding rule_entry line_entry
  entry_at_lem e h = go (dec_lt e (rule_count bs))
    where
      line : (i : ℕ) → e ≡ rule_count bs + i → table_at bs nodes e ≡ entry_at (job_of bs).scope e
      line i p =
          let k : i < line_count bs = omega arith in
          ap₂ (λ d b. record { clause = clause_of bs d; linear = b })
          (ap (λ x. get_or nodes x 0) p ∙ line_cell i k) (le-leb (rule_count bs) e (omega arith))
          ∙ sym (ap (λ x. entry_at (job_of bs).scope x) p ∙ line_at bs i k)

      go : Dec (e < rule_count bs) → table_at bs nodes e ≡ entry_at (job_of bs).scope e
      go (yes k) =
          ap₂ (λ d b. record { clause = clause_of bs d; linear = b }) (rule_cell e k) (lt-leb (rule_count bs) e k) ∙ sym (rule_at bs e k)
      go (no k) = line (e - rule_count bs) (omega arith)

  pub job_scope : scope_in bs nodes (rule_count bs + line_count bs) ≡ (job_of bs).scope
  unfolding job_of
  job_scope =
      let n = rule_count bs + line_count bs in
      let l = scope_len bs nodes n in
      same_scope (scope_in bs nodes n) (job_of bs).scope (scope_fits bs nodes n) (l ∙ sym (scope_size bs))
      (λ e h. let k : e < n = omega arith in scope_at bs nodes n e k ∙ entry_at_lem e k)

-- Entries

set_here : (l : List ℕ) (n c e : ℕ) → e ≡ n → n < length l → get_or (set l n c) e 0 ≡ c
set_here l n c e p h = ap (λ x. get_or (set l n c) x 0) p ∙ get_or-set_same l n c 0 h

set_below : (l : List ℕ) (n c e : ℕ) → e < n → get_or (set l n c) e 0 ≡ get_or l e 0
set_below l n c e h = get_or-set_other l n e c 0 (λ p. omega arith)

-- an entry more: its node and its head
pub entered_more : {bs nodes heads : List ℕ} {n : ℕ} (c : ℕ) {k : ℕ} → Entered bs nodes heads n → n < 256
    → clause_part bs (node_count bs) c ≡ true → HeadCode bs c k → Entered bs (set nodes n c) (set heads n k) (suc n)
entered_more {bs} {nodes} {heads} {n} c {k} t l p hd =
    let in_nodes : n < length nodes = omega (arith, t.node_room) in
    let in_heads : n < length heads = omega (arith, t.head_room) in
    record {
      node_room = length-set nodes n c ∙ t.node_room;
      head_room = length-set heads n k ∙ t.head_room;
      clauses = λ e h.
          ⊎_elim (λ q. rw (set_here nodes n c e q in_nodes) p) (λ q. rw (set_below nodes n c e q) (t.clauses e q))
          (eq-or-lt_of_le {n = e} {m = n} (omega arith));
      headed = λ e h.
          ⊎_elim (λ q. rw (set_here nodes n c e q in_nodes, set_here heads n k e q in_heads) hd)
          (λ q. rw (set_below nodes n c e q, set_below heads n k e q) (t.headed e q))
          (eq-or-lt_of_le {n = e} {m = n} (omega arith));
    }

pub entered_kept : {bs nodes heads : List ℕ} {n : ℕ} (nodes' heads' : List ℕ) → Entered bs nodes heads n
    → length nodes' ≡ 256 → length heads' ≡ 256 → take n nodes ≡ take n nodes' → take n heads ≡ take n heads'
    → Entered bs nodes' heads' n
entered_kept {bs} {nodes} {heads} {n} nodes' heads' t ln lh p q =
    record {
      node_room = ln;
      head_room = lh;
      clauses = λ e h. rw (cell_kept n nodes nodes' p e h) at (t.clauses e h);
      headed = λ e h. rw (cell_kept n nodes nodes' p e h, cell_kept n heads heads' q e h) at (t.headed e h);
    }

pub entered_none : {bs nodes heads : List ℕ} → length nodes ≡ 256 → length heads ≡ 256 → Entered bs nodes heads 0
entered_none ln lh =
    record { node_room = ln; head_room = lh; clauses = λ e h. absurd (omega arith); headed = λ e h. absurd (omega arith) }
