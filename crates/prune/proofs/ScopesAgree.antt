-- The scope of the entries is that of the tables in which all entries but the rules are linear; and what the table of bounds asks of
-- those follows from what the prunings are handed.
use Prim.Native.Nat.{ℕ, zero, suc, ◌+◌, ◌-◌, ◌≤◌, ◌<◌}
use native.Mathlib.Decide.{dec_lt}
use native.Mathlib.Omega.{arith}
use mathlib.Core.Path.{◌≡◌, refl, sym, ◌∙◌, ap, ap₂}
use mathlib.Core.Bool.{Bool, false}
use mathlib.Core.List.{List, [], ◌∷◌, ◌++◌}
use lib.ListN.{get_or}
use lib.Dec.{leb}
use borrow.Author.Tests.{leb-true, le-leb, lt-leb}
use Rattle.calculus.specs.Derivation.{Scope, clause_at}
use Rattle.card.specs.Format.{rule_count, line_count, rule_node, line_node, listing}
use Rattle.card.specs.Decode.{clause_of, rule_entry, line_entry, scope_of, job_of}
use Rattle.card.proofs.TablesGrow.{length_listing, listing_at}
use Rattle.card.proofs.NodesDecoded.{rule_at, line_at}
use Rattle.card.proofs.SoundNodes.{sound_rule_node, sound_line_node}
use Rattle.scope.specs.Inner.Tables.{table_scope, TableEntered}
use Rattle.entries.specs.Inner.Entries.{scope_in}
use Rattle.entries.proofs.TablesAreScopes.{scope_clause}
use Rattle.branch.specs.declared.Branch.{Branch}
use Rattle.bounds.specs.Inner.Table.{OfCard, rule, line, lent}
use Rattle.bounds.specs.Inner.Doom.{ScopeOfCard}
use Rattle.prune.specs.Inner.Prune.{job_count, PruneAsks}

-- all entries but the rules
unfoldable pub linear_of : List ℕ → List Bool
linear_of bs = listing 256 (leb (rule_count bs))

linear_at_lem : (bs : List ℕ) (e : ℕ) → e < 256 → get_or (linear_of bs) e false ≡ leb (rule_count bs) e
unfolding linear_of
linear_at_lem bs e h = listing_at (leb (rule_count bs)) 256 e false h

listing_same : {A : Type 0} (n : ℕ) (f g : ℕ → A) → ((e : ℕ) → e < n → f e ≡ g e) → listing n f ≡ listing n g
unfolding listing
listing_same zero f g h = refl
listing_same (suc n) f g h = ap₂ (λ l x. l ++ (x ∷ [])) (listing_same n f g (λ e k. h e (omega arith))) (h n (omega arith))

pub scopes_agree : (bs nodes : List ℕ) (n : ℕ) → n ≤ 256 → table_scope bs nodes (linear_of bs) n ≡ scope_in bs nodes n
unfolding table_scope scope_in
scopes_agree bs nodes n few =
    ap (λ es. record { entries = es; fits = (scope_of bs).fits })
    (listing_same n _ _ (λ e h. ap (λ b. record { clause = clause_of bs (get_or nodes e 0); linear = b }) (linear_at_lem bs e (omega arith))))

module _ {bs nodes agenda : List ℕ} {b : Branch} (a : PruneAsks bs nodes agenda b) where
  pub entered : TableEntered bs nodes (linear_of bs) b.count
  unfolding linear_of
  entered = record {
    node_room = a.node_room;
    linear_room = length_listing (leb (rule_count bs)) 256;
    clauses = a.clauses;
    items = λ e h p. leb-true (rule_count bs) e (sym (linear_at_lem bs e (omega (arith, a.few))) ∙ p);
  }

  -- the clauses of the job's entries
  job_clause : (e : ℕ) → e < job_count bs → clause_of bs (get_or nodes e 0) ≡ clause_at (job_of bs).scope e
  job_clause e h = sym (scope_clause bs nodes (job_count bs) e h) ∙ ap (λ (es : Scope). clause_at es e) a.rooted.base

  rule_clause : (k : ℕ) → k < rule_count bs → clause_of bs (get_or nodes k 0) ≡ clause_of bs (rule_node bs k)
  unfolding clause_at rule_entry
  rule_clause k h = job_clause k (omega arith) ∙ ap (λ x. x.clause) (rule_at bs k h)

  line_clause : (k : ℕ) → k < line_count bs → clause_of bs (get_or nodes (rule_count bs + k) 0) ≡ clause_of bs (line_node bs k)
  unfolding clause_at line_entry
  line_clause k h = job_clause (rule_count bs + k) (omega arith) ∙ ap (λ x. x.clause) (line_at bs k h)

  -- each entry is the clause of a rule, of a line or of a lend
  kin : (e : ℕ) → e < b.count → OfCard bs (clause_of bs (get_or nodes e 0)) (leb (rule_count bs) e)
  kin e h = go (dec_lt e (rule_count bs)) (dec_lt e (job_count bs))
    where
      go : Dec (e < rule_count bs) → Dec (e < job_count bs) → OfCard bs (clause_of bs (get_or nodes e 0)) (leb (rule_count bs) e)
      go (yes l) m = rw (lt-leb (rule_count bs) e l) (record {
        node = rule_node bs e;
        here = sound_rule_node a.sound e l;
        reads = sym (rule_clause e l);
        origin = rule e (rule_node bs e) l refl;
      })
      go (no l) (yes m) =
          let k = e - rule_count bs in
          let at : rule_count bs + k ≡ e = omega arith in
          let low : k < line_count bs = omega arith in
          rw (le-leb (rule_count bs) e (omega arith)) (record {
            node = line_node bs k;
            here = sound_line_node a.sound k low;
            reads = sym (line_clause k low) ∙ ap (λ x. clause_of bs (get_or nodes x 0)) at;
            origin = line k (line_node bs k) low refl;
          })
      go (no l) (no m) =
          let p = a.rooted.lent e (omega arith) h in
          rw (le-leb (rule_count bs) e (omega arith)) (record {
            node = get_or nodes e 0;
            here = a.clauses e h;
            reads = refl;
            origin = lent p.node (get_or nodes e 0) p.here p.lend p.part;
          })

  pub stocked : ScopeOfCard bs nodes (linear_of bs) b.count
  stocked = record {
    whole = a.whole;
    kin = λ e h. rw (linear_at_lem bs e (omega (arith, a.few))) (kin e h);
    lines = line_clause;
  }
