-- The scope stays the job's with left parts of lends behind: when the search starts, where entries are kept, and with one more lent.
use Prim.Native.Nat.{ℕ, ◌+◌, ◌≤◌, ◌<◌}
use native.Mathlib.Decide.{dec_lt}
use native.Mathlib.Omega.{arith}
use mathlib.Core.Path.{◌≡◌, ◌∙◌, ap}
use mathlib.Core.List.{List}
use lib.ListN.{length, get_or, set}
use lib.Seq.{get_or-set_same, get_or-set_other}
use Rattle.card.specs.Format.{node_count, kind_at, left_at}
use Rattle.card.specs.Decode.{job_of}
use Rattle.scope.specs.Inner.Tables.{Kept}
use Rattle.scope.proofs.TablesAreScopes.{kept_trans, kept_self, kept_set}
use Rattle.entries.specs.Inner.Entries.{scope_in}
use Rattle.entries.proofs.TablesAreScopes.{cell_kept, scope_kept}
use Rattle.prune.specs.Inner.Prune.{job_count, LendPart, Rooted}

pub rooted_start : {bs nodes : List ℕ} → scope_in bs nodes (job_count bs) ≡ (job_of bs).scope → Rooted bs nodes (job_count bs)
rooted_start p = record { base = p; lent = λ e h l. absurd (omega arith) }

base_kept : {bs nodes nodes' : List ℕ} {n : ℕ} → Rooted bs nodes n → Kept (job_count bs) nodes nodes'
    → scope_in bs nodes' (job_count bs) ≡ (job_of bs).scope
base_kept {bs} {nodes} {nodes'} r k = scope_kept bs nodes' nodes (job_count bs) k.same ∙ r.base

pub rooted_kept : {bs nodes nodes' : List ℕ} {n : ℕ} → Rooted bs nodes n → Kept n nodes nodes' → job_count bs ≤ n → Rooted bs nodes' n
rooted_kept {bs} {nodes} {nodes'} {n} r k h = record {
  base = base_kept r (kept_trans h (kept_self (job_count bs) nodes) k);
  lent = λ e l m. rw (cell_kept n nodes' nodes k.same e m) (r.lent e l m);
}

pub rooted_lent : {bs nodes : List ℕ} {n : ℕ} (j : ℕ) → Rooted bs nodes n → j < node_count bs → kind_at bs j ≡ 6 → n < 256
    → length nodes ≡ 256 → job_count bs ≤ n → Rooted bs (set nodes n (left_at bs j)) (n + 1)
rooted_lent {bs} {nodes} {n} j r h k low room w = record {
  base = base_kept r (kept_set (job_count bs) n nodes (left_at bs j) w);
  lent = λ e l m. go e l m (dec_lt e n);
}
  where
    go : (e : ℕ) → job_count bs ≤ e → e < n + 1 → Dec (e < n) → LendPart bs (get_or (set nodes n (left_at bs j)) e 0)
    go e l m (yes q) = rw (get_or-set_other nodes n e (left_at bs j) 0 (λ p. omega arith)) (r.lent e l q)
    go e l m (no q) =
        let here : e ≡ n = omega arith in
        record {
          node = j;
          here = h;
          lend = k;
          part = ap (λ x. get_or (set nodes n (left_at bs j)) x 0) here ∙ get_or-set_same nodes n (left_at bs j) 0 (omega arith);
        }
