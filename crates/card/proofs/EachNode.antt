-- What holds of every row of the table of kinds, of every node's reading, and of every clause in scope of a sound card.
use Prim.Native.Nat.{ℕ, zero, suc, ◌+◌, ◌-◌, ◌≤◌, ◌<◌}
use native.Mathlib.Omega.{arith}
use native.Mathlib.Nat.{eq-or-lt_of_le}
use native.Mathlib.Decide.{dec_lt}
use mathlib.Core.Path.{◌≡◌, sym, ap, subst, ◌∙◌}
use mathlib.Core.Logic.{⊎_elim}
use mathlib.Core.List.{List, [], ◌∷◌}
use lib.ListN.{get_or}
use Rattle.calculus.specs.Formula.{Clause}
use Rattle.calculus.specs.Derivation.{Entry, size, entry_at, clause_at}
use Rattle.card.specs.Format.{node_count, rule_count, line_count, rule_node, line_node}
use Rattle.card.specs.Kinds.{Kind, unknown, kinds, kind_of}
use Rattle.card.specs.Fault.{Sound}
use Rattle.card.specs.Decode.{NodeReading, read_at, clause_of, rule_entry, line_entry, job_of}
use Rattle.card.proofs.NodesDecoded.{scope_size, rule_at, line_at}
use Rattle.card.proofs.SoundNodes.{clause_lower, sound_rule_node, sound_line_node}

-- what each row from kind n on has
unfoldable pub EachRow : (ℕ → Kind → Type 0) → ℕ → List Kind → Type 0
EachRow P n [] = Unit {0}
EachRow P n (x ∷ xs) = P n x × EachRow P (suc n) xs

infixr 20 ◌and◌
unfoldable pub ◌and◌ : {A B : Type 0} → A → B → A × B
a and b = (a, b)

-- every kind has, if the unknown one has it too
at_row : (P : ℕ → Kind → Type 0) (n : ℕ) (xs : List Kind) → EachRow P n xs → ((k : ℕ) → P k unknown) → (k : ℕ) → P (n + k) (get_or xs k unknown)
unfolding EachRow
at_row P n [] h u k = u (n + k)
at_row P n (x ∷ xs) h u zero = subst (λ m. P m x) (omega arith) h.0
at_row P n (x ∷ xs) h u (suc k) = subst (λ m. P m (get_or xs k unknown)) (omega arith) (at_row P (suc n) xs h.1 u k)

pub each_kind : (P : ℕ → Kind → Type 0) → EachRow P 0 kinds → ((k : ℕ) → P k unknown) → (k : ℕ) → P k (kind_of k)
unfolding kind_of
each_kind P h u k = subst (λ m. P m (get_or kinds k unknown)) (omega arith) (at_row P 0 kinds h u k)

module _ (bs : List ℕ) where
  -- of every node, if of each where it is of those before it
  pub each_node : (P : ℕ → NodeReading → Type 0)
      → ((i : ℕ) → i < node_count bs → ((k : ℕ) → k < i → P k (read_at bs k)) → P i (read_at bs i)) → (i : ℕ) → i < node_count bs → P i (read_at bs i)
  each_node P next i h = up_to (node_count bs) (omega arith) i h
    where
      up_to : (n : ℕ) → n ≤ node_count bs → (i : ℕ) → i < n → P i (read_at bs i)
      up_to zero h i g = absurd (omega arith)
      up_to (suc n) h i g = ⊎_elim
          (λ e. next i (omega arith) (λ k f. up_to n (omega arith) k (omega arith)))
          (λ l. up_to n (omega arith) i l)
          (eq-or-lt_of_le {n = i} {m = n} (omega arith))

  -- of every clause in scope, if of every node read as one
  pub each_clause : Sound bs → (P : Clause → Type 0) → ((i : ℕ) → i < node_count bs → P (clause_of bs i))
      → (e : ℕ) → e < size (job_of bs).scope → P (clause_at (job_of bs).scope e)
  unfolding clause_at rule_entry line_entry
  each_clause s P all e h = go (dec_lt e (rule_count bs))
    where
      rule : (i : ℕ) → i < rule_count bs → P (clause_of bs (rule_node bs i))
      rule i g = all (rule_node bs i) (clause_lower bs (node_count bs) (rule_node bs i) (sound_rule_node s i g))

      line : (i : ℕ) → i < line_count bs → P (clause_of bs (line_node bs i))
      line i g = all (line_node bs i) (clause_lower bs (node_count bs) (line_node bs i) (sound_line_node s i g))

      go : Dec (e < rule_count bs) → P (clause_at (job_of bs).scope e)
      go (yes g) = subst P (sym (ap (λ (x : Entry). x.clause) (rule_at bs e g))) (rule e g)
      go (no g) =
          let i : ℕ = e - rule_count bs in
          let few : i < line_count bs = omega (arith, scope_size bs) in
          let here : e ≡ rule_count bs + i = omega arith in
          let entry = ap (λ (k : ℕ). entry_at (job_of bs).scope k) here ∙ line_at bs i few in
          subst P (sym (ap (λ (x : Entry). x.clause) entry)) (line i few)
