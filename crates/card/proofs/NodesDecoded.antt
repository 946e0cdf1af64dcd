-- Laws of decoding: what a node of each kind reads as, and which entries stand where.
use Prim.Native.Nat.{ℕ, ◌+◌, ◌-◌, ◌<◌, ◌≤◌}
use native.Mathlib.Omega.{arith}
use mathlib.Core.Path.{◌≡◌, refl, sym, ◌∙◌, ap, ap₂, subst}
use mathlib.Core.Logic.{⊎_elim}
use mathlib.Core.Bool.{Bool, true, ◌&&◌}
use mathlib.Core.List.{List, ◌++◌}
use lib.ListN.{length, get_or, length-append, get_or-append}
use lib.Seq.{get_or-append-add}
use lib.Dec.{leb, ltb, eqb}
use borrow.Author.Tests.{leb-true, ltb-true}
use Rattle.calculus.specs.Formula.{atomᴳ, topᴳ, oneᴳ, zeroᴳ, tensor, with, oplus, lolliᴳ, atomᴰ, topᴰ, lolliᴰ, withᴰ}
use Rattle.calculus.specs.Items.{◌∪◌}
use Rattle.calculus.specs.Derivation.{no_entry, size, entry_at}
use Rattle.calculus.specs.Job.{Listed}
use Rattle.calculus.proofs.SetLaws.{∪_cases}
use Rattle.calculus.specs.Inner.Summary.{Bounded}
use Rattle.card.specs.Format.{rule_count, line_count, kind_at, left_at, right_at, line_byte, listing, grow, step_limit}
use Rattle.card.specs.Kinds.{kinds, kind_of}
use Rattle.card.specs.Decode.{NodeReading, no_node_reading, held, read_by, read_step, read_at}
use Rattle.card.specs.Decode.{goal_at, clause_of, rule_entry, line_entry, lines_with, scope_of, job_of}
use Rattle.card.proofs.FrontChecked.{both_left, both_right}
use Rattle.card.proofs.TablesGrow.{grow_at, length_listing, listing_at}

module _ (bs : List ℕ) (i : ℕ) where
  -- a part below node i reads the same in the table before i as by itself
  part_reads : (k : ℕ) → k < i → get_or (grow (read_step bs) i) k no_node_reading ≡ read_at bs k
  unfolding read_at
  part_reads k h = grow_at (read_step bs) i k no_node_reading h

  -- what a kind makes of a node, from the readings before it
  module _ (t : List NodeReading) where
    abbrev part_left : NodeReading
    part_left = get_or t (left_at bs i) no_node_reading

    abbrev part_right : NodeReading
    part_right = get_or t (right_at bs i) no_node_reading

    step_name : kind_at bs i ≡ 1 → ((read_step bs t i).goal ≡ atomᴳ (left_at bs i)) × ((read_step bs t i).clause ≡ atomᴰ (left_at bs i))
    unfolding read_step read_by held kind_of kinds
    step_name h = rw h (refl, refl)

    step_rest : kind_at bs i ≡ 2 → ((read_step bs t i).goal ≡ topᴳ) × ((read_step bs t i).clause ≡ topᴰ)
    unfolding read_step read_by held kind_of kinds
    step_rest h = rw h (refl, refl)

    step_done : kind_at bs i ≡ 3 → (read_step bs t i).goal ≡ oneᴳ
    unfolding read_step read_by held kind_of kinds
    step_done h = rw h refl

    step_both : kind_at bs i ≡ 4 → (read_step bs t i).goal ≡ tensor part_left.goal part_right.goal
    unfolding read_step read_by held kind_of kinds
    step_both h = rw h refl

    step_either : kind_at bs i ≡ 5 → (read_step bs t i).goal ≡ with part_left.goal part_right.goal
    unfolding read_step read_by held kind_of kinds
    step_either h = rw h refl

    step_lend : kind_at bs i ≡ 6 → (read_step bs t i).goal ≡ lolliᴳ part_left.clause part_right.goal
    unfolding read_step read_by held kind_of kinds
    step_lend h = rw h refl

    step_recipe : kind_at bs i ≡ 7 → (read_step bs t i).clause ≡ lolliᴰ part_left.goal part_right.clause
    unfolding read_step read_by held kind_of kinds
    step_recipe h = rw h refl

    step_one_of : kind_at bs i ≡ 8 → (read_step bs t i).goal ≡ oplus part_left.goal part_right.goal
    unfolding read_step read_by held kind_of kinds
    step_one_of h = rw h refl

    step_never : kind_at bs i ≡ 9 → (read_step bs t i).goal ≡ zeroᴳ
    unfolding read_step read_by held kind_of kinds
    step_never h = rw h refl

    step_menu : kind_at bs i ≡ 10 → (read_step bs t i).clause ≡ withᴰ part_left.clause part_right.clause
    unfolding read_step read_by held kind_of kinds
    step_menu h = rw h refl

  before : List NodeReading
  before = grow (read_step bs) i

  pub reads_name : kind_at bs i ≡ 1 → (goal_at bs i ≡ atomᴳ (left_at bs i)) × (clause_of bs i ≡ atomᴰ (left_at bs i))
  unfolding goal_at clause_of read_at before
  reads_name h = step_name before h

  pub reads_rest : kind_at bs i ≡ 2 → (goal_at bs i ≡ topᴳ) × (clause_of bs i ≡ topᴰ)
  unfolding goal_at clause_of read_at before
  reads_rest h = step_rest before h

  pub reads_done : kind_at bs i ≡ 3 → goal_at bs i ≡ oneᴳ
  unfolding goal_at read_at before
  reads_done h = step_done before h

  pub reads_never : kind_at bs i ≡ 9 → goal_at bs i ≡ zeroᴳ
  unfolding goal_at read_at before
  reads_never h = step_never before h

  module _ (l : left_at bs i < i) (r : right_at bs i < i) where
    pub reads_both : kind_at bs i ≡ 4 → goal_at bs i ≡ tensor (goal_at bs (left_at bs i)) (goal_at bs (right_at bs i))
    unfolding goal_at read_at before
    reads_both h =
        step_both before h
        ∙ ap₂ (λ p q. tensor p.goal q.goal) (part_reads (left_at bs i) l) (part_reads (right_at bs i) r)

    pub reads_either : kind_at bs i ≡ 5 → goal_at bs i ≡ with (goal_at bs (left_at bs i)) (goal_at bs (right_at bs i))
    unfolding goal_at read_at before
    reads_either h =
        step_either before h
        ∙ ap₂ (λ p q. with p.goal q.goal) (part_reads (left_at bs i) l) (part_reads (right_at bs i) r)

    pub reads_lend : kind_at bs i ≡ 6 → goal_at bs i ≡ lolliᴳ (clause_of bs (left_at bs i)) (goal_at bs (right_at bs i))
    unfolding goal_at clause_of read_at before
    reads_lend h =
        step_lend before h
        ∙ ap₂ (λ p q. lolliᴳ p.clause q.goal) (part_reads (left_at bs i) l) (part_reads (right_at bs i) r)

    pub reads_recipe : kind_at bs i ≡ 7 → clause_of bs i ≡ lolliᴰ (goal_at bs (left_at bs i)) (clause_of bs (right_at bs i))
    unfolding goal_at clause_of read_at before
    reads_recipe h =
        step_recipe before h
        ∙ ap₂ (λ p q. lolliᴰ p.goal q.clause) (part_reads (left_at bs i) l) (part_reads (right_at bs i) r)

    pub reads_one_of : kind_at bs i ≡ 8 → goal_at bs i ≡ oplus (goal_at bs (left_at bs i)) (goal_at bs (right_at bs i))
    unfolding goal_at read_at before
    reads_one_of h =
        step_one_of before h
        ∙ ap₂ (λ p q. oplus p.goal q.goal) (part_reads (left_at bs i) l) (part_reads (right_at bs i) r)

    pub reads_menu : kind_at bs i ≡ 10 → clause_of bs i ≡ withᴰ (clause_of bs (left_at bs i)) (clause_of bs (right_at bs i))
    unfolding clause_of read_at before
    reads_menu h =
        step_menu before h
        ∙ ap₂ (λ p q. withᴰ p.clause q.clause) (part_reads (left_at bs i) l) (part_reads (right_at bs i) r)

-- "rules from 0, lines from P"
module _ (bs : List ℕ) where
  pub scope_size : size (job_of bs).scope ≡ rule_count bs + line_count bs
  unfolding job_of scope_of size
  scope_size =
      length-append (listing (rule_count bs) (rule_entry bs)) (listing (line_count bs) (line_entry bs))
      ∙ ap₂ ◌+◌ (length_listing (rule_entry bs) (rule_count bs)) (length_listing (line_entry bs) (line_count bs))

  pub rule_at : (i : ℕ) → i < rule_count bs → entry_at (job_of bs).scope i ≡ rule_entry bs i
  unfolding job_of scope_of entry_at
  rule_at i h =
      get_or-append (listing (rule_count bs) (rule_entry bs)) (listing (line_count bs) (line_entry bs)) no_entry i
      (rw (length_listing (rule_entry bs) (rule_count bs)) h)
      ∙ listing_at (rule_entry bs) (rule_count bs) i no_entry h

  pub line_at : (i : ℕ) → i < line_count bs → entry_at (job_of bs).scope (rule_count bs + i) ≡ line_entry bs i
  unfolding job_of scope_of entry_at
  line_at i h =
      ap (λ n. get_or (listing (rule_count bs) (rule_entry bs) ++ listing (line_count bs) (line_entry bs)) (n + i) no_entry)
      (sym (length_listing (rule_entry bs) (rule_count bs)))
      ∙ get_or-append-add (listing (rule_count bs) (rule_entry bs)) (listing (line_count bs) (line_entry bs)) i no_entry
      ∙ listing_at (line_entry bs) (line_count bs) i no_entry h

  -- must and may lines are lines
  pub line_within : (b e : ℕ) → lines_with bs b e ≡ true → (rule_count bs ≤ e) × (e < rule_count bs + line_count bs)
  unfolding lines_with
  line_within b e h =
      let byte : Bool = eqb (line_byte bs (e - rule_count bs)) b in
      let rest : Bool = ltb e (rule_count bs + line_count bs) && byte in
      let r = both_right (leb (rule_count bs) e) rest h in
      (leb-true _ _ (both_left (leb (rule_count bs) e) rest h), ltb-true _ _ (both_left (ltb e (rule_count bs + line_count bs)) byte r))

  pub lines_bounded : Bounded (job_of bs).scope ((job_of bs).strict ∪ (job_of bs).lax)
  unfolding job_of ◌∪◌
  lines_bounded = record { bounded = λ e h. ⊎_elim (λ p. lower 1 e p) (λ p. lower 0 e p) (∪_cases (lines_with bs 1) (lines_with bs 0) e h) }
    where
      lower : (b e : ℕ) → lines_with bs b e ≡ true
          → e < size (scope_of bs)
      lower b e p = let w = line_within b e p in let n = scope_size in omega (arith, w.1)

-- "no more than s steps"
pub listed_short : (bs l : List ℕ) → Listed (job_of bs) l → length l ≤ step_limit bs
unfolding job_of
listed_short bs l x = subst (λ (m : List ℕ). length m ≤ step_limit bs) x.list x.limited.counted
