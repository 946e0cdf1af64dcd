-- The calls of the walk: what each asks holds where it is made, and what it answers tells of the whole.
use Rattle.std.proofs.Common.{ℕ, ◌+◌, ◌-◌, ◌*◌, ◌≤◌, ◌<◌, arith, add-one, ◌≡◌, refl, sym, ◌∙◌, ap, subst, Bool, true, false, List}
use Rattle.std.proofs.Common.{length, get_or, Result, Ok, Err}
use Rattle.std.proofs.lemmas.Bool.{false≢true}
use mathlib.Core.Logic.{◌⊎◌, inl, inr, ⊎_elim}
use Rattle.calculus.specs.Formula.{Goal, atomᴳ, oplus, lolliᴳ, withᴰ, usable}
use Rattle.calculus.specs.Derivation.{Scope, clause_at, lend}
use Rattle.calculus.specs.Wanted.{Part, goal, meet, Both, parts_⊗, parts_&, parts_⊸, Side, side_⊕₁, side_⊕₂, side_&₁, side_&₂}
use Rattle.calculus.specs.Items.{Items, ∅, ◌∪◌, ◌∩◌}
use Rattle.calculus.specs.Inner.Trace.{Gathered, Ends, Tensors, Withs}
use Rattle.calculus.specs.Inner.Surely.{Traced}
use Rattle.calculus.proofs.SurelyByList.{traced_⊗, traced_&, traced_head, traced_recipe}
use Rattle.lines.specs.Set.{member, Words}
use Rattle.lines.specs.Count.{bit}
use Rattle.lines.proofs.CountLaws.{bit_one}
use Rattle.card.specs.Format.{node_count, rule_count, kind_at, left_at, right_at}
use Rattle.card.specs.Fault.{goal_part, clause_part, height_at}
use Rattle.card.specs.Decode.{goal_at, clause_of, scope_of}
use Rattle.card.specs.Inner.Size.{weight, clause_weight}
use Rattle.card.proofs.CardChecked.{sound_front}
use Rattle.card.proofs.NodesDecoded.{reads_name, reads_never, line_within}
use Rattle.card.proofs.SoundNodes.{goal_lower, goal_above, clause_lower, clause_above, clause_kind, node_here, height_low}
use Rattle.card.proofs.SoundNodes.{height_pos, height_parts, both_parts, either_parts, lend_parts, recipe_parts}
use Rattle.card.proofs.SoundNodes.{one_of_parts, menu_parts, sound_both, sound_either, sound_lend, sound_recipe, sound_one_of}
use Rattle.card.proofs.SoundNodes.{sound_menu, usable_name, usable_rest, usable_recipe}
use Rattle.card.proofs.WeightsFall.{both_weight, either_weight, lend_weight, one_of_weight, recipe_weight, menu_weight, clause_low}
use Rattle.scope.specs.Inner.Sets.{strict_of}
use Rattle.scope.specs.declared.Tables.{Tables}
use Rattle.scope.specs.Inner.Tables.{table_scope, put_t, Kept}
use Rattle.scope.proofs.SetsAreItems.{items_at_lem, strict_items}
use Rattle.scope.proofs.TablesAreScopes.{scope_size, scope_clause, scope_linear, scope_kept, lend_scope, entered_kept, entered_more}
use Rattle.scope.proofs.TablesAreScopes.{kept_self, kept_trans, kept_again, kept_set}
use Rattle.card.specs.declared.faults.Refusal.{Refusal}
use Rattle.summary.specs.declared.Position.{Position}
use Rattle.summary.specs.declared.Summary.{Summary}
use Rattle.summary.specs.Inner.Values.{on_b, lent_p, stepped_b, ended_w, tensor_w, with_w, without_s, using_w}
use Rattle.summary.specs.Inner.Walks.{EndsWith, StopsWith, Tells, WalkReady, GoalWalkReady, ClauseReady, StepUsable, Stepping, PartWalks}
use Rattle.summary.specs.Inner.Walks.{SideChosen, CanChoose, SideTaking}
use Rattle.summary.proofs.WalksTell.{ends_here, fails_here, first_stops, second_stops, tensor_ends, with_ends, lend_ends, lend_stops}
use Rattle.summary.proofs.WalksTell.{side_ends, side_stops, one_of_stops, menu_stops, rule_ends, item_ends, use_stops}

-- The falling number of a call: nesting and steps left, then the size of its formula, a goal or a clause in use.
abbrev pub ahead : Position → ℕ
ahead b = (b.depth + (b.given - b.at)) * 1024

abbrev pub goal_number : List ℕ → Position → ℕ → ℕ
goal_number bs b node = ahead b + 4 * weight (goal_at bs node)

abbrev pub clause_number : List ℕ → Position → ℕ → ℕ
clause_number bs b node = ahead b + 4 * clause_weight (clause_of bs node)

-- which parts of a menu have a head that is the name
pub record Fitting (bs : List ℕ) (name node : ℕ) (first second : Bool) : Type 0 where
  pub left_fits : first ≡ usable (scope_of bs).fits name (clause_of bs (left_at bs node))
  pub right_fits : second ≡ usable (scope_of bs).fits name (clause_of bs (right_at bs node))

module _ {bs steps : List ℕ} {ts : Tables} {b : Position} (R : WalkReady bs steps ts b) where
  abbrev es : Scope
  es = table_scope bs ts.nodes ts.linear b.count

  pub rules_below : b.rules ≤ b.count
  rules_below = let s = R.scoped in let r = R.rules in omega arith

  -- the entries in scope stand in the tables
  pub entry_room : {e : ℕ} → e < b.count → e < 256
  entry_room inside = let few = R.few in let f = sound_front bs R.sound in omega (arith, few, inside, f.rules, f.lines)

  -- a clause lent here is no must line
  pub lent_lax : member (strict_of bs) (b.count - b.rules) ≡ false
  lent_lax = rw R.rules (at (member (strict_of bs) (b.count - rule_count bs)) refl)
    where
      at : (x : Bool) → member (strict_of bs) (b.count - rule_count bs) ≡ x → x ≡ false
      at false e = refl
      at true e =
          let low = R.scoped in
          let i = items_at_lem (rule_count bs) (strict_of bs) b.count (omega arith) in
          let l = line_within bs 1 b.count (sym (ap (λ I. I b.count) (strict_items R.sound)) ∙ i ∙ e) in
          absurd (omega (arith, l.1, low))

  -- an answer that leaves the tables alone
  at_once : {p : Part} {r : Result Summary Refusal} → Tells (strict_of bs) steps b es p r → PartWalks bs steps ts ts b p r
  at_once t = record { tells = t; node_kept = kept_self b.count ts.nodes; linear_kept = kept_self b.count ts.linear }

  -- Behind a first part

  module _ {ts₁ : Tables} {p : Part} where
    module _ {q r : Part} (parts : Both r p q) where
      pub first_lost : {f : Refusal} → PartWalks bs steps ts ts₁ b p (Err f) → PartWalks bs steps ts ts₁ b r (Err f)
      unfolding Tells
      first_lost W = record { tells = first_stops parts W.tells; node_kept = W.node_kept; linear_kept = W.linear_kept }

    module _ {w : Summary} (W : PartWalks bs steps ts ts₁ b p (Ok w)) where
      ends : EndsWith (strict_of bs) steps b es p w
      unfolding Tells
      ends = W.tells

      same_scope : table_scope bs ts₁.nodes ts₁.linear b.count ≡ es
      same_scope = scope_kept bs ts.nodes ts₁.nodes ts.linear ts₁.linear b.count W.node_kept W.linear_kept

      -- no more must lines are met there than steps, counted from where the walk ended or from where it began
      met_low : (met : ℕ) → (met ≡ w.met) ⊎ (met ≡ b.met) → met ≤ w.at
      met_low met =
          ⊎_elim (λ e. let s = ends.pace in let m = R.met in omega (arith, e, s, m))
          (λ e. let o = ends.onward in let m = R.met in omega (arith, e, o, m))

      pub ready_on : (met : ℕ) → met ≤ w.at → WalkReady bs steps ts₁ (on_b b w.at met)
      ready_on met low = record {
        sound = R.sound;
        rules = R.rules;
        given = R.given;
        short = R.short;
        at = ends.bounded;
        entered = entered_kept R.entered W.node_kept W.linear_kept;
        scoped = R.scoped;
        few = R.few;
        met = low;
      }

      pub lighter : (met : ℕ) → ahead (on_b b w.at met) ≤ ahead b
      lighter met = let o = ends.onward in omega arith

      module _ {met : ℕ} {q : Part} {ts₂ : Tables} where
        pub second_lost : {r : Part} {f : Refusal} → Both r p q
            → PartWalks bs steps ts₁ ts₂ (on_b b w.at met) q (Err f)
            → PartWalks bs steps ts ts₂ b r (Err f)
        unfolding Tells
        second_lost {f} parts X = record {
          tells = second_stops parts R.given ends (subst (λ s. StopsWith steps (on_b b w.at met) s q f) same_scope X.tells);
          node_kept = kept_again b.count W.node_kept X.node_kept;
          linear_kept = kept_again b.count W.linear_kept X.linear_kept;
        }

        module _ {v : Summary} (X : PartWalks bs steps ts₁ ts₂ (on_b b w.at met) q (Ok v))
          where
            then_ends : EndsWith (strict_of bs) steps (on_b b w.at met) es q v
            unfolding Tells
            then_ends = subst (λ s. EndsWith (strict_of bs) steps (on_b b w.at met) s q v) same_scope X.tells

            both_kept : {r : Part} {u : Summary} → EndsWith (strict_of bs) steps b es r u → PartWalks bs steps ts ts₂ b r (Ok u)
            unfolding Tells
            both_kept t = record {
              tells = t;
              node_kept = kept_again b.count W.node_kept X.node_kept;
              linear_kept = kept_again b.count W.linear_kept X.linear_kept;
            }

            pub tensor_done : {r : Part} → met ≡ w.met → Words w.used → Words v.used
                → ((f g h : Gathered) (U W : Items) → Tensors h f g → Traced b.depth es p f U → Traced b.depth es q g W
                → Traced b.depth es r h (U ∪ W))
                → PartWalks bs steps ts ts₂ b r (Ok (tensor_w w v))
            tensor_done e x y c = both_kept (tensor_ends ends then_ends e x y c)

            pub with_done : {r : Part} → met ≡ b.met → Words w.used → Words v.used
                → ((f g h : Gathered) (U W : Items) → Withs es h f g → Traced b.depth es p f U → Traced b.depth es q g W
                → Traced b.depth es r h (U ∩ W))
                → PartWalks bs steps ts ts₂ b r (Ok (with_w w v))
            with_done e x y c = both_kept (with_ends ends then_ends e x y c)

  -- the same, of the place and the entry where the second part is walked
  module _ {ts₁ ts₂ : Tables} {p q : Part} {w : Summary} (W : PartWalks bs steps ts ts₁ b p (Ok w)) {met : ℕ} {b₂ : Position}
      (eb : b₂ ≡ on_b b w.at met) where
    pub run_lost : {r : Part} {f : Refusal} → PartWalks bs steps ts₁ ts₂ b₂ q (Err f) → Both r p q → PartWalks bs steps ts ts₂ b r (Err f)
    run_lost X parts = second_lost W parts (rw eb at X)

    module _ {v u : Summary} (X : PartWalks bs steps ts₁ ts₂ b₂ q (Ok v)) (m : Words w.used) (n : Words v.used) where
      pub run_tensor : {r : Part} → met ≡ w.met → u ≡ tensor_w w v
          → ((f g h : Gathered) (U W : Items) → Tensors h f g → Traced b.depth es p f U → Traced b.depth es q g W
          → Traced b.depth es r h (U ∪ W))
          → PartWalks bs steps ts ts₂ b r (Ok u)
      run_tensor em eu c = rw eu (tensor_done W (rw eb at X) em m n c)

      pub run_with : {r : Part} → met ≡ b.met → u ≡ with_w w v
          → ((f g h : Gathered) (U W : Items) → Withs es h f g → Traced b.depth es p f U → Traced b.depth es q g W
          → Traced b.depth es r h (U ∩ W))
          → PartWalks bs steps ts ts₂ b r (Ok u)
      run_with em eu c = rw eu (with_done W (rw eb at X) em m n c)

  -- Behind a choice

  module _ {node m : ℕ} {first second : Bool} (U : CanChoose bs steps b node first second m) where
    pub stepped_room : (b.at < 255) × (0 ≤ b.depth)
    stepped_room = let r = U.room in let s = R.short in (omega arith, omega arith)

    module _ (b₁ : Position) (eb : b₁ ≡ stepped_b b 0) where
      -- a choice adds no nesting
      as_on : b₁ ≡ on_b b (b.at + 1) b.met
      as_on =
          let z : b.depth - 0 ≡ b.depth = omega arith in
          eb ∙ ap (λ d. record { rules = b.rules; given = b.given; at = b.at + 1; count = b.count; depth = d; met = b.met }) z

      ready_stepped : WalkReady bs steps ts b₁
      ready_stepped = rw as_on (record {
        sound = R.sound;
        rules = R.rules;
        given = R.given;
        short = R.short;
        at = let r = U.room in omega arith;
        entered = R.entered;
        scoped = R.scoped;
        few = R.few;
        met = let m = R.met in omega arith;
      })

      lighter_stepped : ahead b₁ ≤ ahead b
      lighter_stepped = rw as_on (omega arith)

      side_done : {p q : Part} {ts₂ : Tables} (x : Result Summary Refusal) → Side es p U.choice q
          → PartWalks bs steps ts ts₂ b₁ q x → PartWalks bs steps ts ts₂ b p x
      unfolding Tells
      side_done {p} {q} {ts₂} x o X =
          let F : PartWalks bs steps ts ts₂ (on_b b (b.at + 1) b.met) q x = rw as_on at X in
          record { tells = by x F.tells; node_kept = F.node_kept; linear_kept = F.linear_kept }
        where
          by : (x : Result Summary Refusal) → Tells (strict_of bs) steps (on_b b (b.at + 1) b.met) es q x → Tells (strict_of bs) steps b es p x
          by (Ok w) k = side_ends o U.next k
          by (Err f) k = side_stops o U.next k

  -- At a goal

  module _ (node : ℕ) (Q : GoalWalkReady bs b node) where
    below : node < node_count bs
    below = goal_lower bs (node_count bs) node Q.is_goal_part

    pub goal_here : 16 + 5 * node ≤ length bs
    goal_here = node_here R.sound node below

    -- 1 and ⊤
    pub done_ends : (slack : Bool) (G : Goal) → goal_at bs node ≡ G → ((w : Gathered) → Ends w slack → Traced b.depth es (goal G) w ∅)
        → (w : Summary) → w ≡ ended_w b slack true → PartWalks bs steps ts ts b (goal (goal_at bs node)) (Ok w)
    unfolding Tells
    done_ends slack G e c w q =
        rw (q, e) (at_once {r = Ok (ended_w b slack true)} (ends_here slack R.at c))

    -- 0
    pub never_ends : kind_at bs node ≡ 9 → (w : Summary) → w ≡ ended_w b false false
        → PartWalks bs steps ts ts b (goal (goal_at bs node)) (Ok w)
    unfolding Tells
    never_ends k w q = rw (q, reads_never bs node k) (at_once {r = Ok (ended_w b false false)} (fails_here R.at))

    -- a part that is a goal, in a branch with the same entries and nesting
    part_ready : (part : ℕ) (b' : Position) → goal_part bs node part ≡ true → height_at bs part < height_at bs node → b'.count ≡ b.count
        → b'.depth ≡ b.depth → b'.rules ≡ b.rules → GoalWalkReady bs b' part
    part_ready part b' p h ec ed er = record {
      is_goal_part = goal_above bs node part (node_count bs) (let l = below in omega arith) p;
      deep = let q = Q.deep in omega arith;
    }

    module _ (big : 3 < kind_at bs node) (not_nine : kind_at bs node ≡ 9 → ⊥) where
      heights : (height_at bs (left_at bs node) < height_at bs node) × (height_at bs (right_at bs node) < height_at bs node)
      heights = height_parts R.sound node below big not_nine

      -- two parts that are goals
      module _ (first : goal_part bs node (left_at bs node) ≡ true) (second : goal_part bs node (right_at bs node) ≡ true)
          (light : weight (goal_at bs (left_at bs node)) + weight (goal_at bs (right_at bs node)) < weight (goal_at bs node)) where
        pub left_call : (t : ℕ) → goal_number bs b node + 2 ≡ t → (l : ℕ) → l ≡ left_at bs node
            → (goal_number bs b l + 3 < t) × (WalkReady bs steps ts b × GoalWalkReady bs b l)
        left_call t m l e = rw e (
          omega arith,
          (R, part_ready (left_at bs node) b first heights.0 refl refl refl),
        )

        pub right_call : {ts₁ : Tables} {p : Part} {w : Summary} → PartWalks bs steps ts ts₁ b p (Ok w)
            → (t : ℕ) → goal_number bs b node + 2 ≡ t → (r : ℕ) → r ≡ right_at bs node → (met : ℕ) → (met ≡ w.met) ⊎ (met ≡ b.met)
            → (b₂ : Position) → b₂ ≡ on_b b w.at met
            → (goal_number bs b₂ r + 3 < t) × (WalkReady bs steps ts₁ b₂ × GoalWalkReady bs b₂ r)
        right_call {w} F t m r er met em b₂ eb = rw (er, eb) (
          let k = lighter F met in omega arith,
          (ready_on F met (met_low F met em), part_ready (right_at bs node) (on_b b w.at met) second heights.1 refl refl refl),
        )

    pub tensor_parts : kind_at bs node ≡ 4 → (3 < kind_at bs node) × (kind_at bs node ≡ 9 → ⊥)
        × (goal_part bs node (left_at bs node) ≡ true) × (goal_part bs node (right_at bs node) ≡ true)
        × (weight (goal_at bs (left_at bs node)) + weight (goal_at bs (right_at bs node)) < weight (goal_at bs node))
    tensor_parts k =
        let p = both_parts R.sound node below k in
        (omega arith, λ e. omega (arith, e, k), p.0, p.1, both_weight R.sound node below k)

    pub with_parts : kind_at bs node ≡ 5 → (3 < kind_at bs node) × (kind_at bs node ≡ 9 → ⊥)
        × (goal_part bs node (left_at bs node) ≡ true) × (goal_part bs node (right_at bs node) ≡ true)
        × (weight (goal_at bs (left_at bs node)) + weight (goal_at bs (right_at bs node)) < weight (goal_at bs node))
    with_parts k =
        let p = either_parts R.sound node below k in
        (omega arith, λ e. omega (arith, e, k), p.0, p.1, either_weight R.sound node below k)

    -- what a node of each kind reads as is walked as
    module _ (l : ℕ) (el : l ≡ left_at bs node) (m : ℕ) (em : m ≡ right_at bs node) where
      pub tensor_both : kind_at bs node ≡ 4 → Both (goal (goal_at bs node)) (goal (goal_at bs l)) (goal (goal_at bs m))
      tensor_both k = rw (sound_both R.sound node below k, el, em) parts_⊗

      pub tensor_joins : kind_at bs node ≡ 4 → (f g h : Gathered) (U W : Items) → Tensors h f g
          → Traced b.depth es (goal (goal_at bs l)) f U → Traced b.depth es (goal (goal_at bs m)) g W
          → Traced b.depth es (goal (goal_at bs node)) h (U ∪ W)
      tensor_joins k f g h U W s c d = rw (sound_both R.sound node below k) (traced_⊗ s (rw el at c) (rw em at d))

      pub with_both : kind_at bs node ≡ 5 → Both (goal (goal_at bs node)) (goal (goal_at bs l)) (goal (goal_at bs m))
      with_both k = rw (sound_either R.sound node below k, el, em) parts_&

      pub with_joins : kind_at bs node ≡ 5 → (f g h : Gathered) (U W : Items) → Withs es h f g
          → Traced b.depth es (goal (goal_at bs l)) f U → Traced b.depth es (goal (goal_at bs m)) g W
          → Traced b.depth es (goal (goal_at bs node)) h (U ∩ W)
      with_joins k f g h U W s c d = rw (sound_either R.sound node below k) (traced_& s (rw el at c) (rw em at d))

    -- D ⊸ G
    module _ (kind : kind_at bs node ≡ 6) where
      heights_6 : (height_at bs (left_at bs node) < height_at bs node) × (height_at bs (right_at bs node) < height_at bs node)
      heights_6 = heights (omega arith) (λ e. omega (arith, e, kind))

      lent_clause : clause_part bs (node_count bs) (left_at bs node) ≡ true
      lent_clause =
          clause_above bs node (left_at bs node) (node_count bs) (let l = below in omega arith) (lend_parts R.sound node below kind).0

      pub lend_room : b.count < rule_count bs + 168
      lend_room = let q = Q.deep in let h = heights_6.0 in let r = R.rules in omega arith

      pub put_room : b.count < 256
      put_room = let f = (sound_front bs R.sound).rules in let l = lend_room in omega arith

      module _ (c : ℕ) (ec : c ≡ left_at bs node) {ts₁ : Tables} (et : ts₁ ≡ put_t ts b.count c true) (b₁ : Position)
          (eb : b₁ ≡ lent_p b) where
        ready_lent : WalkReady bs steps (put_t ts b.count c true) (lent_p b)
        ready_lent = record {
          sound = R.sound;
          rules = R.rules;
          given = R.given;
          short = R.short;
          at = R.at;
          entered =
              rw (add-one b.count) (entered_more c true R.entered put_room (rw ec lent_clause)
              (λ q. let s = R.scoped in omega arith));
          scoped = let s = R.scoped in omega arith;
          few = let l = lend_room in omega arith;
          met = R.met;
        }

        lent_scope : table_scope bs (put_t ts b.count c true).nodes (put_t ts b.count c true).linear (b.count + 1) ≡ lend es (clause_of bs c)
        lent_scope =
            let q = put_room in
            rw (add-one b.count) (lend_scope bs ts.nodes ts.linear b.count c (omega (arith, q, R.entered.node_room)) (omega (arith, q, R.entered.linear_room)))

        pub lend_call : (t : ℕ) → goal_number bs b node + 2 ≡ t → (r : ℕ) → r ≡ right_at bs node
            → (goal_number bs b₁ r + 3 < t) × (WalkReady bs steps ts₁ b₁ × GoalWalkReady bs b₁ r)
        lend_call t m r er = rw (eb, er, et) (
          let light = lend_weight R.sound node below kind in omega arith,
          (
            ready_lent,
            record {
              is_goal_part =
                  goal_above bs node (right_at bs node) (node_count bs) (let l = below in omega arith)
                  (lend_parts R.sound node below kind).1;
              deep = let q = Q.deep in let h = heights_6.1 in omega arith;
            },
          ),
        )

        module _ {r : ℕ} (er : r ≡ right_at bs node) {ts₂ : Tables} {x : Result Summary Refusal}
            (X : PartWalks bs steps ts₁ ts₂ b₁ (goal (goal_at bs r)) x) where
          inner : PartWalks bs steps (put_t ts b.count c true) ts₂ (lent_p b) (goal (goal_at bs (right_at bs node))) x
          inner = rw (eb, er, et) at X

          as_lend : goal_at bs node ≡ lolliᴳ (clause_of bs c) (goal_at bs (right_at bs node))
          as_lend =
              sound_lend R.sound node below kind ∙ ap (λ d. lolliᴳ (clause_of bs d) (goal_at bs (right_at bs node))) (sym ec)

          node_back : Kept b.count ts.nodes ts₂.nodes
          node_back =
              kept_trans {n = b.count} {m = b.count + 1} (omega arith) (kept_set b.count b.count ts.nodes c (omega arith))
              inner.node_kept

          linear_back : Kept b.count ts.linear ts₂.linear
          linear_back =
              kept_trans {n = b.count} {m = b.count + 1} (omega arith) (kept_set b.count b.count ts.linear true (omega arith))
              inner.linear_kept

        module _ {r : ℕ} (er : r ≡ right_at bs node) {ts₂ : Tables} where
          pub lend_lost : {f : Refusal} → PartWalks bs steps ts₁ ts₂ b₁ (goal (goal_at bs r)) (Err f)
              → PartWalks bs steps ts ts₂ b (goal (goal_at bs node)) (Err f)
          unfolding Tells
          lend_lost {f} X = rw (as_lend er X) (record {
            tells =
                lend_stops (subst (λ s. StopsWith steps (lent_p b) s (goal (goal_at bs (right_at bs node))) f) lent_scope
                (inner er X).tells);
            node_kept = node_back er X;
            linear_kept = linear_back er X;
          })

          pub lend_done : {w u : Summary} → PartWalks bs steps ts₁ ts₂ b₁ (goal (goal_at bs r)) (Ok w)
              → u ≡ without_s w (b.count - b.rules) → PartWalks bs steps ts ts₂ b (goal (goal_at bs node)) (Ok u)
          unfolding Tells
          lend_done {w} X q = rw (q, as_lend er X) (record {
            tells =
                lend_ends rules_below (scope_size bs ts.nodes ts.linear b.count) lent_lax
                (subst (λ s. EndsWith (strict_of bs) steps (lent_p b) s (goal (goal_at bs (right_at bs node))) w) lent_scope
                (inner er X).tells);
            node_kept = node_back er X;
            linear_kept = linear_back er X;
          })

    -- G ⊕ H
    module _ (kind : kind_at bs node ≡ 8) where
      as_one_of : goal_at bs node ≡ oplus (goal_at bs (left_at bs node)) (goal_at bs (right_at bs node))
      as_one_of = sound_one_of R.sound node below kind

      module _ {c m : ℕ} (s : SideChosen bs node true true c m) where
        -- the part taken is a goal, smaller and less high
        one_of_part : (goal_part bs node m ≡ true) × ((weight (goal_at bs m) < weight (goal_at bs node)) × (height_at bs m < height_at bs node))
        one_of_part =
            let l = one_of_weight R.sound node below kind in
            let h = heights (omega arith) (λ e. omega (arith, e, kind)) in
            let p = one_of_parts R.sound node below kind in
            ⊎_elim (λ s. rw s.1.1 (p.0, (omega arith, h.0))) (λ s. rw s.1.1 (p.1, (omega arith, h.1))) s

        one_of_side : Side es (goal (goal_at bs node)) c (goal (goal_at bs m))
        one_of_side = ⊎_elim (λ s. rw (as_one_of, s.1.1) (side_⊕₁ s.0)) (λ s. rw (as_one_of, s.1.1) (side_⊕₂ s.0)) s

      pub one_of_lost : {f : Refusal} → SideTaking bs steps b node true true (Err f)
          → PartWalks bs steps ts ts b (goal (goal_at bs node)) (Err f)
      unfolding SideTaking Tells
      one_of_lost {f} S = rw as_one_of (at_once {r = Err f} (one_of_stops S))

      module _ (m : ℕ) (S : SideTaking bs steps b node true true (Ok m)) where
        one_of_takes : CanChoose bs steps b node true true m
        unfolding SideTaking
        one_of_takes = S

        pub one_of_room : (b.at < 255) × (0 ≤ b.depth)
        one_of_room = stepped_room one_of_takes

        module _ (b₁ : Position) (eb : b₁ ≡ stepped_b b 0) where
          pub one_of_call : (t : ℕ) → goal_number bs b node + 2 ≡ t
              → (goal_number bs b₁ m + 3 < t) × (WalkReady bs steps ts b₁ × GoalWalkReady bs b₁ m)
          one_of_call t e =
              let p = one_of_part one_of_takes.chosen in (
                let w = lighter_stepped one_of_takes b₁ eb in omega (arith, p.1.0, w),
                (
                  ready_stepped one_of_takes b₁ eb,
                  rw (as_on one_of_takes b₁ eb) (part_ready m (on_b b (b.at + 1) b.met) p.0 p.1.1 refl refl refl),
                ),
              )

          pub one_of_done : {ts₂ : Tables} {x : Result Summary Refusal}
              → PartWalks bs steps ts ts₂ b₁ (goal (goal_at bs m)) x
              → PartWalks bs steps ts ts₂ b (goal (goal_at bs node)) x
          one_of_done {x} X = side_done one_of_takes b₁ eb x (one_of_side one_of_takes.chosen) X

    -- a name
    module _ (kind : kind_at bs node ≡ 1) (name : ℕ) (en : name ≡ left_at bs node) where
      as_atom : goal_at bs node ≡ atomᴳ name
      as_atom = (reads_name bs node kind).0 ∙ ap atomᴳ (sym en)

      pub atom_lost : {f : Refusal} → Stepping bs steps ts b name (Err f) → PartWalks bs steps ts ts b (goal (goal_at bs node)) (Err f)
      unfolding Stepping Tells
      atom_lost {f} S = rw as_atom (at_once {r = Err f} S)

      pub atom_call : {e : ℕ} → Stepping bs steps ts b name (Ok e) → (t : ℕ) → goal_number bs b node + 2 ≡ t
          → (ahead b < t) × (WalkReady bs steps ts b × (StepUsable bs steps ts b name e
          × (b.count + 1 + 6 * b.depth ≤ b.rules + 168)))
      unfolding Stepping
      atom_call u t m = (omega arith, (R, (u, (let d = Q.deep in let h = height_pos bs node in omega arith))))

      pub atom_done : {ts₂ : Tables} {x : Result Summary Refusal}
          → PartWalks bs steps ts ts₂ b (goal (atomᴳ name)) x
          → PartWalks bs steps ts ts₂ b (goal (goal_at bs node)) x
      atom_done X = rw as_atom X

  -- At a clause in use for a name

  module _ (name node : ℕ) (Q : ClauseReady bs b name node) where
    clause_below : node < node_count bs
    clause_below = clause_lower bs (node_count bs) node Q.clause_node

    pub clause_here : 16 + 5 * node ≤ length bs
    clause_here = node_here R.sound node clause_below

    -- a name that is met
    pub head_ends : kind_at bs node ≡ 1 → (w : Summary) → w ≡ ended_w b false true
        → PartWalks bs steps ts ts b (meet name (clause_of bs node)) (Ok w)
    unfolding Tells table_scope
    head_ends k w q = rw (q, (reads_name bs node k).1)
        (at_once {r = Ok (ended_w b false true)} (ends_here false R.at
        (λ g e. traced_head (sym (usable_name bs node k (scope_of bs).fits name) ∙ Q.fitting) e)))

    -- a clause that can be used for a name is a name, a recipe or a menu
    pub usable_kind : (kind_at bs node ≡ 1) ⊎ ((kind_at bs node ≡ 7) ⊎ (kind_at bs node ≡ 10))
    usable_kind = ⊎_elim inl
        (⊎_elim (λ k. absurd (false≢true (sym (usable_rest bs node k (scope_of bs).fits name) ∙ Q.fitting))) inr)
        (clause_kind bs (node_count bs) node Q.clause_node)

    -- G ⊸ D
    module _ (kind : kind_at bs node ≡ 7) where
      light_7 : weight (goal_at bs (left_at bs node)) + clause_weight (clause_of bs (right_at bs node)) < clause_weight (clause_of bs node)
      light_7 = recipe_weight R.sound node clause_below kind

      module _ (m : ℕ) (em : m ≡ right_at bs node) (l : ℕ) (el : l ≡ left_at bs node) where
        pub recipe_both : Both (meet name (clause_of bs node)) (meet name (clause_of bs m)) (goal (goal_at bs l))
        recipe_both = rw (sound_recipe R.sound node clause_below kind, el, em) parts_⊸

        pub recipe_joins : (f g h : Gathered) (U W : Items) → Tensors h f g → Traced b.depth es (meet name (clause_of bs m)) f U
            → Traced b.depth es (goal (goal_at bs l)) g W → Traced b.depth es (meet name (clause_of bs node)) h (U ∪ W)
        recipe_joins f g h U W s c d = rw (sound_recipe R.sound node clause_below kind) (traced_recipe s (rw em at c) (rw el at d))

      pub recipe_call : (t : ℕ) → clause_number bs b node + 1 ≡ t → (r : ℕ) → r ≡ right_at bs node
          → (clause_number bs b r + 3 < t) × (WalkReady bs steps ts b × ClauseReady bs b name r)
      recipe_call t m r e = rw e (
        let light = light_7 in omega arith,
        (
          R,
          record {
            clause_node =
                clause_above bs node (right_at bs node) (node_count bs) (let l = clause_below in omega arith)
                (recipe_parts R.sound node clause_below kind).1;
            fitting = sym (usable_recipe R.sound node clause_below kind (scope_of bs).fits name) ∙ Q.fitting;
            deep = Q.deep;
          },
        ),
      )

      pub condition_call : {ts₁ : Tables} {p : Part} {w : Summary} → PartWalks bs steps ts ts₁ b p (Ok w)
          → (t : ℕ) → clause_number bs b node + 1 ≡ t → (l : ℕ) → l ≡ left_at bs node → (b₂ : Position) → b₂ ≡ on_b b w.at w.met
          → (goal_number bs b₂ l + 3 < t) × (WalkReady bs steps ts₁ b₂ × GoalWalkReady bs b₂ l)
      condition_call {w} F t m l el b₂ eb = rw (el, eb) (
        let light = light_7 in let k = lighter F w.met in omega arith,
        (
          ready_on F w.met (met_low F w.met (inl refl)),
          record {
            is_goal_part =
                goal_above bs node (left_at bs node) (node_count bs) (let k = clause_below in omega arith)
                (recipe_parts R.sound node clause_below kind).0;
            deep =
                let q = Q.deep in let h = (height_parts R.sound node clause_below (omega arith) (λ e. omega (arith, e, kind))).0 in
                let k = height_low R.sound node clause_below in omega arith;
          },
        ),
      )

    -- D & E
    module _ (kind : kind_at bs node ≡ 10) where
      pub menu_clauses : (clause_part bs (node_count bs) (left_at bs node) ≡ true) × (clause_part bs (node_count bs) (right_at bs node) ≡ true)
      menu_clauses = let p = menu_parts R.sound node clause_below kind in (above (left_at bs node) p.0, above (right_at bs node) p.1)
        where
          above : (part : ℕ) → clause_part bs node part ≡ true → clause_part bs (node_count bs) part ≡ true
          above part = clause_above bs node part (node_count bs) (let l = clause_below in omega arith)

      as_menu : clause_of bs node ≡ withᴰ (clause_of bs (left_at bs node)) (clause_of bs (right_at bs node))
      as_menu = sound_menu R.sound node clause_below kind

      module _ {first second : Bool} (F : Fitting bs name node first second) where
        module _ {c m : ℕ} (s : SideChosen bs node first second c m) where
          -- the part taken is a smaller clause that can be used for the name
          menu_part : (clause_part bs (node_count bs) m ≡ true)
              × ((clause_weight (clause_of bs m) < clause_weight (clause_of bs node)) × (usable (scope_of bs).fits name (clause_of bs m) ≡ true))
          menu_part =
              let p = menu_clauses in
              let l = menu_weight R.sound node clause_below kind in
              ⊎_elim (λ s. rw s.1.1 (p.0, (omega arith, sym F.left_fits ∙ s.1.0)))
              (λ s. rw s.1.1 (p.1, (omega arith, sym F.right_fits ∙ s.1.0))) s

          menu_side : Side es (meet name (clause_of bs node)) c (meet name (clause_of bs m))
          unfolding table_scope
          menu_side =
              ⊎_elim (λ s. rw (as_menu, s.1.1) (side_&₁ s.0 (sym F.left_fits ∙ s.1.0)))
              (λ s. rw (as_menu, s.1.1) (side_&₂ s.0 (sym F.right_fits ∙ s.1.0))) s

        pub menu_lost : {f : Refusal} → SideTaking bs steps b node first second (Err f)
            → PartWalks bs steps ts ts b (meet name (clause_of bs node)) (Err f)
        unfolding SideTaking Tells table_scope
        menu_lost {f} S = rw as_menu (at_once {r = Err f} (menu_stops (rw (F.left_fits, F.right_fits) at S)))

        module _ (m : ℕ) (S : SideTaking bs steps b node first second (Ok m)) where
          menu_takes : CanChoose bs steps b node first second m
          unfolding SideTaking
          menu_takes = S

          pub menu_room : (b.at < 255) × (0 ≤ b.depth)
          menu_room = stepped_room menu_takes

          module _ (b₁ : Position) (eb : b₁ ≡ stepped_b b 0) where
            pub menu_call : (t : ℕ) → clause_number bs b node + 1 ≡ t
                → (clause_number bs b₁ m + 2 < t) × (WalkReady bs steps ts b₁ × ClauseReady bs b₁ name m)
            menu_call t e =
                let p = menu_part menu_takes.chosen in (
                  let w = lighter_stepped menu_takes b₁ eb in omega (arith, p.1.0, w),
                  (
                    ready_stepped menu_takes b₁ eb,
                    record { clause_node = p.0; fitting = p.1.1; deep = rw (as_on menu_takes b₁ eb) Q.deep },
                  ),
                )

            pub menu_done : {ts₂ : Tables} {x : Result Summary Refusal}
                → PartWalks bs steps ts ts₂ b₁ (meet name (clause_of bs m)) x
                → PartWalks bs steps ts ts₂ b (meet name (clause_of bs node)) x
            menu_done {x} X = side_done menu_takes b₁ eb x (menu_side menu_takes.chosen) X

  -- The use of an entry

  module _ (name e : ℕ) (U : StepUsable bs steps ts b name e) where
    entry_clause : clause_part bs (node_count bs) (get_or ts.nodes e 0) ≡ true
    entry_clause = R.entered.clauses e U.inside

    pub use_call : b.count + 1 + 6 * b.depth ≤ b.rules + 168 → (t : ℕ) → ahead b ≡ t → (node : ℕ) → node ≡ get_or ts.nodes e 0
        → (b₁ : Position) → b₁ ≡ stepped_b b 1
        → (clause_number bs b₁ node + 3 < t) × (WalkReady bs steps ts b₁ × ClauseReady bs b₁ name node)
    use_call room t m node en b₁ eb = rw (eb, en) (
      (
          let l = clause_low R.sound (get_or ts.nodes e 0) entry_clause in
          let d = U.deep in let r = U.room in omega arith
          ),
      (
        record {
          sound = R.sound;
          rules = R.rules;
          given = R.given;
          short = R.short;
          at = let r = U.room in omega arith;
          entered = R.entered;
          scoped = R.scoped;
          few = R.few;
          met = let m = R.met in omega arith;
        },
        record { clause_node = entry_clause; fitting = U.fitting; deep = let d = U.deep in omega arith },
      ),
    )

    pub item_low : get_or ts.linear e false ≡ true → b.rules ≤ e
    item_low gone = let l = R.entered.items e U.inside gone in let r = R.rules in omega arith

    module _ {node : ℕ} (en : node ≡ get_or ts.nodes e 0) {b₁ : Position} (eb : b₁ ≡ stepped_b b 1) {ts₂ : Tables} where
      conditions : {x : Result Summary Refusal} → PartWalks bs steps ts ts₂ b₁ (meet name (clause_of bs node)) x
          → PartWalks bs steps ts ts₂ (stepped_b b 1) (meet name (clause_at es e)) x
      conditions X = rw (scope_clause bs ts.nodes ts.linear b.count e U.inside, ← en, ← eb) X

      pub use_lost : {f : Refusal} → PartWalks bs steps ts ts₂ b₁ (meet name (clause_of bs node)) (Err f)
          → PartWalks bs steps ts ts₂ b (goal (atomᴳ name)) (Err f)
      unfolding Tells table_scope
      use_lost X =
          let Y = conditions X in
          record { tells = use_stops U.deep U.next fits Y.tells; node_kept = Y.node_kept; linear_kept = Y.linear_kept }
        where
          fits : usable es.fits name (clause_at es e) ≡ true
          fits = ap (usable (scope_of bs).fits name) (scope_clause bs ts.nodes ts.linear b.count e U.inside) ∙ U.fitting

      module _ {w : Summary} (X : PartWalks bs steps ts ts₂ b₁ (meet name (clause_of bs node)) (Ok w)) where
        use_ended : EndsWith (strict_of bs) steps (stepped_b b 1) es (meet name (clause_at es e)) w
        unfolding Tells
        use_ended = (conditions X).tells

        use_kept : {u : Summary} → EndsWith (strict_of bs) steps b es (goal (atomᴳ name)) u
            → PartWalks bs steps ts ts₂ b (goal (atomᴳ name)) (Ok u)
        unfolding Tells
        use_kept t = let Y = conditions X in record { tells = t; node_kept = Y.node_kept; linear_kept = Y.linear_kept }

        pub rule_done : get_or ts.linear e false ≡ false → PartWalks bs steps ts ts₂ b (goal (atomᴳ name)) (Ok w)
        rule_done stays =
            use_kept (rule_ends U.deep U.next use_ended (scope_linear bs ts.nodes ts.linear b.count e U.inside ∙ stays))

        module _ {due : ℕ} (ed : due ≡ bit (member (strict_of bs) (e - b.rules))) where
          pub met_room : w.met + due ≤ 256
          met_room =
              let d = bit_one (member (strict_of bs) (e - b.rules)) in
              let s = use_ended.pace in let u = use_ended.bounded in let m = R.met in let k = R.short in
              omega (arith, d, s, u, m, k, ed)

          pub item_done : get_or ts.linear e false ≡ true → {u : Summary} → u ≡ using_w w (e - b.rules) due
              → PartWalks bs steps ts ts₂ b (goal (atomᴳ name)) (Ok u)
          item_done gone f =
              rw f (use_kept (item_ends U.deep U.next use_ended (scope_linear bs ts.nodes ts.linear b.count e U.inside ∙ gone)
              (item_low gone) (let i = U.inside in let k = R.few in let r = R.rules in omega arith) due ed))
