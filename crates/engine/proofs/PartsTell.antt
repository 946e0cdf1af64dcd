-- & and ⊸ in a segment of their own, and the goal of a ⊸ with its clause lent: each call is ready, and each answer tells of the whole.
use Prim.Native.Nat.{ℕ, suc, ◌+◌, ◌-◌, ◌*◌, ◌≤◌, ◌<◌}
use native.Mathlib.Omega.{arith}
use native.Mathlib.Numerals.{add-one}
use native.Mathlib.Nat.{mul-le-mul_right, one-le-mul}
use mathlib.Core.Path.{◌≡◌, refl, sym, ◌∙◌, ap, ap₂, subst}
use mathlib.Core.Logic.{⊎_elim, ◌⊎◌, inl, inr}
use mathlib.Core.Bool.{true, false, ◌||◌}
use mathlib.Core.List.{List, [], ◌∷◌}
use lib.ListN.{length, get_or, set}
use lib.Seq.{slice}
use Rattle.calculus.specs.Formula.{Goal, Clause, with, lolliᴳ}
use Rattle.calculus.specs.Items.{Items, ∅, ◌∪◌, ◌∖◌, only}
use Rattle.calculus.specs.Derivation.{Scope, size, lend}
use Rattle.calculus.specs.Inner.Summary.{Bounded}
use Rattle.calculus.proofs.SetLaws.{∪_cases, only_eq, ∪_joins, join_left, join_right}
use Rattle.card.specs.Format.{rule_count, node_count, kind_at, left_at, right_at}
use Rattle.card.specs.Fault.{Sound, goal_part, clause_part, height_at}
use Rattle.card.specs.Decode.{goal_at, clause_of}
use Rattle.card.proofs.CardChecked.{sound_front}
use Rattle.card.proofs.SoundNodes.{goal_lower, goal_kind, goal_above, clause_above, height_pos, height_parts, either_parts, lend_parts}
use Rattle.card.proofs.SoundNodes.{sound_either, sound_lend}
use Rattle.lines.specs.Set.{member, add_s}
use Rattle.scope.specs.Inner.Sets.{items}
use Rattle.scope.specs.Inner.Tables.{Kept}
use Rattle.scope.proofs.SetsAreItems.{items_empty, items_join, items_add, items_take}
use Rattle.scope.proofs.TablesAreScopes.{kept_trans, kept_set}
use Rattle.entries.specs.Inner.Entries.{scope_in, Entered, Headed}
use Rattle.entries.specs.Inner.Twins.{eligible}
use Rattle.entries.proofs.TablesAreScopes.{scope_len, lend_scope, entered_more}
use Rattle.agenda.specs.Inner.Agenda.{Agenda, task}
use Rattle.agenda.specs.Inner.Sought.{Place, lent_place, None, Least}
use Rattle.agenda.proofs.SearchTells.{lend_none, lend_least}
use Rattle.branch.specs.declared.Branch.{Branch}
use Rattle.branch.specs.declared.Way.{Way}
use Rattle.branch.specs.declared.Floor.{Floor}
use Rattle.branch.specs.Inner.Values.{Answer, Solved, Stuck, Tired}
use Rattle.branch.specs.Inner.Values.{own_b, lead_b, lent_b, joined_w, without_w}
use Rattle.branch.proofs.CountsKept.{counted_lent}
use Rattle.inside.specs.Inner.Inside.{Opening, InsideOpened, lends, outside_w}
use Rattle.segment.specs.Inner.Tasks.{task_of, agenda_of, task_weight, total, Laid}
use Rattle.card.specs.Inner.Size.{weight}
use Rattle.card.proofs.WeightsFall.{weight_pos, weight_times, either_weight, lend_weight}
use Rattle.segment.proofs.TasksAreAgendas.{nest_low, agenda_next, total_next, agenda_one, total_one, laid_one}
use Rattle.engine.specs.Inner.Engine.{place_at, Ready, top_node, top_nest, PartNext, GoalReady, Fresh, Solves}
use Rattle.engine.specs.Inner.Engine.{Told, Searches}
use Rattle.engine.proofs.PlacesMove.{lent_place_lem}
use Rattle.engine.proofs.NumbersFall.{number, alone}
use Rattle.engine.proofs.CountIsScan.{item_past}
use Rattle.engine.proofs.TurnsRaise.{∅_∪}

-- The next task of an agenda, & or ⊸

module _ {bs codes : List ℕ} {b : Branch} (q : PartNext bs codes b) where
  next_task : agenda_of bs codes b.len ≡ task (goal_at bs (top_node codes b)) (top_nest codes b) ∷ agenda_of bs codes (b.len - 1)
  unfolding task_of
  next_task = agenda_next bs codes b.len q.some

  last_task : b.len - 1 ≡ 0 → agenda_of bs codes b.len ≡ task (goal_at bs (top_node codes b)) (top_nest codes b) ∷ []
  unfolding agenda_of
  last_task e = next_task ∙ ap (λ n. task (goal_at bs (top_node codes b)) (top_nest codes b) ∷ agenda_of bs codes n) e

  next_goal : GoalReady bs (top_node codes b) (top_nest codes b) b
  next_goal =
      let f = q.laid.fits (b.len - 1) (let s = q.some in omega arith) in
      record {
        is_goal_part = f.is_goal_part;
        kind = q.kind;
        no_choice = q.no_choice;
        nested = nest_low (get_or codes (b.len - 1) 0);
        stacked = let s = f.stacked in omega arith;
        deep = f.deep;
      }

  next_weight : weight (goal_at bs (top_node codes b)) * (top_nest codes b + 1) ≤ total bs codes b.len
  unfolding task_weight
  next_weight = let e = total_next bs codes b.len q.some in omega arith

-- as the code names it
module _ {bs codes : List ℕ} {b : Branch} {goal n : ℕ} (q : PartNext bs codes b) (eg : goal ≡ top_node codes b)
    (en : n ≡ top_nest codes b) where
  pub goal_next : GoalReady bs goal n b
  goal_next = rw (eg, en) (next_goal q)

  pub agenda_same : agenda_of bs codes b.len ≡ task (goal_at bs goal) n ∷ agenda_of bs codes (b.len - 1)
  agenda_same = rw (eg, en) (next_task q)

  pub agenda_last : b.len - 1 ≡ 0 → agenda_of bs codes b.len ≡ task (goal_at bs goal) n ∷ []
  agenda_last e = rw (eg, en) (last_task q e)

  pub alone_next : alone bs goal n b ≤ number bs codes b
  alone_next = let w = next_weight q in rw (eg, en) (omega arith)

-- the same agenda, the same branch and floor
pub searched_as : {bs tape tape' nodes nodes' heads heads' : List ℕ} {A B : Agenda} {f : Floor} {b : Branch} {r : Answer} → A ≡ B
    → Searches bs B f b tape tape' nodes nodes' heads heads' r → Searches bs A f b tape tape' nodes nodes' heads heads' r
searched_as e R = rw e R

pub searched_at : {bs tape tape' nodes nodes' heads heads' : List ℕ} {A : Agenda} {f : Floor} {b c : Branch} {r : Answer} → b ≡ c
    → Searches bs A f b tape tape' nodes nodes' heads heads' r → Searches bs A f c tape tape' nodes nodes' heads heads' r
searched_at {bs} {tape} {tape'} {nodes} {nodes'} {heads} {heads'} {A} {f} {r} e R =
    subst (λ (x : Branch). Searches bs A f x tape tape' nodes nodes' heads heads' r) e R

pub searched_past : {bs tape tape' nodes nodes' heads heads' : List ℕ} {A : Agenda} {f g : Floor} {b c : Branch} {r : Answer}
    → f ≡ g → b ≡ c → Searches bs A f b tape tape' nodes nodes' heads heads' r → Searches bs A g c tape tape' nodes nodes' heads heads' r
searched_past {bs} {tape} {tape'} {nodes} {nodes'} {heads} {heads'} {A} {c} {r} d e R =
    subst (λ (x : Floor). Searches bs A x c tape tape' nodes nodes' heads heads' r) d (searched_at e R)

-- the same goal, in a branch with as many entries
pub goal_own : {bs : List ℕ} {goal n : ℕ} {b : Branch} → GoalReady bs goal n b → GoalReady bs goal n (own_b b)
goal_own g = record { is_goal_part = g.is_goal_part; kind = g.kind; no_choice = g.no_choice; nested = g.nested; stacked = g.stacked; deep = g.deep }

pub goal_lead : {bs : List ℕ} {goal n : ℕ} {b : Branch} → GoalReady bs goal n b → GoalReady bs goal n (lead_b b)
goal_lead g = record { is_goal_part = g.is_goal_part; kind = g.kind; no_choice = g.no_choice; nested = g.nested; stacked = g.stacked; deep = g.deep }

-- Numbers fall

-- the rest past a part
pub rest_number : {bs codes : List ℕ} {b : Branch} → PartNext bs codes b → (b' : Branch) → b'.limit ≡ b.limit → b.at ≤ b'.at
    → b'.len ≡ b.len - 1 → number bs codes b' < number bs codes b
unfolding task_weight
rest_number {bs} {codes} {b} q b' e d l =
    let t = total_next bs codes b.len q.some in
    let w = one-le-mul {a = weight (goal_at bs (top_node codes b))} {b = top_nest codes b + 1}
    (weight_pos (goal_at bs (top_node codes b))) (omega arith) in
    let m : (b.limit - b'.at) * 1048576 ≤ (b.limit - b.at) * 1048576 = mul-le-mul_right 1048576 (omega arith) in
    rw (e, l) (omega arith)

-- a part on an agenda of its own
part_number : (bs codes : List ℕ) (goal n : ℕ) (b b' : Branch) → b'.limit ≡ b.limit → b.at ≤ b'.at → b'.len ≡ 1
    → total bs codes 1 < weight (goal_at bs goal) * (n + 1) → number bs codes b' < alone bs goal n b
part_number bs codes goal n b b' e d l h =
    let m : (b.limit - b'.at) * 1048576 ≤ (b.limit - b.at) * 1048576 = mul-le-mul_right 1048576 (omega arith) in
    rw (e, l) (omega arith)

-- A segment of its own, joined to what was used before

own_stuck : {bs tape tape' nodes nodes' heads heads' : List ℕ} {A : Agenda} {f : Floor} {b : Branch} {r : Answer}
    → Searches bs A f (own_b b) tape tape' nodes nodes' heads heads' r → r ≡ Stuck → Searches bs A f b tape tape' nodes nodes' heads heads' r
unfolding Told place_at
own_stuck {bs} {tape} {nodes} {A} {f} {b} R e =
    let n : None (eligible bs) (scope_in bs nodes b.count) A (place_at (rule_count bs) f b tape) = rw e at R.told in
    rw e (record { told = n; tape_kept = R.tape_kept; node_kept = R.node_kept; head_kept = R.head_kept })

pub own_unsolved : {bs tape tape' nodes nodes' heads heads' : List ℕ} {A : Agenda} {f : Floor} {b : Branch} {r : Answer}
    → Searches bs A f (own_b b) tape tape' nodes nodes' heads heads' r → (r ≡ Stuck) ⊎ (r ≡ Tired)
    → Searches bs A f b tape tape' nodes nodes' heads heads' r
unfolding Told
own_unsolved R (inl e) = own_stuck R e
own_unsolved R (inr e) = rw e (record { told = tt; tape_kept = R.tape_kept; node_kept = R.node_kept; head_kept = R.head_kept })

pub own_solved : {bs tape tape' nodes nodes' heads heads' : List ℕ} {A : Agenda} {f : Floor} {b : Branch} {r : Answer} (w : Way)
    → Searches bs A f (own_b b) tape tape' nodes nodes' heads heads' r → r ≡ Solved w
    → Searches bs A f b tape tape' nodes nodes' heads heads' (Solved (joined_w b w))
unfolding Told place_at
own_solved {bs} {tape} {tape'} {nodes} {A} {f} {b} w R e =
    let s : Solves bs (scope_in bs nodes b.count) A f (own_b b) tape tape' w = rw e at R.told in
    record {
      told = record {
        onward = s.onward;
        bounded = s.bounded;
        items_used = s.items_used;
        slack_left = s.slack_left;
        least = s.least;
        used = items_join (rule_count bs) b.used w.used
            ∙ ap (λ (J : Items). items (rule_count bs) b.used ∪ J)
            (s.used ∙ ap (λ (J : Items). J ∪ s.items_used) (items_empty (rule_count bs)) ∙ ∅_∪ s.items_used);
        slack = ap (λ v. b.slack || v) s.slack;
        seen = s.seen;
        past = s.past;
      };
      tape_kept = R.tape_kept;
      node_kept = R.node_kept;
      head_kept = R.head_kept;
    }

-- The parts of a goal

module _ {bs : List ℕ} (sd : Sound bs) {goal n : ℕ} {b : Branch} (g : GoalReady bs goal n b) where
  pub goal_low : goal < node_count bs
  goal_low = goal_lower bs (node_count bs) goal g.is_goal_part

  pub part_kind : kind_at bs goal ≤ 6
  part_kind =
      ⊎_elim (λ k. k) (⊎_elim (λ k. absurd (omega (arith, k, g.no_choice))) (λ k. absurd (omega (arith, k, g.no_choice))))
      (goal_kind bs (node_count bs) goal g.is_goal_part).1

  heights : (height_at bs (left_at bs goal) < height_at bs goal) × (height_at bs (right_at bs goal) < height_at bs goal)
  heights = height_parts sd goal goal_low (omega (arith, g.kind)) (λ e. omega (arith, e, g.no_choice))

  -- a part put on an agenda of its own
  module _ (codes : List ℕ) (room : length codes ≡ 104) where
    part_laid : (node count : ℕ) → goal_part bs (node_count bs) node ≡ true → height_at bs node < height_at bs goal → count ≤ b.count + 1
        → Laid bs (set codes 0 (node * 32 + n)) 1 count
    part_laid node count p h c =
        laid_one bs codes node n g.nested room p (omega (arith, g.stacked, h)) (omega (arith, g.deep, h))

    module _ (k : kind_at bs goal ≡ 5) where
      pub either_goal : goal_at bs goal ≡ with (goal_at bs (left_at bs goal)) (goal_at bs (right_at bs goal))
      either_goal = sound_either sd goal goal_low k

      left_laid : Laid bs (set codes 0 (left_at bs goal * 32 + n)) 1 b.count
      left_laid = part_laid (left_at bs goal) b.count
          (goal_above bs goal (left_at bs goal) (node_count bs) (omega (arith, goal_low)) (either_parts sd goal goal_low k).0)
          heights.0 (omega arith)

      right_laid : Laid bs (set codes 0 (right_at bs goal * 32 + n)) 1 b.count
      right_laid = part_laid (right_at bs goal) b.count
          (goal_above bs goal (right_at bs goal) (node_count bs) (omega (arith, goal_low)) (either_parts sd goal goal_low k).1)
          heights.1 (omega arith)

      -- and it weighs less
      left_less : total bs (set codes 0 (left_at bs goal * 32 + n)) 1 < weight (goal_at bs goal) * (n + 1)
      left_less =
          let e = total_one bs codes (left_at bs goal) n g.nested room in
          let w = either_weight sd goal goal_low k in
          let q = weight_times (goal_at bs (left_at bs goal)) (goal_at bs goal) n (omega arith) in omega arith

      right_less : total bs (set codes 0 (right_at bs goal * 32 + n)) 1 < weight (goal_at bs goal) * (n + 1)
      right_less =
          let e = total_one bs codes (right_at bs goal) n g.nested room in
          let w = either_weight sd goal goal_low k in
          let q = weight_times (goal_at bs (right_at bs goal)) (goal_at bs goal) n (omega arith) in omega arith

      -- as the code names them
      pub left_asks : {l : ℕ} {agenda : List ℕ} → Fresh b → l ≡ left_at bs goal → agenda ≡ set codes 0 (l * 32 + n)
          → (number bs agenda b < alone bs goal n b) × Laid bs agenda b.len b.count
      left_asks fb el ea = rw (ea, el) (
        part_number bs (set codes 0 (left_at bs goal * 32 + n)) goal n b b refl (omega arith) fb.len left_less,
        rw fb.len left_laid,
      )

      pub right_asks : {r : ℕ} {agenda : List ℕ} (c : Branch) → r ≡ right_at bs goal → agenda ≡ set codes 0 (r * 32 + n)
          → c.limit ≡ b.limit → b.at ≤ c.at → c.len ≡ 1 → c.count ≡ b.count
          → (number bs agenda c < alone bs goal n b) × Laid bs agenda c.len c.count
      right_asks c er ea e d l m = rw (ea, er) (
        part_number bs (set codes 0 (right_at bs goal * 32 + n)) goal n b c e d l right_less,
        rw (l, m) right_laid,
      )

    module _ (k : kind_at bs goal ≡ 6) where
      lent_laid : Laid bs (set codes 0 (right_at bs goal * 32 + n)) 1 (b.count + 1)
      lent_laid = part_laid (right_at bs goal) (b.count + 1)
          (goal_above bs goal (right_at bs goal) (node_count bs) (omega (arith, goal_low)) (lend_parts sd goal goal_low k).1)
          heights.1 (omega arith)

      lent_less : total bs (set codes 0 (right_at bs goal * 32 + n)) 1 < weight (goal_at bs goal) * (n + 1)
      lent_less =
          let e = total_one bs codes (right_at bs goal) n g.nested room in
          let w = lend_weight sd goal goal_low k in
          let q = weight_times (goal_at bs (right_at bs goal)) (goal_at bs goal) n w in omega arith

-- an agenda of one task, as the code names it
pub one_task : (bs codes : List ℕ) {agenda : List ℕ} {len node goal n : ℕ} → n < 32 → length codes ≡ 104 → len ≡ 1 → node ≡ goal
    → agenda ≡ set codes 0 (node * 32 + n) → task (goal_at bs goal) n ∷ [] ≡ agenda_of bs agenda len
one_task bs codes {goal} {n} h r el e ea = rw (el, ea, e) (sym (agenda_one bs codes goal n h r))

-- The clause of a ⊸ is lent

module _ {bs waits tape nodes heads : List ℕ} {f : Floor} {goal n : ℕ} {b : Branch} (r : Ready bs waits tape nodes heads f b)
    (g : GoalReady bs goal n b) (fb : Fresh b) (k : kind_at bs goal ≡ 6) where
  abbrev D : Clause
  D = clause_of bs (left_at bs goal)

  abbrev G : Goal
  G = goal_at bs (right_at bs goal)

  abbrev es : Scope
  es = scope_in bs nodes b.count

  in_nodes : goal < node_count bs
  in_nodes = goal_lower bs (node_count bs) goal g.is_goal_part

  pub lent_clause : clause_part bs (node_count bs) (left_at bs goal) ≡ true
  lent_clause = clause_above bs goal (left_at bs goal) (node_count bs) (omega (arith, in_nodes)) (lend_parts r.sound goal in_nodes k).0

  lent_few : b.count + 1 ≤ rule_count bs + 168
  lent_few = omega (arith, g.deep, height_pos bs goal)

  pub lent_count : b.count < 256
  lent_count = let c = (sound_front bs r.sound).rules in omega (arith, lent_few)

  rules_in : rule_count bs ≤ b.count
  rules_in = omega (arith, r.scoped)

  abbrev item : ℕ
  item = b.count - rule_count bs

  pub item_low : b.count - rule_count bs < 192
  item_low = omega (arith, lent_few)

  -- the scope's next item is none of the branch's yet
  pub item_free : member b.strict (b.count - rule_count bs) ≡ false
  item_free = item_past r (b.count - rule_count bs) (omega (arith, r.scoped))

  module _ {nodes' heads' : List ℕ} {x : ℕ} (ex : x ≡ left_at bs goal) (put : nodes' ≡ set nodes b.count x)
      (head_put : Headed bs heads heads' b.count x) where
    en : nodes' ≡ set nodes b.count (left_at bs goal)
    en = put ∙ ap (set nodes b.count) ex

    hd : Headed bs heads heads' b.count (left_at bs goal)
    hd = subst (λ (y : ℕ). Headed bs heads heads' b.count y) ex head_put

    lent_scope : scope_in bs nodes' (b.count + 1) ≡ lend es D
    lent_scope =
        ap (λ (i : ℕ). scope_in bs nodes' i) (add-one b.count) ∙ ap (λ (ns : List ℕ). scope_in bs ns (suc b.count)) en
        ∙ lend_scope bs nodes b.count (left_at bs goal) (omega (arith, r.entered.node_room, lent_count)) rules_in

    lent_entered : Entered bs nodes' heads' (b.count + 1)
    lent_entered = rw (add-one b.count, en, hd.written)
        (entered_more (left_at bs goal) r.entered lent_count lent_clause hd.is_head)

    lent_items : items (rule_count bs) (add_s b.strict item) ≡ items (rule_count bs) b.strict ∪ only b.count
    lent_items = items_add (rule_count bs) b.strict b.count rules_in item_low

    lent_bounded : Bounded (scope_in bs nodes' (b.count + 1)) (items (rule_count bs) (add_s b.strict item) ∪ items (rule_count bs) b.lax)
    lent_bounded = record {
      bounded = λ i h.
          let l = scope_len bs nodes' (b.count + 1) in
          let m = scope_len bs nodes b.count in
          let old : (items (rule_count bs) b.strict ∪ items (rule_count bs) b.lax) i ≡ true
          → i < size (scope_in bs nodes' (b.count + 1)) = λ q. let z = r.bounded.bounded i q in omega arith in
          ⊎_elim
          (λ q.
          ⊎_elim
          (λ x. old (in_left i x))
          (λ x. let z = only_eq b.count i x in omega arith)
          (∪_cases (items (rule_count bs) b.strict) (only b.count) i (sym (ap (λ (J : Items). J i) lent_items) ∙ q)))
          (λ q. old (in_right i q))
          (∪_cases (items (rule_count bs) (add_s b.strict item)) (items (rule_count bs) b.lax) i h);
    }
      where
        in_left : (i : ℕ) → items (rule_count bs) b.strict i ≡ true
            → (items (rule_count bs) b.strict ∪ items (rule_count bs) b.lax) i ≡ true
        in_left i x = (join_left (∪_joins (items (rule_count bs) b.strict) (items (rule_count bs) b.lax))).kept i x

        in_right : (i : ℕ) → items (rule_count bs) b.lax i ≡ true
            → (items (rule_count bs) b.strict ∪ items (rule_count bs) b.lax) i ≡ true
        in_right i x = (join_right (∪_joins (items (rule_count bs) b.strict) (items (rule_count bs) b.lax))).kept i x

    lent_ready : Ready bs waits tape nodes' heads' f (lent_b b item)
    lent_ready = record {
      sound = r.sound;
      waiting = r.waiting;
      tape_room = r.tape_room;
      entered = lent_entered;
      scoped = omega (arith, r.scoped);
      few = lent_few;
      at = r.at;
      limit = r.limit;
      fixed = r.fixed;
      from = r.from;
      bounded = lent_bounded;
      seen = r.seen;
      counted = counted_lent b item r.counted item_low item_free;
    }

    -- as the code names it
    module _ {P : ℕ} (c : Branch) (e_p : P ≡ rule_count bs) (ec : c ≡ lent_b b (b.count - P)) where
      pub lent_branch : c ≡ lent_b b item
      lent_branch = ec ∙ ap (λ m. lent_b b (b.count - m)) e_p

      pub lent_asks : (codes : List ℕ) → length codes ≡ 104 → {y : ℕ} {agenda : List ℕ} → y ≡ right_at bs goal
          → agenda ≡ set codes 0 (y * 32 + n)
          → (number bs agenda c < alone bs goal n b) × (Ready bs waits tape nodes' heads' f c × Laid bs agenda c.len c.count)
      lent_asks codes room ey ea = rw (lent_branch, ea, ey) (
        part_number bs (set codes 0 (right_at bs goal * 32 + n)) goal n b (lent_b b item) refl (omega arith) refl
            (lent_less r.sound g codes room k),
        (lent_ready, lent_laid r.sound g codes room k),
      )

    module _ {tape' nodes'' heads'' : List ℕ} {a : Answer}
        (S : Searches bs (task G n ∷ []) f (lent_b b item) tape tape' nodes' nodes'' heads' heads'' a) where
      nodes_on : Kept b.count nodes nodes''
      nodes_on = kept_trans {n = b.count} {m = b.count + 1} (omega arith)
          (rw en (kept_set b.count b.count nodes (left_at bs goal) (omega arith))) S.node_kept

      heads_on : Kept b.count heads heads''
      heads_on = kept_trans {n = b.count} {m = b.count + 1} (omega arith)
          (rw hd.written (kept_set b.count b.count heads hd.code (omega arith))) S.head_kept

      lent_here : place_at (rule_count bs) f (lent_b b item) tape ≡ lent_place es (place_at (rule_count bs) f b tape)
      lent_here = lent_place_lem es (rule_count bs) f b tape (scope_len bs nodes b.count) rules_in item_low

      the_goal : task (lolliᴳ D G) n ∷ [] ≡ task (goal_at bs goal) n ∷ []
      the_goal = ap (λ (H : Goal). task H n ∷ []) (sym (sound_lend r.sound goal in_nodes k))

      lent_stuck : a ≡ Stuck → Searches bs (task (goal_at bs goal) n ∷ []) f b tape tape' nodes nodes'' heads heads'' a
      unfolding Told
      lent_stuck e =
          let z : None (eligible bs) (scope_in bs nodes' (b.count + 1)) (task G n ∷ []) (place_at (rule_count bs) f (lent_b b item) tape)
          = rw e at S.told in
          let z₁ = subst (λ (s : Scope). None (eligible bs) s (task G n ∷ []) (place_at (rule_count bs) f (lent_b b item) tape))
          lent_scope z in
          let z₂ = subst (λ (q : Place). None (eligible bs) (lend es D) (task G n ∷ []) q) lent_here z₁ in
          let u = subst (λ (A : Agenda). None (eligible bs) es A (place_at (rule_count bs) f b tape)) the_goal
          (lend_none (eligible bs) (place_at (rule_count bs) f b tape) z₂) in
          rw e (record { told = u; tape_kept = S.tape_kept; node_kept = nodes_on; head_kept = heads_on })

      pub lent_unsolved : (a ≡ Stuck) ⊎ (a ≡ Tired)
          → Searches bs (task (goal_at bs goal) n ∷ []) f b tape tape' nodes nodes'' heads heads'' a
      unfolding Told
      lent_unsolved (inl e) = lent_stuck e
      lent_unsolved (inr e) = rw e (record { told = tt; tape_kept = S.tape_kept; node_kept = nodes_on; head_kept = heads_on })

      pub lent_solved : (w : Way) → a ≡ Solved w
          → Searches bs (task (goal_at bs goal) n ∷ []) f b tape tape' nodes nodes'' heads heads'' (Solved (without_w w item))
      unfolding Told place_at
      lent_solved w e =
          let s : Solves bs (scope_in bs nodes' (b.count + 1)) (task G n ∷ []) f (lent_b b item) tape tape' w = rw e at S.told in
          let l : List ℕ = slice b.at w.at tape' in
          let z₁ = subst (λ (c : Scope). Least (eligible bs) c (task G n ∷ []) (place_at (rule_count bs) f (lent_b b item) tape) l
          s.items_used s.slack_left) lent_scope s.least in
          let z₂ = subst (λ (q : Place). Least (eligible bs) (lend es D) (task G n ∷ []) q l s.items_used s.slack_left)
          lent_here z₁ in
          let u = subst (λ (A : Agenda). Least (eligible bs) es A (place_at (rule_count bs) f b tape) l (s.items_used ∖ only (size es))
          s.slack_left) the_goal (lend_least (eligible bs) (place_at (rule_count bs) f b tape) r.bounded z₂) in
          record {
            told = record {
              onward = s.onward;
              bounded = s.bounded;
              items_used = s.items_used ∖ only (size es);
              slack_left = s.slack_left;
              least = u;
              used = items_take (rule_count bs) w.used b.count rules_in ∙ gone s.items_used s.used;
              slack = s.slack;
              seen = s.seen;
              past = s.past;
            };
            tape_kept = S.tape_kept;
            node_kept = nodes_on;
            head_kept = heads_on;
          }
        where
          none_used : items (rule_count bs) b.used ≡ ∅
          none_used = ap (items (rule_count bs)) fb.used ∙ items_empty (rule_count bs)

          gone : {W : Items} (X : Items) → W ≡ items (rule_count bs) b.used ∪ X
              → W ∖ only b.count ≡ items (rule_count bs) b.used ∪ (X ∖ only (size es))
          gone X q =
              ap₂ (λ (J : Items) m. J ∖ only m) (q ∙ ap (λ (J : Items). J ∪ X) none_used ∙ ∅_∪ X) (sym (scope_len bs nodes b.count))
              ∙ sym (∅_∪ (X ∖ only (size es))) ∙ ap (λ (J : Items). J ∪ (X ∖ only (size es))) (sym none_used)

  -- As the code has it: what entering asks, and what is told past it, whatever the part's kind
  pub opening : Opening bs nodes heads goal n b
  opening = record {
    sound = r.sound;
    node_room = r.entered.node_room;
    head_room = r.entered.head_room;
    here = in_nodes;
    kind = k;
    clause = lent_clause;
    nested = g.nested;
    few = lent_count;
    scoped = rules_in;
    item = item_low;
    free = item_free;
    counted = r.counted;
  }

  module _ {nodes' heads' : List ℕ} (codes : List ℕ) {codes' : List ℕ} {c : Branch} (room : length codes ≡ 104) where
    pub opened_asks : InsideOpened bs nodes nodes' heads heads' codes codes' goal n b c
        → (number bs codes' c < alone bs goal n b) × (Ready bs waits tape nodes' heads' f c × Laid bs codes' c.len c.count)
    opened_asks (lends k en hd ea ec) = lent_asks refl en hd c refl ec codes room refl ea

    inner : {tape' nodes'' heads'' : List ℕ} {a : Answer} → c ≡ lent_b b item → codes' ≡ set codes 0 (right_at bs goal * 32 + n)
        → Searches bs (agenda_of bs codes' c.len) f c tape tape' nodes' nodes'' heads' heads'' a
        → Searches bs (task G n ∷ []) f (lent_b b item) tape tape' nodes' nodes'' heads' heads'' a
    inner ec ea S = searched_at ec (searched_as (one_task bs codes g.nested room (ap (λ (x : Branch). x.len) ec) refl ea) S)

    pub opened_unsolved : {tape' nodes'' heads'' : List ℕ} {a : Answer} → InsideOpened bs nodes nodes' heads heads' codes codes' goal n b c
        → Searches bs (agenda_of bs codes' c.len) f c tape tape' nodes' nodes'' heads' heads'' a → (a ≡ Stuck) ⊎ (a ≡ Tired)
        → Searches bs (task (goal_at bs goal) n ∷ []) f b tape tape' nodes nodes'' heads heads'' a
    opened_unsolved (lends k en hd ea ec) S u = lent_unsolved refl en hd (inner ec ea S) u

    pub opened_solved : {tape' nodes'' heads'' : List ℕ} {a : Answer} (w : Way) → InsideOpened bs nodes nodes' heads heads' codes codes' goal n b c
        → Searches bs (agenda_of bs codes' c.len) f c tape tape' nodes' nodes'' heads' heads'' a → a ≡ Solved w
        → Searches bs (task (goal_at bs goal) n ∷ []) f b tape tape' nodes nodes'' heads heads'' (Solved (outside_w bs goal b.count w))
    unfolding outside_w
    opened_solved w (lends k en hd ea ec) S u = lent_solved refl en hd (inner ec ea S) w u
