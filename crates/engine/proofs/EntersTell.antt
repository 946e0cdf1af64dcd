-- What a search says where a part is entered: a goal put on the agenda, or a clause in use whose conditions are; and where ⊕ or 0 comes next.
use Prim.Native.Nat.{ℕ, ◌+◌, ◌-◌, ◌*◌, ◌≤◌, ◌<◌}
use native.Mathlib.Omega.{arith}
use mathlib.Core.Path.{◌≡◌, refl, sym, ◌∙◌, ap, subst}
use mathlib.Core.Logic.{◌⊎◌, inl, inr, ⊎_elim}
use mathlib.Core.Bool.{Bool, true, false, true≢false, false≢true}
use mathlib.Core.List.{List, ◌∷◌}
use lib.ListN.{length, get_or, set}
use borrow.Author.Tests.{not-true}
use Rattle.calculus.specs.Formula.{zeroᴳ, residual, usable}
use Rattle.calculus.specs.Derivation.{Scope}
use Rattle.card.specs.Format.{rule_count, node_count, kind_at, left_at}
use Rattle.card.specs.Fault.{clause_part, height_at}
use Rattle.card.specs.Decode.{goal_at, clause_of, scope_of}
use Rattle.card.proofs.CardChecked.{sound_front}
use Rattle.card.proofs.NodesDecoded.{reads_name, reads_never}
use Rattle.card.proofs.SoundNodes.{goal_lower, goal_kind, clause_lower, clause_kind, node_here, height_pos, usable_name, usable_rest}
use Rattle.scope.proofs.TablesAreScopes.{kept_self}
use Rattle.entries.specs.Inner.Entries.{scope_in}
use Rattle.entries.specs.Inner.Twins.{eligible}
use Rattle.agenda.specs.Inner.Agenda.{Agenda, task, Alike, pushed}
use Rattle.agenda.specs.Inner.Sought.{None}
use Rattle.agenda.proofs.AgendasRead.{reads_core, core_usable, reads_head, reads_0, reads_usable}
use Rattle.agenda.proofs.SearchTells.{alike_none, alike_least}
use Rattle.branch.specs.declared.Branch.{Branch}
use Rattle.branch.specs.declared.Floor.{Floor}
use Rattle.branch.specs.Inner.Values.{Answer, Solved, Stuck, Tired, sized_b, longer_b, dropped_b}
use Rattle.segment.specs.declared.tasks.Pushed.{Pushed}
use Rattle.segment.specs.Inner.Tasks.{task_of, agenda_of, Laid, Pushing}
use Rattle.segment.proofs.TasksAreAgendas.{agenda_next, agenda_put, task_code, fit_code, laid_put, laid_less, nest_low}
use Rattle.segment.proofs.TurnsTell.{total_pos}
use Rattle.moves.specs.Inner.Moves.{shut_by}
use Rattle.engine.specs.Inner.Engine.{place_at, Ready, OneOfNext, top_node, top_nest, part_goal, PartGood, PartReady, choice_kind, ChoiceReady}
use Rattle.engine.specs.Inner.Engine.{Told, Searches, Solving, Entering}
use Rattle.engine.proofs.NumbersFall.{number, most, fewest, under_most}

-- Answers of agendas with the same readings, and of a branch with another count of tasks

told_alike : (bs : List ℕ) (es : Scope) {A B : Agenda} (f : Floor) (b : Branch) (tape tape' : List ℕ) (r : Answer) → Alike es A B
    → Told bs es B f b tape tape' r → Told bs es A f b tape tape' r
unfolding Told
told_alike bs es f b tape tape' (Solved w) h t = record {
  onward = t.onward;
  bounded = t.bounded;
  items_used = t.items_used;
  slack_left = t.slack_left;
  least = alike_least (eligible bs) h t.least;
  used = t.used;
  slack = t.slack;
  seen = t.seen;
  past = t.past;
}
told_alike bs es f b tape tape' Stuck h t = alike_none (eligible bs) h t
told_alike bs es f b tape tape' Tired h t = t

searched_alike : {bs : List ℕ} {A B : Agenda} {f : Floor} {b : Branch} {tape tape' nodes nodes' heads heads' : List ℕ} {r : Answer}
    → Alike (scope_in bs nodes b.count) A B → Searches bs B f b tape tape' nodes nodes' heads heads' r
    → Searches bs A f b tape tape' nodes nodes' heads heads' r
searched_alike {bs} {f = f} {b} {tape} {tape'} {nodes} {r = r} h S = record {
  told = told_alike bs (scope_in bs nodes b.count) f b tape tape' r h S.told;
  tape_kept = S.tape_kept;
  node_kept = S.node_kept;
  head_kept = S.head_kept;
}

told_sized : (bs : List ℕ) (es : Scope) (A : Agenda) (f : Floor) (b : Branch) (len : ℕ) (tape tape' : List ℕ) (r : Answer)
    → Told bs es A f (sized_b b len) tape tape' r → Told bs es A f b tape tape' r
unfolding Told place_at
told_sized bs es A f b len tape tape' (Solved w) t = record {
  onward = t.onward;
  bounded = t.bounded;
  items_used = t.items_used;
  slack_left = t.slack_left;
  least = t.least;
  used = t.used;
  slack = t.slack;
  seen = t.seen;
  past = t.past;
}
told_sized bs es A f b len tape tape' Stuck t = t
told_sized bs es A f b len tape tape' Tired t = t

pub searched_sized : {bs : List ℕ} {A : Agenda} {f : Floor} {b : Branch} (len : ℕ) {tape tape' nodes nodes' heads heads' : List ℕ} {r : Answer}
    → Searches bs A f (sized_b b len) tape tape' nodes nodes' heads heads' r → Searches bs A f b tape tape' nodes nodes' heads heads' r
searched_sized {bs} {A} {f} {b} len {tape} {tape'} {nodes} {r = r} S = record {
  told = told_sized bs (scope_in bs nodes b.count) A f b len tape tape' r S.told;
  tape_kept = S.tape_kept;
  node_kept = S.node_kept;
  head_kept = S.head_kept;
}

pub ready_sized : {bs waits tape nodes heads : List ℕ} {f : Floor} {b : Branch} (len : ℕ) → Ready bs waits tape nodes heads f b
    → Ready bs waits tape nodes heads f (sized_b b len)
ready_sized len R = record {
  sound = R.sound;
  waiting = R.waiting;
  tape_room = R.tape_room;
  entered = R.entered;
  scoped = R.scoped;
  few = R.few;
  at = R.at;
  limit = R.limit;
  fixed = R.fixed;
  from = R.from;
  bounded = R.bounded;
  seen = R.seen;
  counted = R.counted;
}

-- A goal

module _ {bs waits tape nodes heads codes : List ℕ} {f : Floor} {b : Branch} (R : Ready bs waits tape nodes heads f b) {part name n : ℕ}
    (Q : PartReady bs codes false part name n b) where
  goal_good : PartGood bs false part n b
  goal_good = Q.good

  abbrev code : ℕ
  code = part * 32 + n

  pub goal_room : (b.len < 104) × ((part < 512) × (n < 32))
  unfolding PartGood
  goal_room =
      let g = goal_good in
      let few = (sound_front bs R.sound).few in
      let h = height_pos bs part in
      (omega (arith, g.1, h), (omega (arith, goal_lower bs (node_count bs) part g.0, few), Q.nested))

  pub goal_laid : Laid bs (set codes b.len code) (b.len + 1) b.count
  unfolding PartGood
  goal_laid =
      let g = goal_good in
      laid_put goal_room.0 (fit_code part n Q.nested g.0 g.1 g.2) Q.laid

  goal_agenda : agenda_of bs (set codes b.len code) (b.len + 1) ≡ task (goal_at bs part) n ∷ agenda_of bs codes b.len
  goal_agenda =
      agenda_put bs codes b.len code (let r = Q.laid.room in omega (arith, goal_room.0))
      ∙ ap (λ t. t ∷ agenda_of bs codes b.len) (task_code bs part n Q.nested)

  module _ (codes' : List ℕ) (e : codes' ≡ set codes b.len code) (b₂ : Branch) (eb : b₂ ≡ longer_b b) where
    pub goal_call : (t : ℕ) → 8 * most b + 3 ≡ t
        → (8 * number bs codes' b₂ + 7 < t) × (Ready bs waits tape nodes heads f b₂ × Laid bs codes' b₂.len b₂.count)
    goal_call t q = rw (eb, e) (
      let k = under_most bs (set codes b.len code) (longer_b b) R.sound goal_laid in omega arith,
      (ready_sized (b.len + 1) R, goal_laid),
    )

    pub goal_told : {tape' nodes' heads' : List ℕ} {r : Answer} → Solving bs codes' f b₂ tape tape' nodes nodes' heads heads' r
        → Entering bs codes false part name n f b tape tape' nodes nodes' heads heads' r
    unfolding part_goal
    goal_told {tape'} {nodes'} {heads'} {r} S =
        searched_sized (b.len + 1)
        (subst (λ A. Searches bs A f (longer_b b) tape tape' nodes nodes' heads heads' r) goal_agenda (rw (eb, e) at S))

-- A clause in use

module _ {bs waits tape nodes heads codes : List ℕ} {f : Floor} {b : Branch} (R : Ready bs waits tape nodes heads f b) {part name n : ℕ}
    (Q : PartReady bs codes true part name n b) where
  clause_good : PartGood bs true part n b
  clause_good = Q.good

  fitting : usable (scope_of bs).fits name (clause_of bs part) ≡ true
  fitting = Q.fitting refl

  pub clause_room : (clause_part bs (node_count bs) part ≡ true) × ((n < 32) × ((b.len + height_at bs part ≤ 105) × (length codes ≡ 104)))
  unfolding PartGood
  clause_room = let g = clause_good in (g.0, (Q.nested, (omega (arith, g.1), Q.laid.room)))

  module _ {codes' : List ℕ} {p : Pushed} (P : Pushing bs codes codes' b.len part n p) where
    pub core_here : 16 + 5 * p.core ≤ length bs
    core_here = node_here R.sound p.core (clause_lower bs (node_count bs) p.core P.core_node)

    pushed_laid : Laid bs codes' p.len b.count
    unfolding PartGood
    pushed_laid = let g = clause_good in P.laid b.count Q.laid g.1 g.2

    core_fits : usable (scope_of bs).fits name (clause_of bs p.core) ≡ true
    core_fits =
        ap (usable (scope_of bs).fits name) P.is_core ∙ core_usable (scope_of bs).fits name (clause_of bs part) ∙ fitting

    -- the core is a name or a menu
    pub core_kinds : (kind_at bs p.core ≡ 1) ⊎ (kind_at bs p.core ≡ 10)
    core_kinds =
        ⊎_elim inl
        (⊎_elim (λ e. absurd (true≢false (sym core_fits ∙ usable_rest bs p.core e (scope_of bs).fits name)))
        (⊎_elim (λ e. absurd (P.core_kind e)) inr))
        (clause_kind bs (node_count bs) p.core P.core_node)

    abbrev es : Scope
    es = scope_in bs nodes b.count

    -- what is left of the core, then the conditions
    core_alike : Alike es (task (part_goal bs true name part) n ∷ agenda_of bs codes b.len)
        (task (part_goal bs true name p.core) n ∷ agenda_of bs codes' p.len)
    unfolding part_goal
    core_alike =
        subst (λ A. Alike es (task (residual (scope_of bs).fits name (clause_of bs part)) n ∷ agenda_of bs codes b.len)
        (task (residual (scope_of bs).fits name (clause_of bs p.core)) n ∷ A)) (sym P.tasks)
        (subst (λ D. Alike es (task (residual (scope_of bs).fits name (clause_of bs part)) n ∷ agenda_of bs codes b.len)
        (task (residual (scope_of bs).fits name D) n ∷ pushed n (clause_of bs part) (agenda_of bs codes b.len))) (sym P.is_core)
        (reads_core es (scope_of bs).fits name n (clause_of bs part) (agenda_of bs codes b.len)))

    -- where the core is a menu
    module _ (k : kind_at bs p.core ≡ 10) (b₂ : Branch) (eb : b₂ ≡ sized_b b p.len) where
      pub menu_call : (t : ℕ) → 8 * most b + 3 ≡ t
          → (8 * fewest b₂ + 5 < t) × (Ready bs waits tape nodes heads f b₂ × ChoiceReady bs codes' true p.core name n b₂)
      unfolding PartGood choice_kind
      menu_call t q = rw eb (
        omega arith,
        (
          ready_sized p.len R,
          record {
            laid = pushed_laid;
            nested = Q.nested;
            good = let g = clause_good in
                (P.core_node, omega (arith, g.1, P.no_higher), omega (arith, g.2, P.lower));
            kind = k;
          },
        ),
      )

      pub menu_told : {tape' nodes' heads' : List ℕ} {r : Answer}
          → Entering bs codes' true p.core name n f b₂ tape tape' nodes nodes' heads heads' r
          → Entering bs codes true part name n f b tape tape' nodes nodes' heads heads' r
      menu_told S = searched_alike core_alike (searched_sized p.len (rw eb at S))

    -- where it is a head
    module _ (k : kind_at bs p.core ≡ 10 → ⊥) (b₂ : Branch) (eb : b₂ ≡ sized_b b p.len) where
      head_kind : kind_at bs p.core ≡ 1
      head_kind = ⊎_elim (λ e. e) (λ e. absurd (k e)) core_kinds

      head_alike : Alike es (task (part_goal bs true name p.core) n ∷ agenda_of bs codes' p.len) (agenda_of bs codes' p.len)
      unfolding part_goal
      head_alike =
          subst (λ D. Alike es (task (residual (scope_of bs).fits name D) n ∷ agenda_of bs codes' p.len) (agenda_of bs codes' p.len))
          (sym (reads_name bs p.core head_kind).1)
          (reads_head es (scope_of bs).fits name (left_at bs p.core) n (agenda_of bs codes' p.len)
          (sym (usable_name bs p.core head_kind (scope_of bs).fits name) ∙ core_fits))

      pub head_call : (t : ℕ) → 8 * most b + 3 ≡ t
          → (8 * number bs codes' b₂ + 7 < t) × (Ready bs waits tape nodes heads f b₂ × Laid bs codes' b₂.len b₂.count)
      head_call t q = rw eb (
        let m = under_most bs codes' (sized_b b p.len) R.sound pushed_laid in omega arith,
        (ready_sized p.len R, pushed_laid),
      )

      pub head_told : {tape' nodes' heads' : List ℕ} {r : Answer} → Solving bs codes' f b₂ tape tape' nodes nodes' heads heads' r
          → Entering bs codes true part name n f b tape tape' nodes nodes' heads heads' r
      head_told S = searched_alike core_alike (searched_alike head_alike (searched_sized p.len (rw eb at S)))

-- A side that is shut: of a menu, one whose heads are not the name

pub shut_told : (bs : List ℕ) (meets : Bool) (name part n : ℕ) (A : Agenda) (f : Floor) (b : Branch) (tape nodes heads : List ℕ)
    → shut_by bs meets name part ≡ true
    → Searches bs (task (part_goal bs meets name part) n ∷ A) f b tape tape nodes nodes heads heads Stuck
unfolding shut_by part_goal Told
shut_told bs false name part n A f b tape nodes heads h = absurd (false≢true h)
shut_told bs true name part n A f b tape nodes heads h = record {
  told = record {
    none = λ l U v s. true≢false
        (sym (reads_usable (scope_in bs nodes b.count) (scope_of bs).fits name n (clause_of bs part) A l U v s.reads) ∙ not-true _ h);
  };
  tape_kept = kept_self b.at tape;
  node_kept = kept_self b.count nodes;
  head_kept = kept_self b.count heads;
}

-- ⊕ or 0 comes next

module _ {bs waits tape nodes heads codes : List ℕ} {f : Floor} {b : Branch} (R : Ready bs waits tape nodes heads f b)
    (O : OneOfNext bs codes b) where
  one_of_task : agenda_of bs codes b.len ≡ task (goal_at bs (top_node codes b)) (top_nest codes b) ∷ agenda_of bs codes (b.len - 1)
  unfolding task_of
  one_of_task = agenda_next bs codes b.len O.some

  -- 0 is not derived
  module _ (goal : ℕ) (eg : goal ≡ top_node codes b) where
    pub one_of_kinds : (kind_at bs goal ≡ 8) ⊎ (kind_at bs goal ≡ 9)
    one_of_kinds = rw eg
        (let f = O.laid.fits (b.len - 1) (let s = O.some in omega arith) in
        ⊎_elim (λ h. absurd (omega (arith, h, O.kind))) (λ h. h) (goal_kind bs (node_count bs) (top_node codes b) f.is_goal_part).1)

    pub never_told : kind_at bs goal ≡ 9 → Solving bs codes f b tape tape nodes nodes heads heads Stuck
    unfolding Told
    never_told k =
        let z : goal_at bs (top_node codes b) ≡ zeroᴳ = reads_never bs (top_node codes b) (ap (kind_at bs) (sym eg) ∙ k) in
        let e = one_of_task ∙ ap (λ G. task G (top_nest codes b) ∷ agenda_of bs codes (b.len - 1)) z in
        record {
          told = subst (λ A. None (eligible bs) (scope_in bs nodes b.count) A (place_at (rule_count bs) f b tape)) (sym e)
              (record { none = λ l U v s. reads_0 s.reads });
          tape_kept = kept_self b.at tape;
          node_kept = kept_self b.count nodes;
          head_kept = kept_self b.count heads;
        }

    module _ (n : ℕ) (en : n ≡ top_nest codes b) (k : kind_at bs goal ≡ 9 → ⊥) (b₂ : Branch) (eb : b₂ ≡ dropped_b b) where
      one_of_kind : kind_at bs (top_node codes b) ≡ 8
      one_of_kind = ⊎_elim (λ e. ap (kind_at bs) (sym eg) ∙ e) (λ e. absurd (k e)) one_of_kinds

      pub one_of_call : (t : ℕ) → 8 * number bs codes b + 5 ≡ t
          → (8 * fewest b₂ + 5 < t) × (Ready bs waits tape nodes heads f b₂ × ChoiceReady bs codes false goal 0 n b₂)
      unfolding PartGood choice_kind
      one_of_call t q = rw (eb, eg, en) (
        let m = total_pos bs codes b.len O.some in omega arith,
        (
          ready_sized (b.len - 1) R,
          let fit = O.laid.fits (b.len - 1) (let s = O.some in omega arith) in
              record {
                laid = laid_less O.laid;
                nested = nest_low (get_or codes (b.len - 1) 0);
                good = (fit.is_goal_part, fit.stacked, fit.deep);
                kind = one_of_kind;
              },
        ),
      )

      pub one_of_told : {tape' nodes' heads' : List ℕ} {r : Answer}
          → Entering bs codes false goal 0 n f b₂ tape tape' nodes nodes' heads heads' r
          → Solving bs codes f b tape tape' nodes nodes' heads heads' r
      unfolding part_goal
      one_of_told {tape'} {nodes'} {heads'} {r} S =
          subst (λ A. Searches bs A f b tape tape' nodes nodes' heads heads' r) (sym one_of_task)
          (searched_sized (b.len - 1) (rw (eb, eg, en) at S))
