-- What is told of an agenda once its ⊗, 1 and ⊤ are unwound is told of the agenda.
use Prim.Native.Nat.{ℕ, ◌+◌, ◌-◌, ◌*◌, ◌≤◌, ◌<◌}
use native.Mathlib.Omega.{arith}
use mathlib.Core.Path.{◌≡◌, refl, sym, ◌∙◌, ap, subst}
use mathlib.Core.Logic.{◌⊎◌, inl, inr, ⊎_elim}
use mathlib.Core.Bool.{Bool, true, false, cond, ◌||◌, false≢true}
use mathlib.Core.List.{List, []}
use lib.ListN.{length, take}
use lib.Seq.{slice, slice_empty}
use Rattle.calculus.specs.Items.{Items, ∅, ◌∪◌, Empty, Within}
use Rattle.calculus.specs.Derivation.{Scope}
use Rattle.calculus.specs.Inner.Summary.{Bounded}
use Rattle.calculus.proofs.SetLaws.{empty_∅, all_used}
use Rattle.lines.specs.Set.{Words, is_empty_s}
use Rattle.card.specs.Format.{node_count, rule_count, kind_at}
use Rattle.card.specs.Fault.{Sound}
use Rattle.card.proofs.SoundNodes.{goal_lower, goal_kind, node_here}
use Rattle.scope.specs.Inner.Sets.{items}
use Rattle.scope.proofs.SetsAreItems.{items_none}
use Rattle.scope.proofs.TablesAreScopes.{kept_self}
use Rattle.entries.specs.Inner.Entries.{scope_in}
use Rattle.entries.specs.Inner.Twins.{eligible}
use Rattle.agenda.specs.Inner.Agenda.{Agenda}
use Rattle.agenda.specs.Inner.Order.{next_here}
use Rattle.agenda.specs.Inner.Sought.{Place, None, Least}
use Rattle.agenda.proofs.AgendasRead.{reads_empty}
use Rattle.agenda.proofs.SearchTells.{done_solved}
use Rattle.branch.specs.declared.Branch.{Branch}
use Rattle.branch.specs.declared.Way.{Way}
use Rattle.branch.specs.declared.Floor.{Floor}
use Rattle.branch.specs.Inner.Values.{Answer, Solved, Stuck, Tired}
use Rattle.branch.specs.Inner.Values.{closed_a, past_f}
use Rattle.segment.specs.Inner.Tasks.{agenda_of, Laid, Unwound, Opened, OpenTask, items_at}
use Rattle.segment.proofs.TasksAreAgendas.{laid_short}
use Rattle.choice.specs.Inner.Choice.{given_at, from_at}
use Rattle.engine.specs.Inner.Engine.{place_at, Ready, NameNext, PartNext, OneOfNext, top_node, Solves, Told, Searches}
use Rattle.engine.proofs.NumbersFall.{number}

-- The next task of an agenda that is not empty

module _ {bs codes : List ℕ} (b : Branch) (s : Sound bs) (l : Laid bs codes b.len b.count) (some : 1 ≤ b.len) where
  pub top_within : b.len - 1 < 104
  top_within = let h = laid_short l in omega arith

  pub top_here : 16 + 5 * top_node codes b ≤ length bs
  top_here = node_here s (top_node codes b) (goal_lower bs (node_count bs) (top_node codes b) (l.fits (b.len - 1) (omega arith)).is_goal_part)

module _ {bs codes : List ℕ} {b : Branch} (l : Laid bs codes b.len b.count) (o : Opened bs codes b) (some : 0 < b.len)
    {k : ℕ} (kind : k ≡ kind_at bs (top_node codes b)) where
  opened : (b.len ≡ 0) ⊎ OpenTask bs codes b
  unfolding Opened
  opened = o

  -- it is a name
  pub name_next : k ≡ 1 → NameNext bs codes b
  name_next e = record { laid = l; some = omega arith; kind = sym kind ∙ e }

  -- or ⊕ or 0
  pub one_of_next : 7 < k → OneOfNext bs codes b
  one_of_next h = record { laid = l; some = omega arith; kind = omega (arith, kind) }

  -- or & or ⊸
  pub part_next : 4 < k → k ≤ 7 → PartNext bs codes b
  part_next g h = record { laid = l; some = omega arith; kind = omega (arith, kind); no_choice = omega (arith, kind) }

-- It is nothing else
module _ {bs codes : List ℕ} (b : Branch) (l : Laid bs codes b.len b.count) (o : Opened bs codes b) (some : 0 < b.len)
    {k : ℕ} (kind : k ≡ kind_at bs (top_node codes b)) where
  pub open_kind : (k ≡ 1) ⊎ (((4 < k) × (k ≤ 6)) ⊎ ((k ≡ 8) ⊎ (k ≡ 9)))
  open_kind = ⊎_elim (λ e. absurd (omega arith)) (λ t. ⊎_elim (λ e. inl (kind ∙ e)) (λ h. inr (high h)) t.kind) (opened l o some kind)
    where
      high : 4 < kind_at bs (top_node codes b) → ((4 < k) × (k ≤ 6)) ⊎ ((k ≡ 8) ⊎ (k ≡ 9))
      high h =
          ⊎_elim (λ m. inl (omega (arith, kind, h), omega (arith, kind, m)))
          (λ m. inr (⊎_elim (λ e. inl (kind ∙ e)) (λ e. inr (kind ∙ e)) m))
          (goal_kind bs (node_count bs) (top_node codes b) (l.fits (b.len - 1) (omega arith)).is_goal_part).1

-- The branch after it stands where the branch before it does

module _ {bs codes codes' : List ℕ} {b c : Branch} (u : Unwound bs codes codes' b c) where
  pub unwound_number : number bs codes' c ≤ number bs codes b
  unwound_number =
      let l = u.same_limit in
      let a = u.same_at in
      let n = u.no_heavier in
      rw (l, a) (omega arith)

  unwound_place : (P : ℕ) (f : Floor) (tape : List ℕ) → place_at P f c tape ≡ items_at P c (place_at P f b tape)
  unfolding place_at
  unwound_place P f tape = λ i. record {
    done = take (u.same_at i) tape;
    given = given_at f (u.same_at i) tape;
    from = from_at f (u.same_at i);
    strict = items P c.strict;
    lax = items P c.lax;
    room = u.same_limit i - u.same_at i;
  }

  hand : (P : ℕ) (es : Scope) → Bounded es (items P b.strict ∪ items P b.lax) → Bounded es (items P c.strict ∪ items P c.lax)
  unfolding ◌∪◌
  hand P es h = record { bounded = λ i t. h.bounded i (sym (u.same_hand P i) ∙ t) }

  pub unwound_ready : {waits tape nodes heads : List ℕ} {f : Floor} → Ready bs waits tape nodes heads f b
      → Ready bs waits tape nodes heads f c
  unwound_ready {nodes = nodes} r = record {
    sound = r.sound;
    waiting = r.waiting;
    tape_room = r.tape_room;
    entered = rw u.same_count r.entered;
    scoped = rw u.same_count r.scoped;
    few = rw u.same_count r.few;
    at = rw (u.same_at, u.same_limit) r.at;
    limit = rw u.same_limit r.limit;
    fixed = r.fixed;
    from = r.from;
    bounded = rw u.same_count (hand (rule_count bs) (scope_in bs nodes b.count) r.bounded);
    seen = rw (u.same_at, u.same_seen) r.seen;
    counted = u.counted;
  }

  -- THEOREM. What is told of the agenda after is told of the agenda before.
  module _ (f : Floor) (tape tape' : List ℕ) (es : Scope) where
    back_none : None (eligible bs) es (agenda_of bs codes' c.len) (place_at (rule_count bs) f c tape)
        → None (eligible bs) es (agenda_of bs codes b.len) (place_at (rule_count bs) f b tape)
    unfolding place_at
    back_none n = u.none (rule_count bs) (eligible bs) es (place_at (rule_count bs) f b tape)
        (subst (None (eligible bs) es (agenda_of bs codes' c.len)) (unwound_place (rule_count bs) f tape) n)

    back_least : (l : List ℕ) (U : Items) (v : Bool)
        → Least (eligible bs) es (agenda_of bs codes' c.len) (place_at (rule_count bs) f c tape) l U v
        → (w : Bool) × Least (eligible bs) es (agenda_of bs codes b.len) (place_at (rule_count bs) f b tape) l U w
        × ((c.slack || v) ≡ (b.slack || w))
    unfolding place_at
    back_least l U v n = u.least (rule_count bs) (eligible bs) es (place_at (rule_count bs) f b tape) l U v
        (subst (λ (q : Place). Least (eligible bs) es (agenda_of bs codes' c.len) q l U v) (unwound_place (rule_count bs) f tape) n)

    back_solves : {w : Way} → Solves bs es (agenda_of bs codes' c.len) f c tape tape' w
        → Solves bs es (agenda_of bs codes b.len) f b tape tape' w
    back_solves {w} x = at (back_least (slice c.at w.at tape') x.items_used x.slack_left x.least)
      where
        p : Place
        p = place_at (rule_count bs) f b tape

        A : Agenda
        A = agenda_of bs codes b.len

        at : (v : Bool) × Least (eligible bs) es A p (slice c.at w.at tape') x.items_used v
            × ((c.slack || x.slack_left) ≡ (b.slack || v))
            → Solves bs es A f b tape tape' w
        at (v, l, q) = record {
          onward = rw (← u.same_at) x.onward;
          bounded = rw (← u.same_limit) x.bounded;
          items_used = x.items_used;
          slack_left = v;
          least = subst (λ (a : ℕ). Least (eligible bs) es A p (slice a w.at tape') x.items_used v) u.same_at l;
          used = x.used ∙ ap (λ s. items (rule_count bs) s ∪ x.items_used) u.same_used;
          slack = x.slack ∙ q;
          seen = x.seen;
          past = rw (← u.same_at) x.past;
        }

    back_told : (r : Answer) → Told bs es (agenda_of bs codes' c.len) f c tape tape' r
        → Told bs es (agenda_of bs codes b.len) f b tape tape' r
    unfolding Told
    back_told (Solved w) t = back_solves t
    back_told Stuck t = back_none t
    back_told Tired t = t

  pub unwound_searched : {f : Floor} {tape tape' nodes nodes' heads heads' : List ℕ} {r : Answer}
      → Searches bs (agenda_of bs codes' c.len) f c tape tape' nodes nodes' heads heads' r
      → Searches bs (agenda_of bs codes b.len) f b tape tape' nodes nodes' heads heads' r
  unwound_searched {f} {tape} {tape'} {nodes = nodes} {r = r} x = record {
    told = back_told f tape tape' (scope_in bs nodes b.count) r (rw (← u.same_count) x.told);
    tape_kept = rw (← u.same_at) x.tape_kept;
    node_kept = rw (← u.same_count) x.node_kept;
    head_kept = rw (← u.same_count) x.head_kept;
  }

-- The empty agenda: no strict item may be left

within_empty : {I U : Items} → Within I U → Empty U → Empty I
within_empty {I} {U} i u = record { vacant = λ x. off x (I x) refl }
  where
    off : (x : ℕ) (v : Bool) → I x ≡ v → I x ≡ false
    off x true q = absurd (false≢true (sym (u.vacant x) ∙ i.kept x q))
    off x false q = q

module _ {bs waits tape nodes heads : List ℕ} {f : Floor} {b : Branch} (R : Ready bs waits tape nodes heads f b)
    (w : Words b.strict) where
  nothing_used : (I : Items) → I ≡ I ∪ ∅
  unfolding ◌∪◌ ∅
  nothing_used I = λ i x. or_false (I x) i
    where
      or_false : (v : Bool) → v ≡ (v || false)
      or_false true = refl
      or_false false = refl

  no_more : (v : Bool) → v ≡ (v || false)
  no_more true = refl
  no_more false = refl

  done : (es : Scope) → Empty (items (rule_count bs) b.strict)
      → Solves bs es [] f b tape tape (record { at = b.at; used = b.used; seen = b.seen; slack = b.slack; kept = true })
  unfolding place_at past_f
  done es e = record {
    onward = omega arith;
    bounded = R.at;
    items_used = ∅;
    slack_left = false;
    least = rw (slice_empty b.at tape) (done_solved (eligible bs) e empty_∅);
    used = nothing_used (items (rule_count bs) b.used);
    slack = no_more b.slack;
    seen = R.seen;
    past = rw (slice_empty b.at tape) next_here;
  }

  left_over_lem : (es : Scope) → (Empty (items (rule_count bs) b.strict) → ⊥) → None (eligible bs) es [] (place_at (rule_count bs) f b tape)
  unfolding place_at
  left_over_lem es n = record {
    none = λ l U v s.
        let e = reads_empty s.reads in
        n (within_empty (all_used es v e.2 s.window.all_strict) e.1);
  }

  told_closed : (es : Scope) (v : Bool) → is_empty_s b.strict ≡ v
      → Told bs es [] f b tape tape
      (cond v (Solved (record { at = b.at; used = b.used; seen = b.seen; slack = b.slack; kept = true })) Stuck)
  unfolding Told
  told_closed es true q = done es ((items_none (rule_count bs) b.strict w).0 q)
  told_closed es false q = left_over_lem es (λ e. false≢true (sym q ∙ (items_none (rule_count bs) b.strict w).1 e))

  no_tasks : (codes : List ℕ) (n : ℕ) → n ≡ 0 → agenda_of bs codes n ≡ []
  unfolding agenda_of
  no_tasks codes n e = rw e refl

  pub closed_searched : (codes : List ℕ) {r : Answer} → b.len ≡ 0 → r ≡ closed_a b
      → Searches bs (agenda_of bs codes b.len) f b tape tape nodes nodes heads heads r
  unfolding closed_a
  closed_searched codes {r} e q = record {
    told =
        subst (λ (A : Agenda). Told bs es A f b tape tape r) (sym (no_tasks codes b.len e))
        (subst (Told bs es [] f b tape tape) (sym q) (told_closed es (is_empty_s b.strict) refl));
    tape_kept = kept_self b.at tape;
    node_kept = kept_self b.count nodes;
    head_kept = kept_self b.count heads;
  }
    where
      es : Scope
      es = scope_in bs nodes b.count
