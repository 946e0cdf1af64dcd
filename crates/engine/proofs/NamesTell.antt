-- What a search says where the next task is a name: by the entries that can be used for it, each with its conditions before the rest.
use Prim.Native.Nat.{ℕ, zero, suc, ◌+◌, ◌-◌, ◌*◌, ◌≤◌, ◌<◌}
use native.Mathlib.Decide.{dec_lt}
use native.Mathlib.Omega.{arith}
use mathlib.Core.Path.{◌≡◌, refl, sym, ◌∙◌, ap, ap₂, subst, fun_ext}
use mathlib.Core.Logic.{◌⊎◌, inl, inr, ⊎_elim, by_cases}
use mathlib.Core.Bool.{Bool, true, false, not, cond, ◌&&◌, ◌||◌, true≢false}
use mathlib.Core.List.{List, [], ◌∷◌, ◌++◌}
use lib.ListN.{length, get_or, take, set, length-set}
use lib.Seq.{slice, set-get_or}
use lib.Dec.{leb, ltb, eqb}
use borrow.Author.Tests.{lt-ltb, le-ltb, eq-eqb, ne_eqb, eqb-true, ltb-true, ltb-false}
use Rattle.calculus.specs.Formula.{Clause, Fits, atomᴳ, residual, usable}
use Rattle.calculus.specs.Items.{Items, ◌∪◌, ◌∖◌, only, Within}
use Rattle.calculus.specs.Derivation.{Scope, clause_at, linear_at, residual_at}
use Rattle.calculus.proofs.SetLaws.{∪_cases, ∪_joins, join_left, join_right, ∖_within}
use Rattle.card.specs.Format.{rule_count, line_count, node_count, left_at, byte_at}
use Rattle.card.specs.Fault.{Sound, clause_part, height_at}
use Rattle.card.specs.Decode.{clause_of, scope_of}
use Rattle.card.proofs.CardChecked.{sound_front}
use Rattle.card.proofs.NodesDecoded.{reads_name}
use Rattle.card.proofs.SoundNodes.{goal_lower, clause_lower, node_here, name_low, height_low, height_pos}
use Rattle.scope.specs.Inner.Sets.{items}
use Rattle.scope.specs.Inner.Tables.{Kept}
use Rattle.scope.proofs.TablesAreScopes.{kept_self, kept_trans, kept_again, kept_set}
use Rattle.lines.specs.Inner.Word.{add_l}
use Rattle.entries.specs.Inner.Entries.{scope_in, code_fits}
use Rattle.entries.specs.Inner.Twins.{eligible}
use Rattle.entries.specs.Inner.Masks.{Seen, ready_by}
use Rattle.entries.proofs.TablesAreScopes.{scope_len, scope_fits, scope_clause, scope_linear, scope_usable, scope_past, scope_kept}
use Rattle.entries.proofs.MasksAreTwins.{ready_eligible, seen_rule, seen_item, seen_lent}
use Rattle.entries.proofs.TestLaws.{and_true}
use Rattle.agenda.specs.Inner.Agenda.{Agenda, task, Reads}
use Rattle.agenda.specs.Inner.Order.{Floor as FloorOf, ends, above, opens, Next, next_here, next_same, next_above, next_open}
use Rattle.agenda.specs.Inner.Sought.{Place, floored, past_use, spent, spending, Sought, None, Least, Trying}
use Rattle.agenda.proofs.AgendasRead.{reads_use}
use Rattle.agenda.proofs.ListsOrdered.{next_two}
use Rattle.agenda.proofs.SearchTells.{name_unnested, name_roomless, trying_given, trying_open, trying_unfit, trying_gone}
use Rattle.agenda.proofs.SearchTells.{trying_ineligible}
use Rattle.agenda.proofs.SearchTells.{trying_next, trying_found, trying_end}
use Rattle.branch.specs.declared.Branch.{Branch}
use Rattle.branch.specs.declared.Way.{Way}
use Rattle.branch.specs.declared.Floor.{Floor}
use Rattle.branch.specs.Inner.Values.{Answer, Solved, Stuck, Tired}
use Rattle.branch.specs.Inner.Values.{using_b, past_f, following_w, answer_in}
use Rattle.branch.proofs.CountsKept.{counted_using}
use Rattle.segment.specs.Inner.Tasks.{task_of, agenda_of}
use Rattle.segment.proofs.TasksAreAgendas.{agenda_next, nest_low, laid_less, laid_short}
use Rattle.std.specs.Prelude.{Option, Some, None as Nothing}
use Rattle.choice.specs.Inner.Choice.{at_hand_by, open_to, takable_by, Testing, SeeksAt, Seeks, given_at, from_at}
use Rattle.engine.specs.Inner.Engine.{place_at, Ready, top_node}
use Rattle.engine.specs.Inner.Engine.{top_nest}
use Rattle.engine.specs.Inner.Engine.{NameNext, NameOpen, CanUse, PartGood, PartReady, part_goal, found, Solves, Told, Searches, Solving, Entering, Using}
use Rattle.choice.specs.Inner.Choice.{FirstEntry, first_at, keeps_by, open_by, gives}
use Rattle.dead.specs.Inner.Barren.{BarrenIn}
use Rattle.dead.proofs.DeadStaysDead.{none_barren}
use Rattle.prune.specs.Inner.Prune.{Rooted, PruneAsks, Doom}
use Rattle.engine.proofs.PlacesMove.{open_f, ready_moved, next_from, from_low}
use Rattle.engine.proofs.PlacesMove.{run_cons, run_length, written, given_past, from_here, from_past, floor_gone, open_floor}
use Rattle.engine.proofs.PlacesMove.{given_step, floor_place, spending_items, spent_items, use_place}
use Rattle.engine.proofs.NumbersFall.{number, most, step_most}

-- Tests and sets

and_false : (a b : Bool) → (a && b) ≡ false → (a ≡ false) ⊎ (b ≡ false)
and_false true b h = inr h
and_false false b h = inl refl

spent_within : (es : Scope) (e : ℕ) (I : Items) → Within (spent es e I) I
unfolding spent
spent_within es e I = at (linear_at es e)
  where
    at : (c : Bool) → Within (cond c (I ∖ only e) I) I
    at true = ∖_within I (only e)
    at false = record { kept = λ i h. h }

-- what a use adds comes before what is used past it, and behind what was used before
used_order : (es : Scope) (e : ℕ) (U W : Items) → spending es e U ∪ W ≡ U ∪ spending es e W
unfolding spending ◌∪◌
used_order es e U W = at (linear_at es e)
  where
    law : (u o w : Bool) → (u || o || w) ≡ (u || (w || o))
    law true o w = refl
    law false true true = refl
    law false true false = refl
    law false false true = refl
    law false false false = refl

    at : (c : Bool) → cond c (U ∪ only e) U ∪ W ≡ U ∪ cond c (W ∪ only e) W
    at true = fun_ext (λ i. law (U i) (only e i) (W i))
    at false = refl

-- Floors and places

abbrev pub no_f : Floor
no_f = record { fixed = 0; from = 0 }

-- past the step e, written on the tape, the floor f is g
abbrev pub PastStep : Floor → Floor → Branch → List ℕ → ℕ → Type 0
PastStep f g b tape e =
    Next (e ∷ []) (given_at f b.at tape) (from_at f b.at) (given_at g (b.at + 1) (set tape b.at e)) (from_at g (b.at + 1))

-- past the given steps, and past a list that did not keep to them, there is no floor
pub past_gone : (f : Floor) (kept : Bool) (a : ℕ) (t : List ℕ) → f.fixed < a
    → (given_at (past_f f kept) a t ≡ []) × (from_at (past_f f kept) a ≡ 0)
unfolding past_f
past_gone f true a t h = floor_gone f a t h
past_gone f false a t h = floor_gone no_f a t (omega arith)

pub no_floor_lem : (a : ℕ) (t : List ℕ) → (given_at no_f a t ≡ []) × (from_at no_f a ≡ 0)
no_floor_lem a t = by_cases (dec_lt 0 a) (λ h. floor_gone no_f a t h)
    (λ h. (given_past no_f a t (omega arith), from_here no_f a (omega arith)))

-- the same steps done and the same floor
pub same_place : (P : ℕ) (f g : Floor) (b : Branch) (t t' : List ℕ) → take b.at t' ≡ take b.at t
    → given_at g b.at t' ≡ given_at f b.at t → from_at g b.at ≡ from_at f b.at → place_at P g b t' ≡ place_at P f b t
unfolding place_at
same_place P f g b t t' k e h = λ i. record {
  done = k i;
  given = e i;
  from = h i;
  strict = items P b.strict;
  lax = items P b.lax;
  room = b.limit - b.at;
}

-- past the steps of the branch both floors are the same
pub record AlikePast (f g : Floor) (b : Branch) (t : List ℕ) : Type 0 where
  pub alike : (kept : Bool) (z : ℕ) → b.at ≤ z
      → (given_at (past_f g kept) z t ≡ given_at (past_f f kept) z t) × (from_at (past_f g kept) z ≡ from_at (past_f f kept) z)

alike_self : (f : Floor) (b : Branch) (t : List ℕ) → AlikePast f f b t
alike_self f b t = record { alike = λ kept z h. (refl, refl) }

pub next_past : {l F F₁ F₂ : List ℕ} {f f₁ f₂ : ℕ} → (F₁ ≡ F₂) × (f₁ ≡ f₂) → Next l F f F₁ f₁ → Next l F f F₂ f₂
next_past e n = rw (← e.0, ← e.1) n

-- What is told at a place is told at the same place on another tape.
told_same : (bs : List ℕ) (es : Scope) (A : Agenda) (f g : Floor) (b : Branch) (t t₀ t' : List ℕ) (r : Answer)
    → place_at (rule_count bs) g b t ≡ place_at (rule_count bs) f b t₀ → (given_at g b.at t ≡ given_at f b.at t₀)
    × (from_at g b.at ≡ from_at f b.at) → AlikePast f g b t' → Told bs es A g b t t' r → Told bs es A f b t₀ t' r
unfolding Told
told_same bs es A f g b t t₀ t' (Solved w) p q s T = record {
  onward = T.onward;
  bounded = T.bounded;
  items_used = T.items_used;
  slack_left = T.slack_left;
  least = subst (λ z. Least (eligible bs) es A z (found b w t') T.items_used T.slack_left) p T.least;
  used = T.used;
  slack = T.slack;
  seen = T.seen;
  past = next_from q (next_past (s.alike w.kept w.at T.onward) T.past);
}
told_same bs es A f g b t t₀ t' Stuck p q s T = subst (λ z. None (eligible bs) es A z) p T
told_same bs es A f g b t t₀ t' Tired p q s T = T

-- Searches from tables and a tape that agree with others up to the branch

pub kept_scope : (bs : List ℕ) {nodes nodes' : List ℕ} {n : ℕ} → Kept n nodes nodes' → scope_in bs nodes' n ≡ scope_in bs nodes n
kept_scope bs {nodes} {nodes'} {n} k = scope_kept bs nodes' nodes n k.same

module _ {bs : List ℕ} {A : Agenda} {f g : Floor} {b : Branch} {t₀ t t' nodes₀ nodes nodes' heads₀ heads heads' : List ℕ} {r : Answer}
    (tk : Kept b.at t₀ t) (nk : Kept b.count nodes₀ nodes) (hk : Kept b.count heads₀ heads) where
  pub searches_from : (given_at g b.at t ≡ given_at f b.at t₀) × (from_at g b.at ≡ from_at f b.at) → AlikePast f g b t'
      → Searches bs A g b t t' nodes nodes' heads heads' r → Searches bs A f b t₀ t' nodes₀ nodes' heads₀ heads' r
  searches_from q s S = record {
    told = told_same bs (scope_in bs nodes₀ b.count) A f g b t t₀ t' r (same_place (rule_count bs) f g b t₀ t tk.same q.0 q.1) q s
        (subst (λ es. Told bs es A g b t t' r) (kept_scope bs nk) S.told);
    tape_kept = kept_again b.at tk S.tape_kept;
    node_kept = kept_again b.count nk S.node_kept;
    head_kept = kept_again b.count hk S.head_kept;
  }

-- what the code reads of the card and of the next task
pub card_front : {bs : List ℕ} → Sound bs → (i : ℕ) → i < 11 → i < length bs
card_front {bs} s i h = omega (arith, (sound_front bs s).whole)

pub name_of : {bs codes : List ℕ} {b : Branch} → NameNext bs codes b → (name node : ℕ) → name ≡ left_at bs node → node ≡ top_node codes b
    → name ≡ left_at bs (top_node codes b)
name_of {bs} N name node e h = e ∙ ap (left_at bs) h

pub name_open : {bs codes : List ℕ} {b : Branch} → NameNext bs codes b → (n : ℕ) → n ≡ top_nest codes b → (n ≡ 0 → ⊥) → b.at < b.limit
    → NameOpen bs codes b
name_open N n e d r = record { next = N; deep = omega (arith, d); room = r }

-- Ready with another floor, and on tables and a tape that agree up to the branch

pub ready_floor : {bs waits tape nodes heads : List ℕ} {f : Floor} {b : Branch} (g : Floor) → Ready bs waits tape nodes heads f b
    → g.fixed ≤ 255 → g.from ≤ 256 → Ready bs waits tape nodes heads g b
ready_floor {tape = tape} {nodes = nodes} {heads = heads} {b = b} g R =
    ready_moved g R (kept_self b.at tape) (kept_self b.count nodes) (kept_self b.count heads)

pub ready_kept : {bs waits tape tape' nodes nodes' heads heads' : List ℕ} {f : Floor} {b : Branch} → Ready bs waits tape nodes heads f b
    → Kept b.at tape tape' → Kept b.count nodes nodes' → Kept b.count heads heads' → Ready bs waits tape' nodes' heads' f b
ready_kept {f = f} R t n h = ready_moved f R t n h R.fixed R.from

-- At a name, every list sought begins with e or higher.
pub record Tries (bs codes tape nodes : List ℕ) (f : Floor) (b : Branch) (e : ℕ) : Type 0 where
  pub tried : Trying (eligible bs) (scope_in bs nodes b.count) (left_at bs (top_node codes b)) (top_nest codes b)
      (agenda_of bs codes (b.len - 1)) (place_at (rule_count bs) f b tape) e

module _ {bs waits tape nodes heads : List ℕ} {f : Floor} {b : Branch} (R : Ready bs waits tape nodes heads f b) where
  abbrev es : Scope
  es = scope_in bs nodes b.count

  abbrev place : Place
  place = place_at (rule_count bs) f b tape

  -- an answer that leaves tape and tables alone
  at_once : {A : Agenda} {r : Answer} → Told bs es A f b tape tape r → Searches bs A f b tape tape nodes nodes heads heads r
  at_once t = record {
    told = t;
    tape_kept = kept_self b.at tape;
    node_kept = kept_self b.count nodes;
    head_kept = kept_self b.count heads;
  }

  pub testing : Testing bs waits heads b
  testing = record {
    sound = R.sound;
    wait_room = R.waiting.room;
    head_room = R.entered.head_room;
    few = let p = (sound_front bs R.sound).rules in let k = R.few in omega arith;
    scoped = R.scoped;
    heads_low = λ e h. (R.entered.headed e h).small;
    menus = λ e h. (R.entered.headed e h).menu;
  }

  module _ {codes : List ℕ} (N : NameNext bs codes b) where
    abbrev a : ℕ
    a = left_at bs (top_node codes b)

    abbrev n : ℕ
    n = top_nest codes b

    abbrev rest : Agenda
    rest = agenda_of bs codes (b.len - 1)

    top_node_lem : top_node codes b < node_count bs
    top_node_lem = goal_lower bs (node_count bs) (top_node codes b) (N.laid.fits (b.len - 1) (let s = N.some in omega arith)).is_goal_part

    -- what reading the next task asks
    pub name_here : (m : ℕ) → m ≡ top_node codes b → 16 + 5 * m ≤ length bs
    name_here m e = rw e (node_here R.sound (top_node codes b) top_node_lem)

    pub top_inside : b.len - 1 < 104
    top_inside = let s = N.some in let l = laid_short N.laid in omega arith

    named : agenda_of bs codes b.len ≡ task (atomᴳ a) n ∷ rest
    unfolding task_of
    named =
        agenda_next bs codes b.len N.some ∙ ap (λ g. task g n ∷ rest) (reads_name bs (top_node codes b) N.kind).0

    -- No step may be taken

    stuck_at : None (eligible bs) es (task (atomᴳ a) n ∷ rest) place → Solving bs codes f b tape tape nodes nodes heads heads Stuck
    unfolding Told
    stuck_at h = at_once {r = Stuck} (subst (λ A. None (eligible bs) es A place) (sym named) h)

    pub unnested : top_nest codes b ≡ 0 → Solving bs codes f b tape tape nodes nodes heads heads Stuck
    unnested z = stuck_at (subst (λ k. None (eligible bs) es (task (atomᴳ a) k ∷ rest) place) (sym z) (name_unnested (eligible bs)))

    pub roomless : b.limit ≤ b.at → Solving bs codes f b tape tape nodes nodes heads heads Stuck
    unfolding place_at
    roomless h = stuck_at (name_roomless (eligible bs) (let z : b.limit - b.at ≡ 0 = omega arith in z))

    -- The test of an entry

    module _ (e : ℕ) where
      module _ (h : e < b.count) where
        fits_test : code_fits bs (get_or heads e 0) a ≡ usable es.fits a (clause_at es e)
        fits_test = (R.entered.headed e h).tells a (name_low R.sound (top_node codes b) top_node_lem N.kind)
            ∙ sym (scope_usable bs nodes b.count e h a)

        hand_test : at_hand_by (rule_count bs) e b ≡ (not (linear_at es e) || (place.strict ∪ place.lax) e)
        unfolding at_hand_by place_at
        hand_test =
            ap (λ c. not c || (items (rule_count bs) b.strict ∪ items (rule_count bs) b.lax) e)
            (sym (scope_linear bs nodes b.count e h))

        ready_test : ready_by (rule_count bs) (line_count bs) waits b.seen e ≡ eligible bs place.done e
        unfolding place_at
        ready_test = ready_eligible R.waiting R.seen (rule_count bs) (line_count bs) e refl refl

        -- an entry that can be used
        pub taken : takable_by bs waits heads b a e ≡ true → (usable es.fits a (clause_at es e) ≡ true)
            × ((not (linear_at es e) || (place.strict ∪ place.lax) e) ≡ true) × (eligible bs place.done e ≡ true)
        unfolding takable_by open_to
        taken t =
            let x = (and_true (ltb e b.count) _ t).1 in
            let y = and_true (code_fits bs (get_or heads e 0) a) _ x in
            let z = and_true (at_hand_by (rule_count bs) e b) _ y.1 in
            (sym fits_test ∙ y.0, sym hand_test ∙ z.0, sym ready_test ∙ z.1)

      -- one that cannot is passed over
      pub untaken : takable_by bs waits heads b a e ≡ false → Tries bs codes tape nodes f b e → Tries bs codes tape nodes f b (suc e)
      unfolding takable_by open_to usable
      untaken u t = by_cases (dec_lt e b.count)
          (λ h. ⊎_elim (λ x. absurd (true≢false (sym (lt-ltb e b.count h) ∙ x)))
          (λ x. ⊎_elim (λ y. record { tried = trying_unfit (eligible bs) t.tried (sym (fits_test h) ∙ y) })
          (λ y. ⊎_elim (λ z. record { tried = trying_gone (eligible bs) t.tried (sym (hand_test h) ∙ z) })
          (λ z. record { tried = trying_ineligible (eligible bs) t.tried (sym (ready_test h) ∙ z) })
          (and_false (at_hand_by (rule_count bs) e b) _ y)) (and_false (code_fits bs (get_or heads e 0) a) _ x)) (and_false (ltb e b.count) _ u))
          (λ h. record {
            tried = trying_unfit (eligible bs) t.tried
                (ap (usable es.fits a) (scope_past bs nodes b.count e (omega arith)));
          })

    -- entries passed over up to m
    passed : {from : ℕ} → Tries bs codes tape nodes f b from → (m : ℕ) → from ≤ m
        → ((x : ℕ) → from ≤ x → x < m → takable_by bs waits heads b a x ≡ false) → Tries bs codes tape nodes f b m
    passed {from} t zero l h = subst (λ x. Tries bs codes tape nodes f b x) (let e : from ≡ 0 = omega arith in e) t
    passed {from} t (suc m) l h = by_cases (dec_lt m from)
        (λ k. subst (λ x. Tries bs codes tape nodes f b x) (let e : from ≡ suc m = omega arith in e) t)
        (λ k. untaken m (h m (omega arith) (omega arith)) (passed {from = from} t m (omega arith) (λ x i j. h x i (omega arith))))

    -- The least usable entry

    module _ {from : ℕ} (t : Tries bs codes tape nodes f b from) where
      pub sought_at : {e : ℕ} → SeeksAt bs waits heads b a from e → Tries bs codes tape nodes f b e
      sought_at {e} s = passed t e s.onward s.passed

      -- no entry is left
      none_left : ((x : ℕ) → from ≤ x → x < b.count → takable_by bs waits heads b a x ≡ false)
          → None (eligible bs) es (task (atomᴳ a) n ∷ rest) place
      none_left h = by_cases (dec_lt b.count from)
          (λ k. trying_end (eligible bs) t.tried (let l = scope_len bs nodes b.count in omega arith))
          (λ k.
          let last = passed t b.count (omega arith) h in
          trying_end (eligible bs) last.tried (let l = scope_len bs nodes b.count in omega arith))

      pub sought_none : ((x : ℕ) → from ≤ x → x < b.count → takable_by bs waits heads b a x ≡ false)
          → Solving bs codes f b tape tape nodes nodes heads heads Stuck
      sought_none h = stuck_at (none_left h)

    -- The use of an entry

    module _ {e : ℕ} (U : CanUse bs waits heads codes b e) where
      pub entry_byte : e < 256
      entry_byte = let p = (sound_front bs R.sound).rules in let k = R.few in let i = U.inside in omega arith

      pub entry_item : e - rule_count bs < 192
      entry_item = let k = R.few in let i = U.inside in omega arith

      pub at_inside : b.at < 255
      at_inside = let r = U.step.room in let l = R.limit in omega arith

      at_tape : b.at < length tape
      at_tape = let t = R.tape_room in let i = at_inside in omega arith

      pub entry_clause : clause_part bs (node_count bs) (get_or nodes e 0) ≡ true
      entry_clause = R.entered.clauses e U.inside

      clause_height : height_at bs (get_or nodes e 0) ≤ 8
      clause_height = height_low R.sound (get_or nodes e 0) (clause_lower bs (node_count bs) (get_or nodes e 0) entry_clause)

      linear_test : linear_at es e ≡ leb (rule_count bs) e
      linear_test = scope_linear bs nodes b.count e U.inside

      entry_usable : usable (scope_of bs).fits a (clause_of bs (get_or nodes e 0)) ≡ true
      entry_usable = sym (scope_usable bs nodes b.count e U.inside a) ∙ (taken e U.inside U.takable).0

      -- what is left of the clause goes before the rest, with room for it
      part_good : PartGood bs true (get_or nodes e 0) (n - 1) (using_b b (rule_count bs) (line_count bs) e (b.len - 1))
      unfolding PartGood using_b
      part_good =
          let fit = N.laid.fits (b.len - 1) (let s = N.some in omega arith) in
          let h = height_pos bs (top_node codes b) in
          let l = clause_height in
          let d = U.step.deep in
          (entry_clause, omega (arith, fit.stacked, h, l, d), omega (arith, fit.deep, h, l, d))

      -- the branch past the use
      module _ (len : ℕ) where
        abbrev next : Branch
        next = using_b b (rule_count bs) (line_count bs) e len

        pub one_more : (g : Floor) → place_at (rule_count bs) g next (set tape b.at e)
            ≡ past_use es place e (given_at g (b.at + 1) (set tape b.at e)) (from_at g (b.at + 1))
        one_more g = use_place es (rule_count bs) e linear_test (line_count bs) len f g b tape at_tape

        done_more : take (b.at + 1) (set tape b.at e) ≡ take b.at tape ++ (e ∷ [])
        unfolding place_at using_b
        done_more = ap (λ q. q.done) (one_more f)

        seen_more : Seen bs next.seen (take b.at tape ++ (e ∷ []))
        unfolding using_b
        seen_more = at (ltb e (rule_count bs)) refl (ltb (e - rule_count bs) (line_count bs)) refl
          where
            at : (c : Bool) → ltb e (rule_count bs) ≡ c → (d : Bool) → ltb (e - rule_count bs) (line_count bs) ≡ d
                → Seen bs (cond c b.seen (cond d (add_l b.seen (e - rule_count bs)) b.seen))
                (take b.at tape ++ (e ∷ []))
            at true p d q = seen_rule R.seen e (ltb-true e (rule_count bs) p)
            at false p true q =
                let k = ltb-true (e - rule_count bs) (line_count bs) q in
                seen_item R.seen e (ltb-false e (rule_count bs) p) (omega (arith, R.seen.few))
            at false p false q =
                let h = ltb-false e (rule_count bs) p in
                let k = ltb-false (e - rule_count bs) (line_count bs) q in
                seen_lent R.seen e (omega arith)

        pub ready_next : Ready bs waits (set tape b.at e) nodes heads f next
        unfolding using_b
        ready_next = record {
          sound = R.sound;
          waiting = R.waiting;
          tape_room = length-set tape b.at e ∙ R.tape_room;
          entered = R.entered;
          scoped = R.scoped;
          few = R.few;
          at = let r = U.step.room in omega arith;
          limit = R.limit;
          fixed = R.fixed;
          from = R.from;
          bounded = record {
            bounded = λ i h. ⊎_elim
                (λ k. R.bounded.bounded i (left i ((spent_within es e (items (rule_count bs) b.strict)).kept i
                (ap (λ s. s i) (sym (spent_items es (rule_count bs) e linear_test b.strict)) ∙ k))))
                (λ k. R.bounded.bounded i (right i ((spent_within es e (items (rule_count bs) b.lax)).kept i
                (ap (λ s. s i) (sym (spent_items es (rule_count bs) e linear_test b.lax)) ∙ k))))
                (∪_cases (items (rule_count bs) next.strict) (items (rule_count bs) next.lax) i h);
          };
          seen = subst (λ l. Seen bs next.seen l) (sym done_more) seen_more;
          counted = counted_using b (rule_count bs) (line_count bs) e len R.counted;
        }
          where
            left : (i : ℕ) → items (rule_count bs) b.strict i ≡ true
                → (items (rule_count bs) b.strict ∪ items (rule_count bs) b.lax) i ≡ true
            left i h = (join_left (∪_joins (items (rule_count bs) b.strict) (items (rule_count bs) b.lax))).kept i h

            right : (i : ℕ) → items (rule_count bs) b.lax i ≡ true
                → (items (rule_count bs) b.strict ∪ items (rule_count bs) b.lax) i ≡ true
            right i h = (join_right (∪_joins (items (rule_count bs) b.strict) (items (rule_count bs) b.lax))).kept i h

      -- what is left of the clause is entered with the branch past the use, by the counts that the code reads of the card
      module _ (c m name len p q : ℕ) (ec : c ≡ get_or nodes e 0) (em : m ≡ n - 1) (ea : name ≡ a) (el : len ≡ b.len - 1) (ep : p ≡ rule_count bs)
          (eq : q ≡ line_count bs) (b₂ : Branch) (eb : b₂ ≡ using_b b p q e len) where
        is_next : b₂ ≡ next (b.len - 1)
        is_next = eb ∙ ap₂ (λ x y. using_b b x y e len) ep eq ∙ ap (λ k. using_b b (rule_count bs) (line_count bs) e k) el

        pub use_call : (t : ℕ) → 8 * number bs codes b + 1 ≡ t
            → (8 * most b₂ + 3 < t) × (Ready bs waits (set tape b.at e) nodes heads f b₂ × PartReady bs codes true c name m b₂)
        unfolding using_b
        use_call t et = rw is_next (rw (ec, em, ea) (
          let k = step_most bs codes b (next (b.len - 1)) R.sound N.laid N.some refl refl U.step.room in omega arith,
          (
            ready_next (b.len - 1),
            record {
              laid = laid_less N.laid;
              nested = let k = nest_low (get_or codes (b.len - 1) 0) in omega arith;
              good = part_good;
              fitting = λ h. entry_usable;
            },
          ),
        ))

        pub use_told : {tape' nodes' heads' : List ℕ} {r : Answer}
            → Entering bs codes true c name m f b₂ (set tape b.at e) tape' nodes nodes' heads heads' r
            → Using bs codes e f b tape tape' nodes nodes' heads heads' r
        unfolding using_b
        use_told {tape'} {nodes'} {heads'} {r} S = record {
          searched = subst (λ d. Searches bs (task (part_goal bs true a (get_or nodes e 0)) (n - 1) ∷ agenda_of bs codes d.len) f d
              (set tape b.at e) tape' nodes nodes' heads heads' r) is_next (rw (ec, em, ea) at S);
        }

    -- a name with nesting left
    deeper : 1 ≤ n → suc (n - 1) ≡ n
    deeper d = omega arith

    deep_name : 1 ≤ n → {q : ℕ} → Tries bs codes tape nodes f b q → Trying (eligible bs) es a (suc (n - 1)) rest place q
    deep_name d {q} t = subst (λ k. Trying (eligible bs) es a k rest place q) (sym (deeper d)) t.tried

    -- What the use of an entry says of the name, with the floor past the entry that the use was called with

    module _ {e : ℕ} (U : CanUse bs waits heads codes b e) (g : Floor) {tape' nodes' heads' : List ℕ} where
      module _ {r : Answer} (X : Using bs codes e g b tape tape' nodes nodes' heads heads' r) where
        pub use_tape : Kept b.at tape tape'
        unfolding using_b
        use_tape = kept_trans (let h : b.at ≤ b.at + 1 = omega arith in h)
            (kept_set b.at b.at tape e (let h : b.at ≤ b.at = omega arith in h)) X.searched.tape_kept

        pub use_nodes : Kept b.count nodes nodes'
        unfolding using_b
        use_nodes = X.searched.node_kept

        pub use_heads : Kept b.count heads heads'
        unfolding using_b
        use_heads = X.searched.head_kept

        tells : Told bs es (task (residual_at es a e) (n - 1) ∷ rest) g (next U (b.len - 1)) (set tape b.at e) tape' r
        unfolding using_b part_goal residual_at
        tells = subst (λ G. Told bs es (task G (n - 1) ∷ rest) g (next U (b.len - 1)) (set tape b.at e) tape' r)
            (sym (ap₂ (λ (t : Fits) (D : Clause). residual t a D) (scope_fits bs nodes b.count) (scope_clause bs nodes b.count e U.inside)))
            X.searched.told

      module _ (on : PastStep f g b tape e) (t : Tries bs codes tape nodes f b e) where
        -- past the use nothing is found: the next entry
        pub use_stuck : Using bs codes e g b tape tape' nodes nodes' heads heads' Stuck → Tries bs codes tape nodes f b (suc e)
        unfolding Told place_at
        use_stuck X = record {
          tried = subst (λ k. Trying (eligible bs) es a k rest place (suc e)) (deeper U.step.deep)
              (trying_next (eligible bs) (deep_name U.step.deep t) on
              (subst (λ z. None (eligible bs) es (task (residual_at es a e) (n - 1) ∷ rest) z) (one_more U (b.len - 1) g) (tells X)));
        }

        -- a way past the use: the way for the name
        module _ {w : Way} (X : Using bs codes e g b tape tape' nodes nodes' heads heads' (Solved w)) where
          way : Solves bs es (task (residual_at es a e) (n - 1) ∷ rest) g (next U (b.len - 1)) (set tape b.at e) tape' w
          unfolding Told
          way = tells X

          behind : b.at + 1 ≤ w.at
          unfolding using_b
          behind = way.onward

          within_limit : w.at ≤ b.limit
          unfolding using_b
          within_limit = way.bounded

          tape_size : length tape' ≡ 255
          tape_size = (use_tape X).size ∙ R.tape_room

          run : slice b.at w.at tape' ≡ e ∷ slice (b.at + 1) w.at tape'
          unfolding using_b
          run =
              run_cons b.at w.at tape' (let h = behind in omega arith)
              (let h = within_limit in let l = R.limit in let z = tape_size in omega arith)
              ∙ ap (λ x. x ∷ slice (b.at + 1) w.at tape') (written b.at e tape tape' (at_tape U) X.searched.tape_kept)

          used_in_all : items (rule_count bs) w.used ≡ items (rule_count bs) b.used ∪ spending es e way.items_used
          unfolding using_b
          used_in_all =
              way.used
              ∙ ap (λ I. I ∪ way.items_used) (spending_items es (rule_count bs) e (linear_test U) b.used (entry_item U))
              ∙ used_order es e (items (rule_count bs) b.used) way.items_used

          least_way : Least (eligible bs) es (task (atomᴳ a) (suc (n - 1)) ∷ rest) place (e ∷ slice (b.at + 1) w.at tape')
              (spending es e way.items_used) way.slack_left
          unfolding place_at using_b
          least_way =
              let s = taken e U.inside U.takable in
              let left : 1 ≤ b.limit - b.at = let r = U.step.room in omega arith in
              trying_found (eligible bs) (deep_name U.step.deep t) s.0 s.1 s.2 left
              on
              (subst (λ z. Least (eligible bs) es (task (residual_at es a e) (n - 1) ∷ rest) z (slice (b.at + 1) w.at tape')
              way.items_used way.slack_left) (one_more U (b.len - 1) g) way.least)

          pub use_found : AlikePast f g (next U (b.len - 1)) tape' → Solving bs codes f b tape tape' nodes nodes' heads heads' (Solved w)
          unfolding Told using_b
          use_found alike = record {
            told = record {
              onward = let h = behind in omega arith;
              bounded = within_limit;
              items_used = spending es e way.items_used;
              slack_left = way.slack_left;
              least =
                  subst (λ A. Least (eligible bs) es A place (slice b.at w.at tape') (spending es e way.items_used)
                  way.slack_left)
                  (ap (λ k. task (atomᴳ a) k ∷ rest) (deeper U.step.deep) ∙ sym named)
                  (subst (λ l. Least (eligible bs) es (task (atomᴳ a) (suc (n - 1)) ∷ rest) place l (spending es e way.items_used)
                  way.slack_left) (sym run) least_way);
              used = used_in_all;
              slack = way.slack;
              seen = way.seen;
              past = subst (λ l. Next l (given_at f b.at tape) (from_at f b.at) (given_at (past_f f w.kept) w.at tape')
                  (from_at (past_f f w.kept) w.at)) (sym run)
                  (next_two on (next_past (alike.alike w.kept w.at behind) way.past));
            };
            tape_kept = use_tape X;
            node_kept = use_nodes X;
            head_kept = use_heads X;
          }

-- past a step no given step is left where none was
free_alike : (f : Floor) (b : Branch) (t : List ℕ) → f.fixed < b.at → AlikePast f no_f b t
free_alike f b t l = record {
  alike = λ kept z h.
      let x = past_gone no_f kept z t (omega arith) in
      let y = past_gone f kept z t (omega arith) in (x.0 ∙ sym y.0, x.1 ∙ sym y.1);
}

-- The entries past the given steps

-- past the steps of the branch the floor of an entry to begin with is the floor that it was taken from
open_alike : (f : Floor) (b : Branch) (first : ℕ) (t : List ℕ) → first ≡ from_at f b.at → f.fixed ≤ b.at
    → AlikePast f (open_f b first) b t
unfolding past_f
open_alike f b first t e h = record { alike = at }
  where
    at : (kept : Bool) (z : ℕ) → b.at ≤ z
        → (given_at (past_f (open_f b first) kept) z t ≡ given_at (past_f f kept) z t)
        × (from_at (past_f (open_f b first) kept) z ≡ from_at (past_f f kept) z)
    at true z l = (
      given_past (open_f b first) z t l ∙ sym (given_past f z t (omega arith)),
      by_cases (dec_lt b.at z)
          (λ k. from_past (open_f b first) z k ∙ sym (from_past f z (omega arith)))
          (λ k. let q : b.at ≡ z = omega arith in
          from_here (open_f b first) z (omega arith) ∙ e ∙ ap (from_at f) q),
    )
    at false z l = (refl, refl)

module _ {bs waits tape nodes heads : List ℕ} {f : Floor} {b : Branch} (R : Ready bs waits tape nodes heads f b) where
  module _ (first : ℕ) (e : first ≡ from_at f b.at) where
    ready_open : Ready bs waits tape nodes heads (open_f b first) b
    ready_open = ready_floor (open_f b first) R (let a = R.at in let l = R.limit in omega arith) (rw e (from_low f b.at R.from))

    pub open_told : f.fixed ≤ b.at → {A : Agenda} {tape' nodes' heads' : List ℕ} {r : Answer}
        → Searches bs A (open_f b first) b tape tape' nodes nodes' heads heads' r → Searches bs A f b tape tape' nodes nodes' heads heads' r
    open_told h {tape' = tape'} S =
        searches_from (kept_self b.at tape) (kept_self b.count nodes) (kept_self b.count heads)
        ((open_floor b first tape).0 ∙ sym (given_past f b.at tape h), (open_floor b first tape).1 ∙ e) (open_alike f b first tape' e h) S

-- One turn of the loop through the entries: tape and tables agree with those at the call, and every list sought begins with `from` or
-- higher.
pub record Turn (bs waits codes : List ℕ) (first : ℕ) (b : Branch) (tape₀ tape nodes₀ nodes heads₀ heads : List ℕ) (from : ℕ) : Type 0 where
  pub ready : Ready bs waits tape nodes heads (open_f b first) b
  pub tape_kept : Kept b.at tape₀ tape
  pub node_kept : Kept b.count nodes₀ nodes
  pub head_kept : Kept b.count heads₀ heads
  pub onward : first ≤ from
  pub tries : Tries bs codes tape nodes (open_f b first) b from

pub turn_start : {bs waits codes tape nodes heads : List ℕ} {first : ℕ} {b : Branch} → Ready bs waits tape nodes heads (open_f b first) b
    → (from : ℕ) → from ≡ first → Turn bs waits codes first b tape tape nodes nodes heads heads from
unfolding place_at
turn_start {bs} {codes} {tape} {nodes} {heads} {first} {b} R from e = record {
  ready = R;
  tape_kept = kept_self b.at tape;
  node_kept = kept_self b.count nodes;
  head_kept = kept_self b.count heads;
  onward = omega arith;
  tries = record {
    tried = subst (λ x. Trying (eligible bs) (scope_in bs nodes b.count) (left_at bs (top_node codes b)) (top_nest codes b)
        (agenda_of bs codes (b.len - 1)) (place_at (rule_count bs) (open_f b first) b tape) x) ((open_floor b first tape).1 ∙ sym e)
        (trying_open (eligible bs) (open_floor b first tape).0);
  };
}

module _ {bs waits codes : List ℕ} {first : ℕ} {b : Branch} {tape₀ tape nodes₀ nodes heads₀ heads : List ℕ} {from : ℕ}
    (T : Turn bs waits codes first b tape₀ tape nodes₀ nodes heads₀ heads from) (N : NameOpen bs codes b) where
  -- what is told in this turn, told from the call
  turn_told : {tape' nodes' heads' : List ℕ} {r : Answer} → Solving bs codes (open_f b first) b tape tape' nodes nodes' heads heads' r
      → Solving bs codes (open_f b first) b tape₀ tape' nodes₀ nodes' heads₀ heads' r
  turn_told {tape'} S =
      searches_from T.tape_kept T.node_kept T.head_kept
      ((open_floor b first tape).0 ∙ sym (open_floor b first tape₀).0, refl) (alike_self (open_f b first) b tape') S

  module _ (name : ℕ) (en : name ≡ left_at bs (top_node codes b)) (x : Option ℕ) (S : Seeks bs waits heads b name from x) where
    -- no entry is left
    pub turn_ends : x ≡ Nothing → Solving bs codes (open_f b first) b tape₀ tape nodes₀ nodes heads₀ heads Stuck
    unfolding Seeks
    turn_ends q = turn_told (sought_none T.ready N.next T.tries (
        let s : (y : ℕ) → from ≤ y → y < b.count → takable_by bs waits heads b name y ≡ false = rw q at S in rw en at s))

    module _ (e : ℕ) (q : x ≡ Some e) where
      at_entry : SeeksAt bs waits heads b (left_at bs (top_node codes b)) from e
      unfolding Seeks
      at_entry = let s : SeeksAt bs waits heads b name from e = rw q at S in rw en at s

      pub turn_use : CanUse bs waits heads codes b e
      turn_use = record { step = N; inside = at_entry.inside; takable = at_entry.takable }

      pub turn_onward : from ≤ e
      turn_onward = at_entry.onward

      on : PastStep (open_f b first) no_f b tape e
      on =
          let z = no_floor_lem (b.at + 1) (set tape b.at e) in
          let o = open_floor b first tape in
          let h : first ≤ e = let i = at_entry.onward in let j = T.onward in omega arith in
          rw (z.0, z.1, o.0, o.1) (next_open h)

      tries_here : Tries bs codes tape nodes (open_f b first) b e
      tries_here = sought_at T.ready N.next T.tries at_entry

      module _ (g : Floor) (eg : g ≡ no_f) {tape' nodes' heads' : List ℕ} {r : Answer}
          (X : Using bs codes e g b tape tape' nodes nodes' heads heads' r) where
        used_free : Using bs codes e no_f b tape tape' nodes nodes' heads heads' r
        used_free = rw eg at X

        pub turn_next : r ≡ Stuck → (m : ℕ) → m ≡ e + 1 → Turn bs waits codes first b tape₀ tape' nodes₀ nodes' heads₀ heads' m
        turn_next eq m em =
            let Y : Using bs codes e no_f b tape tape' nodes nodes' heads heads' Stuck = rw eq at used_free in
            let tk = use_tape T.ready N.next turn_use no_f Y in
            let nk = use_nodes T.ready N.next turn_use no_f Y in
            let hk = use_heads T.ready N.next turn_use no_f Y in
            record {
              ready = ready_kept T.ready tk nk hk;
              tape_kept = kept_again b.at T.tape_kept tk;
              node_kept = kept_again b.count T.node_kept nk;
              head_kept = kept_again b.count T.head_kept hk;
              onward = let i = at_entry.onward in let j = T.onward in omega arith;
              tries = tries_on tk nk (let z : suc e ≡ m = omega arith in z)
                  (use_stuck T.ready N.next turn_use no_f on tries_here Y);
            }
          where
            tries_on : {k : ℕ} → Kept b.at tape tape' → Kept b.count nodes nodes' → k ≡ m
                → Tries bs codes tape nodes (open_f b first) b k → Tries bs codes tape' nodes' (open_f b first) b m
            tries_on {k} tk nk q s = record {
              tried = subst (λ es. Trying (eligible bs) es (left_at bs (top_node codes b)) (top_nest codes b) (agenda_of bs codes (b.len - 1))
                  (place_at (rule_count bs) (open_f b first) b tape') m) (sym (kept_scope bs nk))
                  (subst (λ z. Trying (eligible bs) (scope_in bs nodes b.count) (left_at bs (top_node codes b)) (top_nest codes b)
                  (agenda_of bs codes (b.len - 1)) z m)
                  (same_place (rule_count bs) (open_f b first) (open_f b first) b tape' tape (sym tk.same)
                  ((open_floor b first tape).0 ∙ sym (open_floor b first tape').0) refl)
                  (subst (λ z. Trying (eligible bs) (scope_in bs nodes b.count) (left_at bs (top_node codes b)) (top_nest codes b)
                  (agenda_of bs codes (b.len - 1)) (place_at (rule_count bs) (open_f b first) b tape) z) q s.tried));
            }

        pub turn_found : (w : Way) → r ≡ Solved w → Solving bs codes (open_f b first) b tape₀ tape' nodes₀ nodes' heads₀ heads' r
        unfolding using_b
        turn_found w eq = rw eq (
            let Y : Using bs codes e no_f b tape tape' nodes nodes' heads heads' (Solved w) = rw eq at used_free in
            turn_told (use_found T.ready N.next turn_use no_f on tries_here Y
            (free_alike (open_f b first) (using_b b (rule_count bs) (line_count bs) e (b.len - 1)) tape' (omega arith))))

-- The entries above a given step: a list found does not keep to the given steps

unfoldable Departs : Answer → Type 0
Departs (Solved w) = w.kept ≡ false
Departs Stuck = Unit {0}
Departs Tired = Unit {0}

record Above (bs codes : List ℕ) (first : ℕ) (b : Branch) (tape tape' nodes nodes' heads heads' : List ℕ) (r : Answer) : Type 0 where
  searched : Solving bs codes (open_f b first) b tape tape' nodes nodes' heads heads' r
  departs : Departs r

-- the use of a name takes a step
module _ {bs waits tape nodes heads : List ℕ} {f : Floor} {b : Branch} (R : Ready bs waits tape nodes heads f b) {codes : List ℕ}
    (N : NameOpen bs codes b) where
  steps_taken : {tape' nodes' heads' : List ℕ} {w : Way} → Solving bs codes f b tape tape' nodes nodes' heads heads' (Solved w)
      → b.at < w.at
  unfolding Told
  steps_taken {tape'} {w = w} S =
      let l = S.told.least.sought.reads in
      let k = subst (λ A. Reads (scope_in bs nodes b.count) A (slice b.at w.at tape') S.told.items_used S.told.slack_left)
      (named R N.next ∙ ap (λ m. task (atomᴳ (left_at bs (top_node codes b))) m ∷ agenda_of bs codes (b.len - 1))
      (sym (deeper R N.next N.deep))) l in
      let u = (reads_use (scope_in bs nodes b.count) (left_at bs (top_node codes b)) (top_nest codes b - 1) (agenda_of bs codes (b.len - 1))
      (slice b.at w.at tape') S.told.items_used S.told.slack_left).0 k in
      let z = ap length u.list in
      let y = run_length b.at w.at tape' (let h = S.told.bounded in let i = R.limit in
      let j = S.tape_kept.size ∙ R.tape_room in omega arith) in
      omega arith

module _ {bs waits codes : List ℕ} {first : ℕ} {b : Branch} {tape nodes heads : List ℕ}
    (R : Ready bs waits tape nodes heads (open_f b first) b) (N : NameOpen bs codes b)
    {tape' nodes' heads' : List ℕ} {r : Answer} (S : Solving bs codes (open_f b first) b tape tape' nodes nodes' heads heads' r) where
  above_found : (w : Way) → r ≡ Solved w → (u : Way) → u ≡ following_w w false
      → Above bs codes first b tape tape' nodes nodes' heads heads' (Solved u)
  unfolding Departs Told
  above_found w e u eu = rw eu (
      let S₁ : Solving bs codes (open_f b first) b tape tape' nodes nodes' heads heads' (Solved w) = rw e at S in
      let o = steps_taken R N S₁ in
      let T = S₁.told in
      let x = past_gone (open_f b first) w.kept w.at tape' o in
      let y = past_gone (open_f b first) (w.kept && false) w.at tape' o in
      record {
        searched = record {
          told = record {
            onward = T.onward;
            bounded = T.bounded;
            items_used = T.items_used;
            slack_left = T.slack_left;
            least = T.least;
            used = T.used;
            slack = T.slack;
            seen = T.seen;
            past = next_past (x.0 ∙ sym y.0, x.1 ∙ sym y.1) T.past;
          };
          tape_kept = S₁.tape_kept;
          node_kept = S₁.node_kept;
          head_kept = S₁.head_kept;
        };
        departs = never w.kept;
      }
      )
    where
      never : (k : Bool) → (k && false) ≡ false
      never true = refl
      never false = refl

-- A given step

-- past a list that did not keep to the given steps there is no floor
departed : (f : Floor) (kept : Bool) (a : ℕ) (t : List ℕ) → kept ≡ false
    → (given_at (past_f f kept) a t ≡ []) × (from_at (past_f f kept) a ≡ 0)
unfolding past_f
departed f true a t e = absurd (true≢false e)
departed f false a t e = no_floor_lem a t

-- past the step and above it
next_higher : {l F : List ℕ} {e f f₁ f₂ : ℕ} → f₁ ≡ suc e → f₂ ≡ 0 → Next l [] f₁ [] f₂ → Next l (e ∷ F) f [] 0
next_higher p q next_here = absurd (omega arith)
next_higher {e} {f₁} p q (next_open {y} h) = let k : e < y = omega arith in next_above k

module _ {bs waits tape nodes heads : List ℕ} {f : Floor} {b : Branch} (R : Ready bs waits tape nodes heads f b) {codes : List ℕ}
    (N : NameOpen bs codes b) (h : b.at < f.fixed) (e : ℕ) (ee : e ≡ byte_at tape b.at) where
  ahead : given_at f b.at tape ≡ e ∷ given_at f (b.at + 1) tape
  ahead = given_step f b.at tape h (let i = R.fixed in let j = R.tape_room in omega arith)
      ∙ ap (λ x. x ∷ given_at f (b.at + 1) tape) (sym ee)

  same_tape : set tape b.at e ≡ tape
  same_tape = ap (λ x. set tape b.at x) ee ∙ set-get_or tape b.at 0

  given_on : PastStep f f b tape e
  given_on =
      let here : b.at ≤ f.fixed = omega arith in
      let there : b.at + 1 ≤ f.fixed = omega arith in
      rw (ahead, same_tape, from_here f b.at here, from_here f (b.at + 1) there) (next_same next_here)

  given_tries : Tries bs codes tape nodes f b e
  unfolding place_at
  given_tries = record { tried = trying_given (eligible bs) ahead }

  module _ (name : ℕ) (en : name ≡ left_at bs (top_node codes b)) where
    -- the step cannot be taken, or it can
    pub given_unfit : takable_by bs waits heads b name e ≡ false → Tries bs codes tape nodes f b (suc e)
    given_unfit u = untaken R N.next e (rw en at u) given_tries

    pub given_use : takable_by bs waits heads b name e ≡ true → CanUse bs waits heads codes b e
    unfolding takable_by
    given_use u = record { step = N; inside = ltb-true e b.count (and_true (ltb e b.count) _ u).0; takable = rw en at u }

  module _ (t : Tries bs codes tape nodes f b (suc e)) (first : ℕ) (ef : first ≡ e + 1) where
    abbrev es₀ : Scope
    es₀ = scope_in bs nodes b.count

    abbrev A₀ : Agenda
    A₀ = agenda_of bs codes b.len

    -- what is sought is not below the floor above the step
    higher : {l : List ℕ} {U : Items} {v : Bool} → Sought (eligible bs) es₀ A₀ (place_at (rule_count bs) f b tape) l U v
        → Sought (eligible bs) es₀ A₀ (floored (place_at (rule_count bs) f b tape) [] first) l U v
    higher {l} {U} {v} s = record { reads = s.reads; window = s.window; short = s.short; chosen = s.chosen; floor = at l s }
      where
        at : (k : List ℕ) → Sought (eligible bs) es₀ A₀ (place_at (rule_count bs) f b tape) k U v → FloorOf k [] first
        at [] s = ends
        at (x ∷ k) s =
            let q : suc e ≤ x = t.tried.trying x k U v
            (subst (λ A. Sought (eligible bs) es₀ A (place_at (rule_count bs) f b tape) (x ∷ k) U v) (named R N.next) s) in
            opens (let z : first ≤ x = omega arith in z)

    -- and what is not below that is not below the step
    lower : (l : List ℕ) {F : List ℕ} {k : ℕ} → FloorOf l [] first → FloorOf l (e ∷ F) k
    lower [] q = ends
    lower (x ∷ l) (opens q) = above (let z : e < x = omega arith in z)

    module _ {tape₁ : List ℕ} (tk : Kept b.at tape tape₁) where
      place_above : place_at (rule_count bs) (open_f b first) b tape₁ ≡ floored (place_at (rule_count bs) f b tape) [] first
      place_above =
          floor_place (rule_count bs) f (open_f b first) b tape tape₁ tk.same
          ∙ ap₂ (λ F k. floored (place_at (rule_count bs) f b tape) F k) (open_floor b first tape₁).0 (open_floor b first tape₁).1

      above_tells : (tape₂ : List ℕ) (r : Answer) → Told bs es₀ A₀ (open_f b first) b tape₁ tape₂ r → Departs r
          → Told bs es₀ A₀ f b tape tape₂ r
      unfolding Told Departs place_at
      above_tells tape₂ (Solved w) T d =
          let L = subst (λ z. Least (eligible bs) es₀ A₀ z (found b w tape₂) T.items_used T.slack_left) place_above T.least in
          record {
            onward = T.onward;
            bounded = T.bounded;
            items_used = T.items_used;
            slack_left = T.slack_left;
            least = record {
              sought = record {
                reads = L.sought.reads;
                window = L.sought.window;
                short = L.sought.short;
                chosen = L.sought.chosen;
                floor = subst (λ F. FloorOf (found b w tape₂) F (from_at f b.at)) (sym ahead)
                    (lower (found b w tape₂) L.sought.floor);
              };
              least = λ m W w s. L.least m W w (higher s);
            };
            used = T.used;
            slack = T.slack;
            seen = T.seen;
            past =
                let o = departed (open_f b first) w.kept w.at tape₂ d in
                let p = departed f w.kept w.at tape₂ d in
                next_from (sym ahead, refl) (next_past (sym p.0, sym p.1)
                (next_higher (let z : first ≡ suc e = omega arith in z) refl
                (next_past o (next_from (open_floor b first tape₁) T.past))));
          }
      above_tells tape₂ Stuck T d =
          let n = subst (λ z. None (eligible bs) es₀ A₀ z) place_above T in record { none = λ l U v s. n.none l U v (higher s) }
      above_tells tape₂ Tired T d = T

      -- what is told of the entries above the step is told of the step and those above it
      above_told : {nodes₁ heads₁ : List ℕ} → Kept b.count nodes nodes₁ → Kept b.count heads heads₁
          → {tape₂ nodes₂ heads₂ : List ℕ} {r : Answer} → Above bs codes first b tape₁ tape₂ nodes₁ nodes₂ heads₁ heads₂ r
          → Solving bs codes f b tape tape₂ nodes nodes₂ heads heads₂ r
      above_told nk hk {tape₂} {r = r} X = record {
        told = above_tells tape₂ r
            (subst (λ es. Told bs es A₀ (open_f b first) b tape₁ tape₂ r) (kept_scope bs nk) X.searched.told) X.departs;
        tape_kept = kept_again b.at tk X.searched.tape_kept;
        node_kept = kept_again b.count nk X.searched.node_kept;
        head_kept = kept_again b.count hk X.searched.head_kept;
      }

  -- the step is taken

  module _ (U : CanUse bs waits heads codes b e) {tape' nodes' heads' : List ℕ} {r : Answer}
      (X : Using bs codes e f b tape tape' nodes nodes' heads heads' r) where
    pub given_stuck : r ≡ Stuck → Tries bs codes tape nodes f b (suc e)
    given_stuck q = use_stuck R N.next U f given_on given_tries (rw q at X)

    pub given_found : (w : Way) → r ≡ Solved w → Solving bs codes f b tape tape' nodes nodes' heads heads' r
    given_found w q = rw q (
        let Y : Using bs codes e f b tape tape' nodes nodes' heads heads' (Solved w) = rw q at X in
        use_found R N.next U f given_on given_tries Y (alike_self f _ tape'))

-- The loop through the entries, whatever the floor: past the given steps; at a given step, which is still to be tried; above it.
pub data Round (bs waits codes : List ℕ) (f : Floor) (b : Branch) (first : ℕ) (tape₀ tape nodes₀ nodes heads₀ heads : List ℕ) (from : ℕ)
    : Type 0 where
  open_round : f.fixed ≤ b.at → first ≡ from_at f b.at → Turn bs waits codes first b tape₀ tape nodes₀ nodes heads₀ heads from
      → Round bs waits codes f b first tape₀ tape nodes₀ nodes heads₀ heads from
  given_round : b.at < f.fixed → first ≡ byte_at tape₀ b.at → tape ≡ tape₀ → nodes ≡ nodes₀ → heads ≡ heads₀ → from ≡ first
      → Round bs waits codes f b first tape₀ tape nodes₀ nodes heads₀ heads from
  above_round : b.at < f.fixed → first ≡ byte_at tape₀ b.at → Tries bs codes tape₀ nodes₀ f b (suc first)
      → (tape₁ nodes₁ heads₁ : List ℕ) → Kept b.at tape₀ tape₁ → Kept b.count nodes₀ nodes₁ → Kept b.count heads₀ heads₁
      → Turn bs waits codes (suc first) b tape₁ tape nodes₁ nodes heads₁ heads from
      → Round bs waits codes f b first tape₀ tape nodes₀ nodes heads₀ heads from

-- An entry to be tried: the given step, or one that goes on with no floor.
data Step (bs waits codes : List ℕ) (f : Floor) (b : Branch) (first : ℕ) (tape₀ tape nodes₀ nodes heads₀ heads : List ℕ) (e : ℕ)
    : Type 0 where
  step_given : b.at < f.fixed → e ≡ byte_at tape₀ b.at → e ≡ first → tape ≡ tape₀ → nodes ≡ nodes₀ → heads ≡ heads₀
      → takable_by bs waits heads b (left_at bs (top_node codes b)) e ≡ true
      → Step bs waits codes f b first tape₀ tape nodes₀ nodes heads₀ heads e
  step_free : (first₁ from : ℕ) (tape₁ nodes₁ heads₁ : List ℕ)
      → Ready bs waits tape₁ nodes₁ heads₁ (open_f b first₁) b
      → Turn bs waits codes first₁ b tape₁ tape nodes₁ nodes heads₁ heads from
      → SeeksAt bs waits heads b (left_at bs (top_node codes b)) from e
      → keeps_by f b.at first e ≡ false
      → ((tape₂ nodes₂ heads₂ : List ℕ) (r : Answer) → Above bs codes first₁ b tape₁ tape₂ nodes₁ nodes₂ heads₁ heads₂ r
      → Solving bs codes f b tape₀ tape₂ nodes₀ nodes₂ heads₀ heads₂ r)
      → ((tape₂ nodes₂ heads₂ : List ℕ) (m : ℕ) → Turn bs waits codes first₁ b tape₁ tape₂ nodes₁ nodes₂ heads₁ heads₂ m
      → Round bs waits codes f b first tape₀ tape₂ nodes₀ nodes₂ heads₀ heads₂ m)
      → Step bs waits codes f b first tape₀ tape nodes₀ nodes heads₀ heads e

pub round_start : {bs waits codes tape nodes heads : List ℕ} {f : Floor} {b : Branch} {first : ℕ} → Ready bs waits tape nodes heads f b
    → FirstEntry f b.at tape first → (from : ℕ) → from ≡ first
    → Round bs waits codes f b first tape tape nodes nodes heads heads from
unfolding first_at
round_start {tape} {f} {b} {first} R e from ef = by_cases (dec_lt b.at f.fixed)
    (λ h. given_round h (e.is ∙ ap (λ c. cond c (byte_at tape b.at) (from_at f b.at)) (lt-ltb b.at f.fixed h)) refl refl refl ef)
    (λ h.
    let q : first ≡ from_at f b.at =
    e.is ∙ ap (λ c. cond c (byte_at tape b.at) (from_at f b.at)) (le-ltb b.at f.fixed (omega arith)) in
    open_round (omega arith) q (turn_start (ready_open R first q) from ef))

pub keeps_not : (f : Floor) (a first e : ℕ) → (f.fixed ≤ a) ⊎ (first < e) → keeps_by f a first e ≡ false
unfolding keeps_by
keeps_not f a first e (inl h) = ap (λ c. cond c (eqb e first) false) (le-ltb a f.fixed h)
keeps_not f a first e (inr h) =
    ap (λ d. cond (ltb a f.fixed) d false) (ne_eqb e first (λ q. omega (arith, h, q))) ∙ both_off (ltb a f.fixed)
  where
    both_off : (c : Bool) → cond c false false ≡ false
    both_off true = refl
    both_off false = refl

pub keeps_so : (f : Floor) (a first e : ℕ) → a < f.fixed → e ≡ first → keeps_by f a first e ≡ true
unfolding keeps_by
keeps_so f a first e h q =
    ap (λ c. cond c (eqb e first) false) (lt-ltb a f.fixed h) ∙ eq-eqb e first q

module _ {bs waits codes tape₀ nodes₀ heads₀ : List ℕ} {f : Floor} {b : Branch} {first : ℕ} (R : Ready bs waits tape₀ nodes₀ heads₀ f b)
    (N : NameOpen bs codes b) {tape nodes heads : List ℕ} {from : ℕ} where
  pub round_kept : Round bs waits codes f b first tape₀ tape nodes₀ nodes heads₀ heads from
      → Kept b.at tape₀ tape × (Kept b.count nodes₀ nodes × Kept b.count heads₀ heads)
  round_kept (open_round h e T) = (T.tape_kept, (T.node_kept, T.head_kept))
  round_kept (given_round h e et en eh ef) =
      rw (et, en, eh) (kept_self b.at tape₀, (kept_self b.count nodes₀, kept_self b.count heads₀))
  round_kept (above_round h e t tape₁ nodes₁ heads₁ tk nk hk T) = (
    kept_again b.at tk T.tape_kept,
    (kept_again b.count nk T.node_kept, kept_again b.count hk T.head_kept),
  )

  pub round_ready : Round bs waits codes f b first tape₀ tape nodes₀ nodes heads₀ heads from → Ready bs waits tape nodes heads f b
  round_ready L = let k = round_kept L in ready_kept R k.0 k.1.0 k.1.1

  -- no entry is left
  module _ (name : ℕ) (en : name ≡ left_at bs (top_node codes b)) (x : Option ℕ) (S : Seeks bs waits heads b name from x) where
    pub round_ends : Round bs waits codes f b first tape₀ tape nodes₀ nodes heads₀ heads from → x ≡ Nothing
        → Solving bs codes f b tape₀ tape nodes₀ nodes heads₀ heads Stuck
    unfolding Seeks Departs
    round_ends (open_round h e T) q = open_told R first e h (turn_ends T N name en x S q)
    round_ends (given_round h e et eo eh ef) q =
        rw (et, eo) (rw eh (
        let s : (y : ℕ) → from ≤ y → y < b.count → takable_by bs waits heads b name y ≡ false = rw q at S in
        sought_none R N.next (given_tries R N h first e) (rw (en, eh, ef) at s)))
    round_ends (above_round h e t tape₁ nodes₁ heads₁ tk nk hk T) q =
        above_told R N h first e t (suc first) (let z : suc first ≡ first + 1 = omega arith in z) tk nk hk
        (record { searched = turn_ends T N name en x S q; departs = tt })

-- the next entry
module _ {bs codes : List ℕ} {b : Branch} (N : NameOpen bs codes b) (waits heads : List ℕ) (from name : ℕ)
    (en : name ≡ left_at bs (top_node codes b)) (x : Option ℕ) (S : Seeks bs waits heads b name from x) (e : ℕ) (q : x ≡ Some e) where
  pub seek_at : SeeksAt bs waits heads b (left_at bs (top_node codes b)) from e
  unfolding Seeks
  seek_at = let s : SeeksAt bs waits heads b name from e = rw q at S in rw en at s

  pub round_onward : from ≤ e
  round_onward = seek_at.onward

  pub round_use : CanUse bs waits heads codes b e
  round_use = record { step = N; inside = seek_at.inside; takable = seek_at.takable }

module _ {bs waits codes tape₀ nodes₀ heads₀ : List ℕ} {f : Floor} {b : Branch} {first : ℕ} (R : Ready bs waits tape₀ nodes₀ heads₀ f b)
    (N : NameOpen bs codes b) (F : FirstEntry f b.at tape₀ first) where
  -- the floor above the given step
  ready_above : b.at < f.fixed → {tape₁ nodes₁ heads₁ : List ℕ} → Kept b.at tape₀ tape₁ → Kept b.count nodes₀ nodes₁
      → Kept b.count heads₀ heads₁ → Ready bs waits tape₁ nodes₁ heads₁ (open_f b (suc first)) b
  ready_above h tk nk hk =
      ready_floor (open_f b (suc first)) (ready_kept R tk nk hk) (let a = R.at in let l = R.limit in omega arith)
      (let z = F.low h in omega arith)

  module _ {tape nodes heads : List ℕ} {from e : ℕ} (s : SeeksAt bs waits heads b (left_at bs (top_node codes b)) from e) where
    above_step : b.at < f.fixed → first ≡ byte_at tape₀ b.at → Tries bs codes tape₀ nodes₀ f b (suc first)
        → (tape₁ nodes₁ heads₁ : List ℕ) → Kept b.at tape₀ tape₁ → Kept b.count nodes₀ nodes₁ → Kept b.count heads₀ heads₁
        → (from₁ : ℕ) → Turn bs waits codes (suc first) b tape₁ tape nodes₁ nodes heads₁ heads from₁
        → SeeksAt bs waits heads b (left_at bs (top_node codes b)) from₁ e
        → Step bs waits codes f b first tape₀ tape nodes₀ nodes heads₀ heads e
    above_step h q t tape₁ nodes₁ heads₁ tk nk hk from₁ T z =
        step_free (suc first) from₁ tape₁ nodes₁ heads₁ (ready_above h tk nk hk) T z
        (keeps_not f b.at first e (inr (let i = z.onward in let j = T.onward in omega arith)))
        (λ tape₂ nodes₂ heads₂ r X.
        above_told R N h first q t (suc first) (let y : suc first ≡ first + 1 = omega arith in y) tk nk hk X)
        (λ tape₂ nodes₂ heads₂ m U. above_round h q t tape₁ nodes₁ heads₁ tk nk hk U)

    at_step : Round bs waits codes f b first tape₀ tape nodes₀ nodes heads₀ heads from
        → Step bs waits codes f b first tape₀ tape nodes₀ nodes heads₀ heads e
    at_step (open_round h q T) =
        step_free first from tape₀ nodes₀ heads₀ (ready_open R first q) T s (keeps_not f b.at first e (inl h))
        (λ tape₂ nodes₂ heads₂ r X. open_told R first q h X.searched) (λ tape₂ nodes₂ heads₂ m U. open_round h q U)
    at_step (above_round h q t tape₁ nodes₁ heads₁ tk nk hk T) = above_step h q t tape₁ nodes₁ heads₁ tk nk hk from T s
    at_step (given_round h q et en eh ef) = by_cases (dec_lt first e)
        (λ k.
        let z : SeeksAt bs waits heads b (left_at bs (top_node codes b)) (suc first) e = record {
          onward = omega arith;
          inside = s.inside;
          takable = s.takable;
          passed = λ x i j. s.passed x (omega arith) j;
        } in
        let u : takable_by bs waits heads₀ b (left_at bs (top_node codes b)) first ≡ false = rw (← eh) (s.passed first (omega arith) k) in
        let t = untaken R N.next first u (given_tries R N h first q) in
        let tk = kept_self b.at tape₀ in
        let nk = kept_self b.count nodes₀ in
        let hk = kept_self b.count heads₀ in
        above_step h q t tape₀ nodes₀ heads₀ tk nk hk (suc first)
        (rw (et, en) (rw eh (turn_start (ready_above h tk nk hk) (suc first) refl))) z)
        (λ k.
        let q₁ : e ≡ first = let i = s.onward in omega arith in
        step_given h (q₁ ∙ q) q₁ et en eh s.takable)

  -- the entry was used, with the floor past it
  module _ {tape nodes heads : List ℕ} {from e : ℕ} (L : Round bs waits codes f b first tape₀ tape nodes₀ nodes heads₀ heads from)
      (s : SeeksAt bs waits heads b (left_at bs (top_node codes b)) from e) (g : Floor) (same : Bool)
      (es : same ≡ keeps_by f b.at first e) (eg : g ≡ past_f f same) where
    free_floor : keeps_by f b.at first e ≡ false → g ≡ no_f
    unfolding past_f
    free_floor k = eg ∙ ap (past_f f) (es ∙ k)

    given_floor : keeps_by f b.at first e ≡ true → g ≡ f
    unfolding past_f
    given_floor k = eg ∙ ap (past_f f) (es ∙ k)

    pub round_next : {tape' nodes' heads' : List ℕ} → Using bs codes e g b tape tape' nodes nodes' heads heads' Stuck → (m : ℕ) → m ≡ e + 1
        → Round bs waits codes f b first tape₀ tape' nodes₀ nodes' heads₀ heads' m
    unfolding Seeks
    round_next {tape'} {nodes'} {heads'} X m em = at (at_step s L)
      where
        at : Step bs waits codes f b first tape₀ tape nodes₀ nodes heads₀ heads e
            → Round bs waits codes f b first tape₀ tape' nodes₀ nodes' heads₀ heads' m
        at (step_free first₁ from₁ tape₁ nodes₁ heads₁ R₁ T z k back again) =
            again tape' nodes' heads' m
            (turn_next T N (left_at bs (top_node codes b)) refl (Some e) z e refl g (free_floor k) X refl m em)
        at (step_given h q q₁ et en eh tk) =
            let u : takable_by bs waits heads₀ b (left_at bs (top_node codes b)) e ≡ true = rw (← eh) tk in
            let U = given_use R N h e q (left_at bs (top_node codes b)) refl u in
            let Y : Using bs codes e f b tape₀ tape' nodes₀ nodes' heads₀ heads' Stuck =
            rw (← et, ← en) (rw (← eh) (rw (given_floor (keeps_so f b.at first e h q₁)) at X)) in
            let t = given_stuck R N h e q U Y refl in
            let tp = use_tape R N.next U f Y in
            let nd = use_nodes R N.next U f Y in
            let hd = use_heads R N.next U f Y in
            above_round h (sym q₁ ∙ q) (subst (λ y. Tries bs codes tape₀ nodes₀ f b (suc y)) q₁ t) tape' nodes' heads' tp nd hd
            (turn_start (ready_above h tp nd hd) m (em ∙ let z : e + 1 ≡ suc first = omega arith in z))

    pub round_found : {tape' nodes' heads' : List ℕ} → (w : Way) → Using bs codes e g b tape tape' nodes nodes' heads heads'
        (Solved w) → (u : Way) → u ≡ following_w w same
        → Solving bs codes f b tape₀ tape' nodes₀ nodes' heads₀ heads' (Solved u)
    unfolding Seeks
    round_found {tape'} {nodes'} {heads'} w X u eu = at (at_step s L)
      where
        kept_so : (k : Bool) → (k && true) ≡ k
        kept_so true = refl
        kept_so false = refl

        at : Step bs waits codes f b first tape₀ tape nodes₀ nodes heads₀ heads e
            → Solving bs codes f b tape₀ tape' nodes₀ nodes' heads₀ heads' (Solved u)
        at (step_free first₁ from₁ tape₁ nodes₁ heads₁ R₁ T z k back again) =
            let S = turn_found T N (left_at bs (top_node codes b)) refl (Some e) z e refl g (free_floor k) X w refl in
            back tape' nodes' heads' (Solved u) (above_found R₁ N S w refl u (eu ∙ ap (following_w w) (es ∙ k)))
        at (step_given h q q₁ et en eh tk) =
            let v : takable_by bs waits heads₀ b (left_at bs (top_node codes b)) e ≡ true = rw (← eh) tk in
            let U = given_use R N h e q (left_at bs (top_node codes b)) refl v in
            let k = keeps_so f b.at first e h q₁ in
            let Y : Using bs codes e f b tape₀ tape' nodes₀ nodes' heads₀ heads' (Solved w) =
            rw (← et, ← en) (rw (← eh) (rw (given_floor k) at X)) in
            let same_way : u ≡ w =
            eu ∙ ap (following_w w) (es ∙ k)
            ∙ (λ i. record { at = w.at; used = w.used; seen = w.seen; slack = w.slack; kept = kept_so w.kept i }) in
            subst (λ y. Solving bs codes f b tape₀ tape' nodes₀ nodes' heads₀ heads' (Solved y)) (sym same_way)
            (given_found R N h e q U Y w refl)

    pub round_tired : {tape' nodes' heads' : List ℕ} {r : Answer} → Using bs codes e g b tape tape' nodes nodes' heads heads' r
        → Solving bs codes f b tape₀ tape' nodes₀ nodes' heads₀ heads' Tired
    unfolding Told
    round_tired X =
        let U : CanUse bs waits heads codes b e = record { step = N; inside = s.inside; takable = s.takable } in
        let Q = round_ready R N L in
        let k = round_kept R N L in
        record {
          told = tt;
          tape_kept = kept_again b.at k.0 (use_tape Q N.next U g X);
          node_kept = kept_again b.count k.1.0 (use_nodes Q N.next U g X);
          head_kept = kept_again b.count k.1.1 (use_heads Q N.next U g X);
        }

-- Prunings

module _ {bs waits tape nodes heads : List ℕ} {f : Floor} {b : Branch} (R : Ready bs waits tape nodes heads f b) {codes : List ℕ}
    (N : NameNext bs codes b) where
  pub asks : Rooted bs nodes b.count → PruneAsks bs nodes codes b
  asks k = record {
    sound = R.sound;
    node_room = R.entered.node_room;
    clauses = R.entered.clauses;
    whole = R.scoped;
    few = let p = (sound_front bs R.sound).rules in let h = R.few in omega arith;
    some = N.some;
    laid = N.laid;
    onward = R.at;
    limit = R.limit;
    rooted = k;
  }

  pub doomed_told : Doom bs nodes codes b → Solving bs codes f b tape tape nodes nodes heads heads Stuck
  unfolding Told place_at
  doomed_told d = at_once R {r = Stuck} (d.none (place_at (rule_count bs) f b tape) R.seen refl refl refl)

-- a dead end on which no floor bears
pub dead_barren : {bs waits tape₀ tape nodes₀ nodes heads₀ heads : List ℕ} {f : Floor} {b : Branch} {first : ℕ} (codes : List ℕ)
    → Ready bs waits tape₀ nodes₀ heads₀ f b → FirstEntry f b.at tape₀ first → Kept b.count nodes₀ nodes
    → Solving bs codes f b tape₀ tape nodes₀ nodes heads₀ heads Stuck → open_by f b.at first ≡ true
    → BarrenIn bs (scope_in bs nodes b.count) codes b
unfolding Told place_at open_by first_at
dead_barren {bs} {tape₀ = tape₀} {f = f} {b = b} {first = first} codes R F nk S o = by_cases (dec_lt b.at f.fixed)
    (λ h. absurd (true≢false (sym o ∙ ap (λ c. cond c false (eqb first 0)) (lt-ltb b.at f.fixed h))))
    (λ h.
    let l : f.fixed ≤ b.at = omega arith in
    let t = le-ltb b.at f.fixed l in
    let z : first ≡ 0 = eqb-true first 0 (sym (ap (λ c. cond c false (eqb first 0)) t) ∙ o) in
    let d : from_at f b.at ≡ 0 = sym (F.is ∙ ap (λ c. cond c (byte_at tape₀ b.at) (from_at f b.at)) t) ∙ z in
    subst (λ es. BarrenIn bs es codes b) (sym (kept_scope bs nk))
    (none_barren (place_at (rule_count bs) f b tape₀) S.told (given_past f b.at tape₀ l) d R.seen))

-- what a use says, of the answer that it is
pub solved_using : {bs codes : List ℕ} {e : ℕ} {f : Floor} {b : Branch} {tape tape' nodes nodes' heads heads' : List ℕ} {r : Answer} {w : Way}
    → Using bs codes e f b tape tape' nodes nodes' heads heads' r → r ≡ Solved w
    → Using bs codes e f b tape tape' nodes nodes' heads heads' (Solved w)
solved_using X q = rw q at X

pub stuck_using : {bs codes : List ℕ} {e : ℕ} {f : Floor} {b : Branch} {tape tape' nodes nodes' heads heads' : List ℕ} {r : Answer}
    → Using bs codes e f b tape tape' nodes nodes' heads heads' r → r ≡ Stuck
    → Using bs codes e f b tape tape' nodes nodes' heads heads' Stuck
stuck_using X q = rw q at X

-- what is told at a dead end, given up or not
pub dead_told : {bs : List ℕ} {f : Floor} {b : Branch} {tape tape' nodes nodes' heads heads' : List ℕ} (w : Way) (codes : List ℕ) (tired : Bool)
    → Solving bs codes f b tape tape' nodes nodes' heads heads' Stuck
    → Solving bs codes f b tape tape' nodes nodes' heads heads' (answer_in (gives tired) w)
unfolding answer_in gives Told
dead_told w codes true S = record { told = tt; tape_kept = S.tape_kept; node_kept = S.node_kept; head_kept = S.head_kept }
dead_told w codes false S = S

-- what the use is called with
pub round_call : {bs waits codes tape₀ nodes₀ heads₀ : List ℕ} {f : Floor} {b : Branch} {first : ℕ} → Ready bs waits tape₀ nodes₀ heads₀ f b
    → NameOpen bs codes b → {tape nodes heads : List ℕ} {from : ℕ} → Round bs waits codes f b first tape₀ tape nodes₀ nodes heads₀ heads from
    → {g : Floor} (same : Bool) → g ≡ past_f f same → Ready bs waits tape nodes heads g b
unfolding past_f
round_call {f = f} R N L same eg =
    ready_floor _ (round_ready R N L) (rw eg (low same).0) (rw eg (low same).1)
  where
    low : (k : Bool) → ((past_f f k).fixed ≤ 255) × ((past_f f k).from ≤ 256)
    low true = (R.fixed, R.from)
    low false = (omega arith, omega arith)
