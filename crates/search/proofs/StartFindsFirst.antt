-- The engine at the card's goal: what it asks there, and that its answer is the card's first list.
use Prim.Native.Nat.{ℕ, ◌+◌, ◌-◌, ◌*◌, ◌≤◌, ◌<◌}
use native.Mathlib.Omega.{arith}
use mathlib.Core.Path.{◌≡◌, refl, sym, ◌∙◌, ap, subst}
use mathlib.Core.Bool.{cond}
use mathlib.Core.List.{List, [], ◌∷◌}
use lib.ListN.{length, take, set}
use lib.Seq.{slice}
use lib.Dec.{leb}
use Rattle.calculus.specs.Items.{◌∪◌}
use Rattle.calculus.specs.Derivation.{Scope}
use Rattle.calculus.specs.Steps.{left_choice}
use Rattle.calculus.specs.Job.{Listed}
use Rattle.calculus.specs.Inner.Summary.{Bounded}
use Rattle.card.specs.Format.{rule_count, line_count, node_count, goal_node, depth_limit, step_limit}
use Rattle.card.specs.Fault.{Sound, height_at}
use Rattle.card.specs.Decode.{lines_with, job_of}
use Rattle.card.proofs.NodesDecoded.{lines_bounded}
use Rattle.card.proofs.CardChecked.{sound_front}
use Rattle.card.proofs.SoundNodes.{goal_lower, height_low, sound_root}
use Rattle.scope.proofs.SetsAreItems.{strict_items, lax_items}
use Rattle.entries.specs.Inner.Entries.{scope_in, Entered}
use Rattle.entries.specs.Inner.Twins.{eligible}
use Rattle.entries.specs.Inner.Masks.{Waiting}
use Rattle.entries.proofs.MasksAreTwins.{seen_none}
use Rattle.entries.proofs.TwinsLoseNothing.{first_eligible, none_eligible}
use Rattle.agenda.specs.Inner.Agenda.{Agenda, task}
use Rattle.agenda.specs.Inner.Sought.{Place, None, Least, start_place}
use Rattle.agenda.proofs.StartTells.{start_none, start_least}
use Rattle.std.specs.Prelude.{Option}
use Rattle.branch.specs.declared.Branch.{Branch}
use Rattle.branch.specs.declared.Way.{Way}
use Rattle.branch.specs.declared.Floor.{Floor}
use Rattle.branch.specs.declared.Outcome.{Outcome}
use Rattle.branch.specs.declared.Outcome.TheVariants.{Solved as IsSolved, Stuck as IsStuck, Tired as IsTired}
use Rattle.branch.specs.Inner.Values.{Answer, Solved, Stuck, Tired, answer_in}
use Rattle.segment.specs.Inner.Tasks.{agenda_of, Laid}
use Rattle.segment.proofs.TasksAreAgendas.{agenda_one, laid_one}
use Rattle.choice.specs.Inner.Choice.{given_at, from_at}
use Rattle.engine.specs.Inner.Engine.{place_at, Ready, Solves, Told, Solving}
use Rattle.moves.specs.Inner.Moves.{start_b}
use Rattle.search.specs.Inner.Found.{FirstOn, Ran, Starts, Finds, FoundSays}
use Rattle.entries.proofs.TablesAreScopes.{entered_kept, scope_kept}

-- no floor
abbrev pub no_floor : Floor
no_floor = record { fixed = 0; from = 0 }

module _ {bs : List ℕ} (s : Sound bs) where
  front_depth : depth_limit bs ≤ 16
  front_depth = (sound_front bs s).depth

  -- no line is a choice
  no_choices : rule_count bs + line_count bs ≤ left_choice
  no_choices = let f = sound_front bs s in omega (arith, f.rules, f.lines)

  goal_height : height_at bs (goal_node bs) ≤ 8
  goal_height = height_low s (goal_node bs) (goal_lower bs (node_count bs) (goal_node bs) (sound_root s))

  -- the goal's code has its place in the array
  pub goal_code : (goal_node bs < 512) × (depth_limit bs < 32)
  goal_code =
      let g = goal_lower bs (node_count bs) (goal_node bs) (sound_root s) in
      let n = (sound_front bs s).few in
      let d = front_depth in
      (omega arith, omega arith)

  module _ (codes : List ℕ) (room : length codes ≡ 104) where
    -- the goal, alone on the agenda
    abbrev pub goal_codes : List ℕ
    goal_codes = set codes 0 (goal_node bs * 32 + depth_limit bs)

    pub goal_laid : Laid bs goal_codes (start_b bs).len (start_b bs).count
    unfolding start_b
    goal_laid =
        let h = goal_height in
        let d = front_depth in
        let t = (sound_front bs s).lines in
        laid_one bs codes (goal_node bs) (depth_limit bs) goal_code.1 room (sound_root s) (omega arith) (omega arith)

    goal_agenda : agenda_of bs goal_codes (start_b bs).len ≡ task (job_of bs).goal (job_of bs).depth ∷ []
    unfolding start_b job_of
    goal_agenda = agenda_one bs codes (goal_node bs) (depth_limit bs) goal_code.1 room

    module _ (tape nodes : List ℕ) (scope : scope_in bs nodes (rule_count bs + line_count bs) ≡ (job_of bs).scope) where
      bounded_start : Bounded (scope_in bs nodes (rule_count bs + line_count bs)) (lines_with bs 1 ∪ lines_with bs 0)
      unfolding job_of
      bounded_start = rw scope (lines_bounded bs)

      pub start_ready : {waits heads : List ℕ} → Waiting bs waits → Entered bs nodes heads (rule_count bs + line_count bs)
          → length tape ≡ 255 → step_limit bs ≤ 255 → Ready bs waits tape nodes heads no_floor (start_b bs)
      unfolding start_b
      start_ready w entered l small = record {
        sound = s;
        waiting = w;
        tape_room = l;
        entered = entered;
        scoped = omega arith;
        few = let f = (sound_front bs s).lines in omega arith;
        at = omega arith;
        limit = small;
        fixed = omega arith;
        from = omega arith;
        bounded = rw (strict_items s, lax_items s) bounded_start;
        seen = seen_none s;
        counted = refl;
      }

      start_place_lem : place_at (rule_count bs) no_floor (start_b bs) tape ≡ start_place (job_of bs)
      unfolding place_at start_b job_of given_at from_at
      start_place_lem = λ i. record {
        done = [];
        given = [];
        from = low i;
        strict = strict_items s i;
        lax = lax_items s i;
        room = room_left i;
      }
        where
          low : ◌≡◌ {A = ℕ} (cond (leb 0 0) 0 0) 0
          low = refl

          room_left : step_limit bs - 0 ≡ step_limit bs
          room_left = omega arith

      -- THEOREM. What the engine tells at the card's goal.
      module _ {tape' nodes' heads heads' : List ℕ} {r : Answer}
          (x : Solving bs goal_codes no_floor (start_b bs) tape tape' nodes nodes' heads heads' r) where
        told : Told bs (job_of bs).scope (task (job_of bs).goal (job_of bs).depth ∷ []) no_floor (start_b bs) tape tape' r
        unfolding start_b
        told = subst (λ (A : Agenda). Told bs (job_of bs).scope A no_floor (start_b bs) tape tape' r) goal_agenda
            (subst (λ (es : Scope). Told bs es (agenda_of bs goal_codes 1) no_floor (start_b bs) tape tape' r) scope x.told)

        pub first_found : (w : Way) → r ≡ Solved w → step_limit bs ≤ 255 → FirstOn bs tape' w.at
        unfolding Told start_b
        first_found w e small =
            let t : Solves bs (job_of bs).scope (task (job_of bs).goal (job_of bs).depth ∷ []) no_floor (start_b bs) tape tape' w
            = subst (Told bs (job_of bs).scope (task (job_of bs).goal (job_of bs).depth ∷ []) no_floor (start_b bs) tape tape') e told in
            let l = start_least (eligible bs) (job_of bs) (lines_bounded bs)
            (subst (λ (p : Place). Least (eligible bs) (job_of bs).scope (task (job_of bs).goal (job_of bs).depth ∷ []) p
            (slice 0 w.at tape') t.items_used t.slack_left) start_place_lem t.least) in
            record {
              room = let b = t.bounded in omega arith;
              first = first_eligible bs (take w.at tape') no_choices l.0 l.2;
            }

        pub none_found : r ≡ Stuck → (l : List ℕ) → Listed (job_of bs) l → ⊥
        unfolding Told
        none_found e =
            let t : None (eligible bs) (job_of bs).scope (task (job_of bs).goal (job_of bs).depth ∷ [])
            (place_at (rule_count bs) no_floor (start_b bs) tape)
            = subst (Told bs (job_of bs).scope (task (job_of bs).goal (job_of bs).depth ∷ []) no_floor (start_b bs) tape tape') e told in
            none_eligible bs no_choices (start_none (eligible bs) (job_of bs) (lines_bounded bs)
            (subst (None (eligible bs) (job_of bs).scope (task (job_of bs).goal (job_of bs).depth ∷ [])) start_place_lem t))

-- The same of the values at hand: the branch is the one at the goal, and the array holds the goal.
pub start_count : (bs : List ℕ) {b : Branch} → b ≡ start_b bs → b.count ≡ rule_count bs + line_count bs
unfolding start_b
start_count bs e = ap (λ x. x.count) e

pub start_limit : (bs : List ℕ) {b : Branch} → b ≡ start_b bs → b.limit ≤ 255 → step_limit bs < 256
unfolding start_b
start_limit bs {b} e h = let q : b.limit ≡ step_limit bs = ap (λ x. x.limit) e in omega arith

pub record AtGoal (bs zeros codes : List ℕ) (b : Branch) (goal depth : ℕ) : Type 0 where
  pub branch : b ≡ start_b bs
  pub goal_is : goal ≡ goal_node bs
  pub is_depth : depth ≡ depth_limit bs
  pub array : codes ≡ set zeros 0 (goal * 32 + depth)
  pub room : length zeros ≡ 104

pub at_goal : {bs codes : List ℕ} {b : Branch} {goal depth : ℕ} (zeros : List ℕ) → b ≡ start_b bs → goal ≡ goal_node bs
    → depth ≡ depth_limit bs
    → codes ≡ set zeros 0 (goal * 32 + depth) → length zeros ≡ 104 → AtGoal bs zeros codes b goal depth
at_goal zeros e g d c r = record { branch = e; goal_is = g; is_depth = d; array = c; room = r }

module _ {bs zeros codes : List ℕ} {b : Branch} {goal depth : ℕ} (s : Sound bs) (a : AtGoal bs zeros codes b goal depth) where
  array_is : codes ≡ goal_codes s zeros a.room
  array_is = a.array ∙ rw (a.goal_is, a.is_depth) refl

  pub asked : (waits tape nodes heads : List ℕ) → scope_in bs nodes (rule_count bs + line_count bs) ≡ (job_of bs).scope → Waiting bs waits
      → Entered bs nodes heads (rule_count bs + line_count bs) → length tape ≡ 255 → step_limit bs < 256
      → Ready bs waits tape nodes heads no_floor b × Laid bs codes b.len b.count
  asked waits tape nodes heads e w h l small =
      rw (a.branch, array_is)
      (start_ready s zeros a.room tape nodes e w h l (omega arith), goal_laid s zeros a.room)

  module _ {tape tape' nodes nodes' heads heads' : List ℕ} {r : Answer}
      (x : Solving bs codes no_floor b tape tape' nodes nodes' heads heads' r) where
    pub answered : Solving bs (goal_codes s zeros a.room) no_floor (start_b bs) tape tape' nodes nodes' heads heads' r
    answered = rw (← a.branch, ← array_is) x

    pub ran : scope_in bs nodes (rule_count bs + line_count bs) ≡ (job_of bs).scope → step_limit bs < 256 → Ran bs tape' r
    unfolding Ran
    ran e small = at r answered
      where
        at : (o : Answer) → Solving bs (goal_codes s zeros a.room) no_floor (start_b bs) tape tape' nodes nodes' heads heads' o → Ran bs tape' o
        at (Solved w) y = first_found s zeros a.room tape nodes e y w refl (omega arith)
        at Stuck y = none_found s zeros a.room tape nodes e y refl
        at Tired y = tt

    -- what a run starts from is there behind it too
    pub started : {waits : List ℕ} → Starts bs waits tape nodes heads → Starts bs waits tape' nodes' heads'
    unfolding start_b
    started {waits} q = at answered
      where
        at : Solving bs (goal_codes s zeros a.room) no_floor (start_b bs) tape tape' nodes nodes' heads heads' r
            → Starts bs waits tape' nodes' heads'
        at y = record {
          sound = q.sound;
          waiting = q.waiting;
          tape_room = y.tape_kept.size ∙ q.tape_room;
          entered = entered_kept nodes' heads' q.entered (y.node_kept.size ∙ q.entered.node_room)
              (y.head_kept.size ∙ q.entered.head_room) (sym y.node_kept.same) (sym y.head_kept.same);
          scope = scope_kept bs nodes' nodes (rule_count bs + line_count bs) y.node_kept.same ∙ q.scope;
        }

-- what a run says is what is found
pub says_finds : (bs tape : List ℕ) (w : Way) (r : Outcome) (s : Option ℕ) → Ran bs tape (answer_in r w) → FoundSays w r s → Finds bs tape s
unfolding Ran FoundSays Finds answer_in
says_finds bs tape w IsSolved s q e = rw e q
says_finds bs tape w IsStuck s q e = rw e q
says_finds bs tape w IsTired s q e = absurd e
