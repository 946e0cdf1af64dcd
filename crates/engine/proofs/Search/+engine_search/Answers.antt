use borrow.Author.Rules.{rules}
use Prim.Native.Nat.{ℕ}
use native.Mathlib.Omega.{arith}
use mathlib.Core.Path.{◌≡◌, refl, sym, ◌∙◌, ap}
use mathlib.Core.List.{[], ◌∷◌}
use mathlib.Core.Bool.{◌&&◌}
use lib.ListN.{replicate}
use Rattle.calculus.specs.Formula.{Goal}
use Rattle.card.specs.Format.{kind_at}
use Rattle.card.proofs.SoundNodes.{node_here}
use Rattle.agenda.specs.Inner.Agenda.{task}
use Rattle.branch.specs.declared.Branch.{Branch}
use Rattle.branch.specs.Inner.Values.{answer_in}
use Rattle.branch.specs.declared.Floor.{Floor}
use mathlib.Core.List.{List}
use Rattle.inside.specs.Inner.Inside.{InsideOpened, lends}
use Rattle.engine.specs.Inner.Engine.{Equipped, Ready, GoalReady, Fresh}
use Rattle.engine.proofs.CountIsScan.{count_is_scan}
use Rattle.engine.proofs.AgendasUnwind.{top_within, top_here, name_next, part_next, open_kind, unwound_number, unwound_ready}
use Rattle.engine.proofs.AgendasUnwind.{unwound_searched, closed_searched}
use Rattle.engine.proofs.WaysSaid.{solved_said, stuck_said, unsolved, equipped_on, equipped_at, equipped_lent}
use Rattle.engine.proofs.WaysSaid.{stays_stuck, stays_solved, stays_on, stays_dead}
use Rattle.engine.proofs.WaysSaid.{using_count, tensor_count, with_count, awake_stays, stays_tired}
use Rattle.engine.proofs.NamesTell.{name_of, name_open, testing, name_here, top_inside, unnested}
use Rattle.engine.proofs.NamesTell.{roomless, entry_byte}
use Rattle.engine.proofs.NamesTell.{round_start, round_kept, round_ready, round_ends, seek_at, round_onward, round_use}
use Rattle.engine.proofs.NamesTell.{round_call, round_next, round_found, round_tired, asks, doomed_told, dead_barren, dead_told, solved_using, stuck_using}
use Rattle.engine.proofs.TurnsRaise.{turns_start, ready_lead, fresh_lead}
use Rattle.engine.proofs.PartsTell.{goal_next, agenda_same, agenda_last, alone_next, searched_as, searched_at, goal_lead}
use Rattle.engine.proofs.PartsTell.{own_unsolved, own_solved, goal_low, part_kind, left_asks, either_goal, one_task}
use Rattle.engine.proofs.PartsTell.{searched_past, lent_count, opening, opened_asks, opened_unsolved, opened_solved}
use Rattle.engine.proofs.BehindTells.{behind_unsolved, behind_nodes_kept, behind_rest_asks, rest_told, behind_solved}
use Rattle.engine.proofs.BehindTells.{behind_tired, behind_nosteps, behind_raise_asks, behind_falls, behind_again}
use Rattle.engine.proofs.BehindTells.{nodes_on as behind-nodes-on}
use Rattle.engine.proofs.EitherTells.{either_unsolved, either_nodes_kept, with_len, either_rest_asks, either_solved}
use Rattle.engine.proofs.EitherTells.{either_tired, either_nosteps, either_raise_asks, either_falls, either_again}
use Rattle.engine.proofs.EitherTells.{nodes_on as either-nodes-on}
use mathlib.Core.Logic.{inr}
use Rattle.engine.proofs.AgendasUnwind.{one_of_next}
use Rattle.engine.proofs.WaysSaid.{unstuck}
use Rattle.engine.proofs.EntersTell.{goal_room, goal_call, goal_told, clause_room, core_here, core_kinds, menu_call, menu_told, head_call, head_told}
use Rattle.engine.proofs.EntersTell.{never_told, one_of_kinds, one_of_call, one_of_told}
use Rattle.engine.proofs.ChoicesTell.{choice_here, side_clause, choice_room, left_told, right_told}
use Rattle.engine.proofs.ChoicesTell.{side_under, side_shut, side_call, side_unsolved, side_solved}
use Rattle.engine.proofs.NamesTell.{ready_kept}
use Rattle.engine.proofs.UsesTell.{use_room, use_core, use_kinds, use_menu_call, use_menu_told, use_head_call, use_head_told}
use Prim.Native.Nat.{ℕ}
use Rattle.engine.proofs.WaysSaid.{and_then, and_else}
use Rattle.engine.proofs.Search.+engine_search.Goals as goal
use Rattle.engine.proofs.Search.+engine_search.Goals.{behind-then-w, behind-else-w, both_ways-then-w, both_ways-else-w}

pub behind-node-goal-requires : goal.behind-node-goal-requires
behind-node-goal-requires g t c =
    let rd = c.requires.ready in
    let q = c.requires.part_next in
    top_within c.args.b rd.sound q.laid q.some

pub behind-nest-n-requires : goal.behind-nest-n-requires
behind-nest-n-requires g t c =
    let rd = c.requires.ready in
    let q = c.requires.part_next in
    top_within c.args.b rd.sound q.laid q.some

pub behind-last-requires : goal.behind-last-requires
behind-last-requires g t c = λ κs within.
    let rd = c.requires.ready in
    let q = c.requires.part_next in
    let eq = c.requires.equipped in
    let number_is = c.decreases in
    let falls = alone_next q c.node-goal.ensures c.nest-n.ensures in (omega (arith, falls, number_is), (within, (rd, (goal_next q c.node-goal.ensures c.nest-n.ensures, eq))))

pub behind-returns-then-top-eq0 : goal.behind-returns-then-top-eq0
behind-returns-then-top-eq0 g t c =
    let q = c.requires.part_next in record {
      solving = searched_as (agenda_last q c.node-goal.ensures c.nest-n.ensures c.if-top-eq0.true) c.last.ensures.alone;
      stays = c.last.ensures.stays;
    }

pub behind-loop-r-init : goal.behind-loop-r-init
behind-loop-r-init g t c =
    let rd = c.requires.ready in
    let eq = c.requires.equipped in
    (turns_start _ _ _ rd, eq)

pub behind-part-r-requires : goal.behind-part-r-requires
behind-part-r-requires g t c = λ κs within.
    let q = c.requires.part_next in
    let number_is = c.decreases in
    let turn = c.loop-r.invariant.0 in
    let kit = c.loop-r.invariant.1 in
    let eg = c.node-goal.ensures in
    let en = c.nest-n.ensures in
    let falls = alone_next q eg en in
    rw c.lead.ensures.value (omega (arith, falls, number_is), (within, (ready_lead turn.ready, ((goal_lead (goal_next q eg en), fresh_lead c.args.b), kit))))

pub behind-returns-in_default : goal.behind-returns-in_default
behind-returns-in_default g t c =
    let q = c.requires.part_next in
    let turn = c.loop-r.invariant.0 in
    let same_agenda = agenda_same q c.node-goal.ensures c.nest-n.ensures in
    let R = searched_at c.lead.ensures.value c.part-r.ensures.alone in record {
      solving = searched_as (same_agenda) (behind_unsolved _ _ turn _ R (unsolved _ c.in_default.not-Solved _));
      stays = c.part-r.ensures.stays;
    }

pub behind-solve-s-requires : goal.behind-solve-s-requires
behind-solve-s-requires g t c = λ κs within.
    let rd = c.requires.ready in
    let q = c.requires.part_next in
    let number_is = c.decreases in
    let turn = c.loop-r.invariant.0 in
    let kit = c.loop-r.invariant.1 in
    let R = searched_at c.lead.ensures.value c.part-r.ensures.alone in
    let solved = solved_said c.in-Solved.is _ in
    let asked = behind_rest_asks _ _ turn _ R _ solved _ _ _ c.past-h.ensures c.past_tensor.ensures.value q in
    let kept = behind_nodes_kept _ _ turn _ R in (
      omega (arith, asked.0, number_is),
      (
        within,
        (
          asked.1.0,
          (
            asked.1.1,
            (
              equipped_at (tensor_count _ _ _ c.past_tensor.ensures.value) (equipped_on kit kept rd.scoped
                  c.part-r.ensures.stays),
              count_is_scan asked.1.0,
            ),
          ),
        ),
      ),
    )

pub behind-returns-in-Solved-s : goal.behind-returns-in-Solved-s
unfolding answer_in
behind-returns-in-Solved-s g t c =
    let q = c.requires.part_next in
    let turn = c.loop-r.invariant.0 in
    let same_agenda = agenda_same q c.node-goal.ensures c.nest-n.ensures in
    let R = searched_at c.lead.ensures.value c.part-r.ensures.alone in
    let solved = solved_said c.in-Solved.is _ in
    let Q₁ = rest_told _ _ turn _ R _ solved _ _ _ c.past-h.ensures c.past_tensor.ensures.value c.solve-s.ensures.solving in
    let done = behind_solved _ _ turn _ R _ solved _ Q₁ _ (solved_said c.in-Solved-s.is _) in
    let kept : c.if-w.follow ≡ (c.part-r.new.self.way.kept && c.loop-r.fresh) = elim c.if-w.branch [
      | behind-then-w w ↦ and_then _ w.if-w.true w.follow-is
      | behind-else-w w ↦ and_else _ w.if-w.false w.follow-is
    ] in
    record {
      solving = rw (c.follow.ensures, kept) (searched_as (same_agenda) done);
      stays = stays_solved c.solve-s.ensures.stays;
    }

pub behind-returns-then-w-b : goal.behind-returns-then-w-b
unfolding answer_in
behind-returns-then-w-b g t c =
    let q = c.requires.part_next in
    let turn = c.loop-r.invariant.0 in
    let same_agenda = agenda_same q c.node-goal.ensures c.nest-n.ensures in
    let R = searched_at c.lead.ensures.value c.part-r.ensures.alone in
    let solved = solved_said c.in-Solved.is _ in
    let Q₁ = rest_told _ _ turn _ R _ solved _ _ _ c.past-h.ensures c.past_tensor.ensures.value c.solve-s.ensures.solving in record {
      solving = searched_as (same_agenda) (behind_nosteps _ _ turn _ R _ solved _ Q₁ (stuck_said c.in-Stuck.is _)
          c.if-w-b.true);
      stays = stays_on c.solve-s.ensures.stays;
    }

pub behind-raise-g-requires : goal.behind-raise-g-requires
behind-raise-g-requires g t c =
    let turn = c.loop-r.invariant.0 in
    let R = searched_at c.lead.ensures.value c.part-r.ensures.alone in
    let solved = solved_said c.in-Solved.is _ in
    let Q₁ = rest_told _ _ turn _ R _ solved _ _ _ c.past-h.ensures c.past_tensor.ensures.value c.solve-s.ensures.solving in
    behind_raise_asks _ _ turn _ R _ solved _ Q₁ (stuck_said c.in-Stuck.is _) c.if-w-b.false

pub behind-loop-r-smaller : goal.behind-loop-r-smaller
behind-loop-r-smaller g t c =
    let turn = c.loop-r.invariant.0 in
    let R = searched_at c.lead.ensures.value c.part-r.ensures.alone in
    let solved = solved_said c.in-Solved.is _ in
    let Q₁ = rest_told _ _ turn _ R _ solved _ _ _ c.past-h.ensures c.past_tensor.ensures.value c.solve-s.ensures.solving in
    behind_falls _ _ turn _ R _ solved _ Q₁ (stuck_said c.in-Stuck.is _) c.if-w-b.false _
    c.raise-g.ensures.value c.raise-g.ensures.by_index

pub behind-loop-r-preserved : goal.behind-loop-r-preserved
behind-loop-r-preserved g t c =
    let rd = c.requires.ready in
    let turn = c.loop-r.invariant.0 in
    let kit = c.loop-r.invariant.1 in
    let R = searched_at c.lead.ensures.value c.part-r.ensures.alone in
    let solved = solved_said c.in-Solved.is _ in
    let Q₁ = rest_told _ _ turn _ R _ solved _ _ _ c.past-h.ensures c.past_tensor.ensures.value c.solve-s.ensures.solving in
    let kept = behind-nodes-on _ _ turn _ R _ solved _ Q₁ in (
      behind_again _ _ turn _ R _ solved _ Q₁ (stuck_said c.in-Stuck.is _) c.if-w-b.false _
          c.raise-g.ensures.value c.raise-g.ensures.by_index,
      equipped_on kit kept rd.scoped c.solve-s.ensures.stays,
    )

pub behind-returns-in-Tired : goal.behind-returns-in-Tired
unfolding answer_in
behind-returns-in-Tired g t c =
    let q = c.requires.part_next in
    let turn = c.loop-r.invariant.0 in
    let same_agenda = agenda_same q c.node-goal.ensures c.nest-n.ensures in
    let R = searched_at c.lead.ensures.value c.part-r.ensures.alone in
    let solved = solved_said c.in-Solved.is _ in
    let Q₁ = rest_told _ _ turn _ R _ solved _ _ _ c.past-h.ensures c.past_tensor.ensures.value c.solve-s.ensures.solving in record {
      solving = searched_as (same_agenda) (behind_tired _ _ turn _ R _ solved _ Q₁);
      stays = stays_tired c.in-Tired.is c.solve-s.ensures.stays;
    }

pub both_ways-loop-first-init : goal.both_ways-loop-first-init
both_ways-loop-first-init g t c =
    let rd = c.requires.ready in
    let eq = c.requires.equipped in
    (turns_start _ _ _ rd, eq)

pub both_ways-left_alone-requires : goal.both_ways-left_alone-requires
both_ways-left_alone-requires g t c =
    let rd = c.requires.ready in
    let gr = c.requires.goal_ready.0.0 in record {
      sound = rd.sound;
      goal_bound = (goal_low rd.sound gr, omega (arith, gr.kind));
      nest_bound = gr.nested;
    }

pub both_ways-solve-first-requires : goal.both_ways-solve-first-requires
both_ways-solve-first-requires g t c = λ κs within.
    let rd = c.requires.ready in
    let number_is = c.decreases in
    let turn = c.loop-first.invariant.0 in
    let kit = c.loop-first.invariant.1 in
    let gr = c.requires.goal_ready.0.0 in
    let fb = c.requires.goal_ready.0.1 in
    let kd = c.requires.goal_ready.1 in
    let asked = left_asks rd.sound gr (replicate 104 0) refl kd fb refl c.left_alone.ensures in
    (omega (arith, asked.0, number_is), (within, (turn.ready, (asked.1, (kit, count_is_scan turn.ready)))))

pub both_ways-returns-in_default : goal.both_ways-returns-in_default
both_ways-returns-in_default g t c =
    let rd = c.requires.ready in
    let turn = c.loop-first.invariant.0 in
    let gr = c.requires.goal_ready.0.0 in
    let fb = c.requires.goal_ready.0.1 in
    let kd = c.requires.goal_ready.1 in
    let same_goal = ap (λ (G : Goal). task G c.args.n ∷ []) (either_goal rd.sound gr (replicate 104 0) refl kd) in
    let R = searched_as (one_task _ (replicate 104 0) gr.nested refl fb.len refl c.left_alone.ensures)
    c.solve-first.ensures.solving in record {
      alone = searched_as (same_goal) (either_unsolved _ _ _ fb turn _ R (unsolved _ c.in_default.not-Solved _));
      stays = c.solve-first.ensures.stays;
    }

pub both_ways-right_alone-requires : goal.both_ways-right_alone-requires
both_ways-right_alone-requires g t c =
    let rd = c.requires.ready in
    let gr = c.requires.goal_ready.0.0 in record {
      sound = rd.sound;
      goal_bound = (goal_low rd.sound gr, omega (arith, gr.kind));
      nest_bound = gr.nested;
    }

pub both_ways-solve-second-requires : goal.both_ways-solve-second-requires
both_ways-solve-second-requires g t c = λ κs within.
    let rd = c.requires.ready in
    let number_is = c.decreases in
    let turn = c.loop-first.invariant.0 in
    let kit = c.loop-first.invariant.1 in
    let gr = c.requires.goal_ready.0.0 in
    let fb = c.requires.goal_ready.0.1 in
    let kd = c.requires.goal_ready.1 in
    let R = searched_as (one_task _ (replicate 104 0) gr.nested refl fb.len refl c.left_alone.ensures)
    c.solve-first.ensures.solving in
    let solved = solved_said c.in-Solved.is _ in
    let asked = either_rest_asks _ _ _ fb turn _ R _ solved c.past-h.ensures c.past_with.ensures.value gr kd
    (replicate 104 0) refl
    refl c.right_alone.ensures in
    let kept = either_nodes_kept _ _ _ fb turn _ R in (
      omega (arith, asked.0, number_is),
      (
        within,
        (
          asked.1.0,
          (
            asked.1.1,
            (
              equipped_at (with_count _ _ _ c.past_with.ensures.value) (equipped_on kit kept rd.scoped c.solve-first.ensures.stays),
              count_is_scan asked.1.0,
            ),
          ),
        ),
      ),
    )

pub both_ways-returns-in-Solved-second : goal.both_ways-returns-in-Solved-second
unfolding answer_in
both_ways-returns-in-Solved-second g t c =
    let rd = c.requires.ready in
    let turn = c.loop-first.invariant.0 in
    let gr = c.requires.goal_ready.0.0 in
    let fb = c.requires.goal_ready.0.1 in
    let kd = c.requires.goal_ready.1 in
    let same_goal = ap (λ (G : Goal). task G c.args.n ∷ []) (either_goal rd.sound gr (replicate 104 0) refl kd) in
    let R = searched_as (one_task _ (replicate 104 0) gr.nested refl fb.len refl c.left_alone.ensures)
    c.solve-first.ensures.solving in
    let solved = solved_said c.in-Solved.is _ in
    let Q₁ = searched_past c.past-h.ensures c.past_with.ensures.value
    (searched_as (one_task _ (replicate 104 0) gr.nested refl (with_len _ _ c.past_with.ensures.value) refl
    c.right_alone.ensures) c.solve-second.ensures.solving) in
    let second = solved_said c.in-Solved-second.is _ in
    let done = either_solved _ _ _ fb turn _ R _ solved _ Q₁ _ second in
    let both_kept : c.if-w.follow ≡ (c.solve-first.new.self.way.kept && c.loop-first.fresh) = elim c.if-w.branch [
      | both_ways-then-w w ↦ and_then _ w.if-w.true w.follow-is
      | both_ways-else-w w ↦ and_else _ w.if-w.false w.follow-is
    ] in record {
      alone = rw (c.follow.ensures, c.beside-self.ensures, both_kept)
          (searched_as (same_goal) done);
      stays = stays_solved c.solve-second.ensures.stays;
    }

pub both_ways-returns-then-w-b : goal.both_ways-returns-then-w-b
unfolding answer_in
both_ways-returns-then-w-b g t c =
    let rd = c.requires.ready in
    let turn = c.loop-first.invariant.0 in
    let gr = c.requires.goal_ready.0.0 in
    let fb = c.requires.goal_ready.0.1 in
    let kd = c.requires.goal_ready.1 in
    let same_goal = ap (λ (G : Goal). task G c.args.n ∷ []) (either_goal rd.sound gr (replicate 104 0) refl kd) in
    let R = searched_as (one_task _ (replicate 104 0) gr.nested refl fb.len refl c.left_alone.ensures)
    c.solve-first.ensures.solving in
    let solved = solved_said c.in-Solved.is _ in
    let Q₁ = searched_past c.past-h.ensures c.past_with.ensures.value
    (searched_as (one_task _ (replicate 104 0) gr.nested refl (with_len _ _ c.past_with.ensures.value) refl
    c.right_alone.ensures) c.solve-second.ensures.solving) in record {
      alone = searched_as (same_goal) (either_nosteps _ _ _ fb turn _ R _ solved _ Q₁ (stuck_said c.in-Stuck.is _)
          c.if-w-b.true);
      stays = stays_on c.solve-second.ensures.stays;
    }

pub both_ways-raise-g-requires : goal.both_ways-raise-g-requires
both_ways-raise-g-requires g t c =
    let turn = c.loop-first.invariant.0 in
    let gr = c.requires.goal_ready.0.0 in
    let fb = c.requires.goal_ready.0.1 in
    let R = searched_as (one_task _ (replicate 104 0) gr.nested refl fb.len refl c.left_alone.ensures)
    c.solve-first.ensures.solving in
    let solved = solved_said c.in-Solved.is _ in
    let Q₁ = searched_past c.past-h.ensures c.past_with.ensures.value
    (searched_as (one_task _ (replicate 104 0) gr.nested refl (with_len _ _ c.past_with.ensures.value) refl
    c.right_alone.ensures) c.solve-second.ensures.solving) in
    either_raise_asks _ _ _ fb turn _ R _ solved _ Q₁ (stuck_said c.in-Stuck.is _) c.if-w-b.false

pub both_ways-loop-first-smaller : goal.both_ways-loop-first-smaller
both_ways-loop-first-smaller g t c =
    let turn = c.loop-first.invariant.0 in
    let gr = c.requires.goal_ready.0.0 in
    let fb = c.requires.goal_ready.0.1 in
    let R = searched_as (one_task _ (replicate 104 0) gr.nested refl fb.len refl c.left_alone.ensures)
    c.solve-first.ensures.solving in
    let solved = solved_said c.in-Solved.is _ in
    let Q₁ = searched_past c.past-h.ensures c.past_with.ensures.value
    (searched_as (one_task _ (replicate 104 0) gr.nested refl (with_len _ _ c.past_with.ensures.value) refl
    c.right_alone.ensures) c.solve-second.ensures.solving) in
    either_falls _ _ _ fb turn _ R _ solved _ Q₁ (stuck_said c.in-Stuck.is _) c.if-w-b.false _
    c.raise-g.ensures.value c.raise-g.ensures.by_index

pub both_ways-loop-first-preserved : goal.both_ways-loop-first-preserved
both_ways-loop-first-preserved g t c =
    let rd = c.requires.ready in
    let turn = c.loop-first.invariant.0 in
    let kit = c.loop-first.invariant.1 in
    let gr = c.requires.goal_ready.0.0 in
    let fb = c.requires.goal_ready.0.1 in
    let R = searched_as (one_task _ (replicate 104 0) gr.nested refl fb.len refl c.left_alone.ensures)
    c.solve-first.ensures.solving in
    let solved = solved_said c.in-Solved.is _ in
    let Q₁ = searched_past c.past-h.ensures c.past_with.ensures.value
    (searched_as (one_task _ (replicate 104 0) gr.nested refl (with_len _ _ c.past_with.ensures.value) refl
    c.right_alone.ensures) c.solve-second.ensures.solving) in
    let kept = either-nodes-on _ _ _ fb turn _ R _ solved _ Q₁ in (
      either_again _ _ _ fb turn _ R _ solved _ Q₁ (stuck_said c.in-Stuck.is _) c.if-w-b.false _
          c.raise-g.ensures.value c.raise-g.ensures.by_index,
      equipped_on kit kept rd.scoped c.solve-second.ensures.stays,
    )

pub both_ways-returns-in-Tired : goal.both_ways-returns-in-Tired
unfolding answer_in
both_ways-returns-in-Tired g t c =
    let rd = c.requires.ready in
    let turn = c.loop-first.invariant.0 in
    let gr = c.requires.goal_ready.0.0 in
    let fb = c.requires.goal_ready.0.1 in
    let kd = c.requires.goal_ready.1 in
    let same_goal = ap (λ (G : Goal). task G c.args.n ∷ []) (either_goal rd.sound gr (replicate 104 0) refl kd) in
    let R = searched_as (one_task _ (replicate 104 0) gr.nested refl fb.len refl c.left_alone.ensures)
    c.solve-first.ensures.solving in
    let solved = solved_said c.in-Solved.is _ in
    let Q₁ = searched_past c.past-h.ensures c.past_with.ensures.value
    (searched_as (one_task _ (replicate 104 0) gr.nested refl (with_len _ _ c.past_with.ensures.value) refl
    c.right_alone.ensures) c.solve-second.ensures.solving) in record {
      alone = searched_as (same_goal) (either_tired _ _ _ fb turn _ R _ solved _ Q₁);
      stays = stays_tired c.in-Tired.is c.solve-second.ensures.stays;
    }

pub choose-returns-then-b : goal.choose-returns-then-b
unfolding answer_in
choose-returns-then-b g t c =
    let rd = c.requires.ready in
    let q = c.requires.choice_ready in record { entering = choice_room rd q c.if-b.true; stays = stays_stuck _ c.requires.equipped }

pub choose-returns-in_default : goal.choose-returns-in_default
choose-returns-in_default g t c =
    let rd = c.requires.ready in
    let q = c.requires.choice_ready in
    let room = c.if-b.false in record {
      entering = left_told rd q (omega (arith, room)) c.first_at-first.ensures c.side-r.ensures.siding (unstuck _ c.in_default.not-Stuck _);
      stays = c.side-r.ensures.stays;
    }

pub choose-side-requires : goal.choose-side-requires
choose-side-requires g t c = λ κs within.
    let rd = c.requires.ready in
    let q = c.requires.choice_ready in
    let eq = c.requires.equipped in
    let number_is = c.decreases in
    let room = c.if-b.false in
    let S = c.side-r.ensures.siding in (
      omega (arith, number_is),
      (
        within,
        (
          ready_kept rd S.tape_kept S.node_kept S.head_kept,
          (
            (q, record { choice = inr refl; room = omega (arith, room) }),
            equipped_on eq S.node_kept rd.scoped c.side-r.ensures.stays,
          ),
        ),
      ),
    )

pub choose-returns : goal.choose-returns
choose-returns g t c =
    let rd = c.requires.ready in
    let q = c.requires.choice_ready in
    let room = c.if-b.false in record {
      entering = right_told rd q (omega (arith, room)) c.first_at-first.ensures c.side-r.ensures.siding
          (stuck_said c.in-Stuck.is _) c.side.ensures.siding;
      stays = c.side.ensures.stays;
    }

pub enter-push-p-requires : goal.enter-push-p-requires
enter-push-p-requires g t c =
    let rd = c.requires.ready in
    let q = rw c.if-meets.true at c.requires.part_ready in let room = clause_room rd q in record {
      sound = rd.sound;
      a_clause = room.0;
      nest_bound = room.1.0;
      room = room.1.1.0;
    }

pub enter-put-requires : goal.enter-put-requires
enter-put-requires g t c =
    let rd = c.requires.ready in
    let q = rw c.if-meets.false at c.requires.part_ready in goal_room rd q

pub enter-longer-requires : goal.enter-longer-requires
enter-longer-requires g t c =
    let rd = c.requires.ready in
    let q = rw c.if-meets.false at c.requires.part_ready in record { len_bound = (goal_room rd q).0; counted = rd.counted }

pub enter-solve-requires-2 : goal.enter-solve-requires-2
enter-solve-requires-2 g t c = λ κs within.
    let rd = c.requires.ready in
    let q = rw c.if-meets.false at c.requires.part_ready in
    let asked = goal_call rd q _ c.put.ensures _ c.longer.ensures.value t c.decreases in
    (asked.0, (within, (asked.1.0, (asked.1.1, (equipped_at (ap (λ (x : Branch). x.count) c.longer.ensures.value) c.requires.equipped, count_is_scan asked.1.0)))))

pub enter-returns : goal.enter-returns
enter-returns g t c =
    let rd = c.requires.ready in
    let q = rw c.if-meets.false at c.requires.part_ready in record {
      entering = rw c.if-meets.false (goal_told rd q _ c.put.ensures _ c.longer.ensures.value c.solve-2.ensures.solving);
      stays = c.solve-2.ensures.stays;
    }

pub last-returns-in_default : goal.last-returns-in_default
last-returns-in_default g t c = record {
  alone = own_unsolved (searched_at c.own.ensures.value c.part-r.ensures.alone) (unsolved _ c.in_default.not-Solved _);
  stays = c.part-r.ensures.stays;
}

pub last-returns : goal.last-returns
unfolding answer_in
last-returns g t c =
    let solved = solved_said c.in-Solved.is _ in record {
      alone = rw c.joined-self.ensures (own_solved _ (searched_at c.own.ensures.value c.part-r.ensures.alone) solved);
      stays = stays_solved c.part-r.ensures.stays;
    }

-- the prunings stay stocked past the entering
opened_equipped : {bs waits tape nodes heads nodes' heads' agenda agenda' : List ℕ} {A : Type 0} {f : Floor} {goal n : ℕ}
    {b d : Branch} → Ready bs waits tape nodes heads f b → GoalReady bs goal n b → Fresh b → kind_at bs goal ≡ 6
    → Equipped bs nodes b.count A → InsideOpened bs nodes nodes' heads heads' agenda agenda' goal n b d
    → Equipped bs nodes' d.count A
opened_equipped rd gr fb kd eq (lends k en hd ea ec) =
    equipped_at (ap (λ (x : Branch). x.count) ec)
    (equipped_lent eq (goal_low rd.sound gr) k (lent_count rd gr fb kd) rd.entered.node_room rd.scoped refl en)

pub lent-open-c-requires : goal.lent-open-c-requires
lent-open-c-requires g t c =
    let rd = c.requires.ready in
    let gr = c.requires.goal_ready.0.0 in
    let fb = c.requires.goal_ready.0.1 in
    let kd = c.requires.goal_ready.1 in opening rd gr fb kd

pub lent-solve-r-requires : goal.lent-solve-r-requires
lent-solve-r-requires g t c = λ κs within.
    let rd = c.requires.ready in
    let gr = c.requires.goal_ready.0.0 in
    let fb = c.requires.goal_ready.0.1 in
    let kd = c.requires.goal_ready.1 in
    let eq = c.requires.equipped in
    let number_is = c.decreases in
    let o = c.open-c.ensures in
    let asked = opened_asks rd gr fb kd (replicate 104 0) refl o in
    (omega (arith, asked.0, number_is), (within, (asked.1.0, (asked.1.1, (opened_equipped rd gr fb kd eq o, count_is_scan asked.1.0)))))

pub lent-returns-in_default : goal.lent-returns-in_default
lent-returns-in_default g t c =
    let rd = c.requires.ready in
    let gr = c.requires.goal_ready.0.0 in
    let fb = c.requires.goal_ready.0.1 in
    let kd = c.requires.goal_ready.1 in record {
      alone = opened_unsolved rd gr fb kd (replicate 104 0) refl c.open-c.ensures c.solve-r.ensures.solving
          (unsolved _ c.in_default.not-Solved _);
      stays = c.solve-r.ensures.stays;
    }

pub lent-returns : goal.lent-returns
unfolding answer_in
lent-returns g t c =
    let rd = c.requires.ready in
    let gr = c.requires.goal_ready.0.0 in
    let fb = c.requires.goal_ready.0.1 in
    let kd = c.requires.goal_ready.1 in
    let solved = solved_said c.in-Solved.is _ in record {
      alone = rw c.close.ensures (opened_solved rd gr fb kd (replicate 104 0) refl _ c.open-c.ensures c.solve-r.ensures.solving solved);
      stays = stays_solved c.solve-r.ensures.stays;
    }

pub need-nest-n-requires : goal.need-nest-n-requires
need-nest-n-requires g t c =
    let rd = c.requires.ready in
    let q = c.requires.name_next in
    top_inside rd q

pub need-returns-then-n-eq0 : goal.need-returns-then-n-eq0
unfolding answer_in
need-returns-then-n-eq0 g t c =
    let rd = c.requires.ready in
    let q = c.requires.name_next in
    let eq = c.requires.equipped in record { solving = unnested rd q (sym c.nest-n.ensures ∙ c.if-n-eq0.true); stays = stays_stuck _ eq }

pub need-returns-then-b : goal.need-returns-then-b
unfolding answer_in
need-returns-then-b g t c =
    let rd = c.requires.ready in
    let q = c.requires.name_next in
    let eq = c.requires.equipped in record { solving = roomless rd q c.if-b.true; stays = stays_stuck _ eq }

pub need-doomed-dead-requires : goal.need-doomed-dead-requires
need-doomed-dead-requires g t c =
    let rd = c.requires.ready in
    let q = c.requires.name_next in
    let eq = c.requires.equipped in record { prune_asks = asks rd q eq.rooted; stocked = eq.stocked }

pub need-returns-then-dead : goal.need-returns-then-dead
unfolding answer_in
need-returns-then-dead g t c =
    let rd = c.requires.ready in
    let q = c.requires.name_next in
    let eq = c.requires.equipped in record { solving = doomed_told rd q (c.doomed-dead.ensures c.if-dead.true); stays = stays_stuck _ eq }

pub need-others-requires : goal.need-others-requires
need-others-requires g t c = λ κs within.
    let rd = c.requires.ready in
    let q = c.requires.name_next in
    let eq = c.requires.equipped in
    let number_is = c.decreases in
    let N = name_open q _ c.nest-n.ensures c.if-n-eq0.false c.if-b.false in
    (omega arith, (within, (rd, ((N, c.first_at-first.ensures), eq))))

pub one_of-node-goal-requires : goal.one_of-node-goal-requires
one_of-node-goal-requires g t c =
    let rd = c.requires.ready in
    let q = c.requires.one_of_next in
    top_within c.args.b rd.sound q.laid q.some

pub one_of-nest-n-requires : goal.one_of-nest-n-requires
one_of-nest-n-requires g t c =
    let rd = c.requires.ready in
    let q = c.requires.one_of_next in
    top_within c.args.b rd.sound q.laid q.some

pub others-left-name-requires : goal.others-left-name-requires
others-left-name-requires g t c =
    let rd = c.requires.ready in
    let step = c.requires.name_open.0 in
    name_here rd step.next _ c.node.ensures

pub others-loop-e-init : goal.others-loop-e-init
others-loop-e-init g t c =
    let rd = c.requires.ready in
    let eq = c.requires.equipped in
    let least = c.requires.name_open.1 in
    (round_start rd least _ refl, eq)

pub others-seek-next-requires : goal.others-seek-next-requires
others-seek-next-requires g t c =
    let rd = c.requires.ready in
    let step = c.requires.name_open.0 in
    let turn = c.loop-e.invariant.0 in
    testing (round_ready rd step turn)

pub others-dead_end-tired-requires : goal.others-dead_end-tired-requires
others-dead_end-tired-requires g t c =
    let rd = c.requires.ready in
    let step = c.requires.name_open.0 in
    let least = c.requires.name_open.1 in
    let turn = c.loop-e.invariant.0 in
    let kit = c.loop-e.invariant.1 in
    let name = name_of step.next _ _ c.left-name.ensures.0 c.node.ensures in
    let none = round_ends rd step _ name _ c.seek-next.ensures turn c.in_default.is in
    let k = round_kept rd step turn in record {
      prune_asks = asks (round_ready rd step turn) step.next kit.rooted;
      stocked = kit.stocked;
      barren_in = λ o. dead_barren _ rd least k.1.0 none (sym c.unfloored.ensures ∙ o);
    }

pub others-returns-in_default : goal.others-returns-in_default
others-returns-in_default g t c =
    let rd = c.requires.ready in
    let step = c.requires.name_open.0 in
    let turn = c.loop-e.invariant.0 in
    let kit = c.loop-e.invariant.1 in
    let name = name_of step.next _ _ c.left-name.ensures.0 c.node.ensures in
    let none = round_ends rd step _ name _ c.seek-next.ensures turn c.in_default.is in record {
      solving = rw c.given_up.ensures (dead_told _ _ c.dead_end-tired.result none);
      stays = rw c.given_up.ensures (stays_dead c.dead_end-tired.result c.dead_end-tired.ensures.stocked c.dead_end-tired.ensures.first_run);
    }

pub others-use_clause-r-requires : goal.others-use_clause-r-requires
others-use_clause-r-requires g t c = λ κs within.
    let rd = c.requires.ready in
    let number_is = c.decreases in
    let step = c.requires.name_open.0 in
    let turn = c.loop-e.invariant.0 in
    let kit = c.loop-e.invariant.1 in
    let name = name_of step.next _ _ c.left-name.ensures.0 c.node.ensures in
    let seen = seek_at step _ _ _ _ name _ c.seek-next.ensures _ c.in-Some.is in
    let can = round_use step _ _ _ _ name _ c.seek-next.ensures _ c.in-Some.is in
    (omega arith, (within, (round_call rd step turn _ c.past.ensures, ((can, name), kit))))

pub others-returns-in-Solved : goal.others-returns-in-Solved
unfolding answer_in
others-returns-in-Solved g t c =
    let rd = c.requires.ready in
    let step = c.requires.name_open.0 in
    let least = c.requires.name_open.1 in
    let turn = c.loop-e.invariant.0 in
    let name = name_of step.next _ _ c.left-name.ensures.0 c.node.ensures in
    let seen = seek_at step _ _ _ _ name _ c.seek-next.ensures _ c.in-Some.is in
    let X = solved_using c.use_clause-r.ensures.using (solved_said c.in-Solved.is _) in record {
      solving = round_found rd step least turn seen _ _ c.keeps-same.ensures c.past.ensures _ X _ c.follow.ensures;
      stays = stays_solved c.use_clause-r.ensures.stays;
    }

pub others-overflow_add-from : goal.others-overflow_add-from
others-overflow_add-from g t c =
    let rd = c.requires.ready in
    let step = c.requires.name_open.0 in
    let turn = c.loop-e.invariant.0 in
    let name = name_of step.next _ _ c.left-name.ensures.0 c.node.ensures in
    let can = round_use step _ _ _ _ name _ c.seek-next.ensures _ c.in-Some.is in
    let low = entry_byte (round_ready rd step turn) step.next can in search rules

pub others-loop-e-smaller : goal.others-loop-e-smaller
others-loop-e-smaller g t c =
    let step = c.requires.name_open.0 in
    let name = name_of step.next _ _ c.left-name.ensures.0 c.node.ensures in
    let can = round_use step _ _ _ _ name _ c.seek-next.ensures _ c.in-Some.is in
    let on = round_onward step _ _ _ _ name _ c.seek-next.ensures _ c.in-Some.is in
    omega (arith, can.inside)

pub others-loop-e-preserved : goal.others-loop-e-preserved
others-loop-e-preserved g t c =
    let rd = c.requires.ready in
    let eq = c.requires.equipped in
    let step = c.requires.name_open.0 in
    let least = c.requires.name_open.1 in
    let turn = c.loop-e.invariant.0 in
    let name = name_of step.next _ _ c.left-name.ensures.0 c.node.ensures in
    let seen = seek_at step _ _ _ _ name _ c.seek-next.ensures _ c.in-Some.is in
    let X = stuck_using c.use_clause-r.ensures.using (stuck_said c.in-Stuck.is _) in
    let next = round_next rd step least turn seen _ _ c.keeps-same.ensures c.past.ensures X _ refl in
    let stays = c.use_clause-r.ensures.stays in
    let k = round_kept rd step next in
    (next, equipped_on eq k.1.0 rd.scoped stays)

pub others-returns-in-Tired : goal.others-returns-in-Tired
unfolding answer_in
others-returns-in-Tired g t c =
    let rd = c.requires.ready in
    let step = c.requires.name_open.0 in
    let least = c.requires.name_open.1 in
    let turn = c.loop-e.invariant.0 in
    let name = name_of step.next _ _ c.left-name.ensures.0 c.node.ensures in
    let seen = seek_at step _ _ _ _ name _ c.seek-next.ensures _ c.in-Some.is in record {
      solving = round_tired rd step least turn seen _ _ c.keeps-same.ensures c.past.ensures c.use_clause-r.ensures.using;
      stays = stays_tired c.in-Tired.is c.use_clause-r.ensures.stays;
    }

pub side-returns-then-choice-first : goal.side-returns-then-choice-first
unfolding answer_in
side-returns-then-choice-first g t c =
    let rd = c.requires.ready in
    let q = c.requires.choice_ready in record { siding = side_under rd q.0 q.1 c.if-choice-first.true; stays = stays_stuck _ c.requires.equipped }

pub side-side-part-requires : goal.side-side-part-requires
side-side-part-requires g t c =
    let rd = c.requires.ready in
    let q = c.requires.choice_ready in
    choice_here rd.sound q.0

pub side-shut-requires : goal.side-shut-requires
side-shut-requires g t c =
    let rd = c.requires.ready in
    let q = c.requires.choice_ready in record { sound = rd.sound; part_value = λ m. side_clause rd.sound q.0 _ _ q.1.choice c.side-part.ensures m }

pub side-returns-then-shut : goal.side-returns-then-shut
unfolding answer_in
side-returns-then-shut g t c =
    let rd = c.requires.ready in
    let q = c.requires.choice_ready in
    let l = c.if-choice-first.false in
    let h = sym c.shut.ensures ∙ c.if-shut.true in record {
      siding = side_shut rd q.0 q.1 l c.side-part.ensures h;
      stays = stays_stuck _ c.requires.equipped;
    }

pub side-enter-r-requires : goal.side-enter-r-requires
side-enter-r-requires g t c = λ κs within.
    let rd = c.requires.ready in
    let q = c.requires.choice_ready in
    let h = sym c.shut.ensures ∙ c.if-shut.false in
    let asked = side_call rd q.0 q.1 c.if-choice-first.false c.side-part.ensures _ _ c.keeps-same.ensures c.past.ensures _
    c.chose.ensures.value h t c.decreases in
    (asked.0, (within, (asked.1.0, (asked.1.1, equipped_at (ap (λ (x : Branch). x.count) c.chose.ensures.value) c.requires.equipped))))

pub side-returns-in_default : goal.side-returns-in_default
side-returns-in_default g t c =
    let rd = c.requires.ready in
    let q = c.requires.choice_ready in record {
      siding = side_unsolved rd q.0 q.1 c.if-choice-first.false c.side-part.ensures _ _ c.keeps-same.ensures c.past.ensures _
          c.chose.ensures.value c.enter-r.ensures.entering (unsolved _ c.in_default.not-Solved _);
      stays = c.enter-r.ensures.stays;
    }

pub side-returns : goal.side-returns
unfolding answer_in
side-returns g t c =
    let rd = c.requires.ready in
    let q = c.requires.choice_ready in record {
      siding = side_solved rd q.0 q.1 c.if-choice-first.false c.side-part.ensures _ _ c.keeps-same.ensures c.past.ensures _
          c.chose.ensures.value c.enter-r.ensures.entering _ _ (solved_said c.in-Solved.is _) c.follow.ensures;
      stays = stays_solved c.enter-r.ensures.stays;
    }

pub solve-returns-then-c-eq0 : goal.solve-returns-then-c-eq0
solve-returns-then-c-eq0 g t c =
    let rd = c.requires.ready in
    let eq = c.requires.equipped in
    let u = c.unwind-c.ensures.unwound in record {
      solving = unwound_searched u
          (closed_searched (unwound_ready u rd) c.closed.ensures.words _ c.if-c-eq0.true c.closed.ensures.answer);
      stays = awake_stays _ eq c.closed.ensures.awake;
    }

pub solve-node-requires : goal.solve-node-requires
solve-node-requires g t c =
    let rd = c.requires.ready in
    let u = c.unwind-c.ensures.unwound in
    let some = c.if-c-eq0.false in
    top_within c.unwind-c.result rd.sound u.laid (omega arith)

pub use_clause-overflow_cast-self : goal.use_clause-overflow_cast-self
use_clause-overflow_cast-self g t c =
    let rd = c.requires.ready in
    let can = c.requires.can_use.0 in
    let low = entry_byte rd can.step.next can in search rules

pub use_clause-offset_bounds-self-e : goal.use_clause-offset_bounds-self-e
use_clause-offset_bounds-self-e g t c =
    let rd = c.requires.ready in
    let can = c.requires.can_use.0 in
    let low = entry_byte rd can.step.next can in omega arith

pub use_clause-bounds-self-e : goal.use_clause-bounds-self-e
use_clause-bounds-self-e g t c =
    let rd = c.requires.ready in
    let can = c.requires.can_use.0 in
    let low = entry_byte rd can.step.next can in search rules

pub use_clause-push-p-requires : goal.use_clause-push-p-requires
use_clause-push-p-requires g t c =
    let rd = c.requires.ready in
    let can = c.requires.can_use.0 in let room = use_room rd can.step.next can _ _ _ _ _ _ refl c.inner-n.ensures c.requires.can_use.1 refl refl refl in record {
      sound = rd.sound;
      a_clause = room.0;
      nest_bound = room.1.0;
      room = room.1.1.0;
    }

pub enter-kind_of-requires : goal.enter-kind_of-requires
enter-kind_of-requires g t c =
    let rd = c.requires.ready in
    let q = rw c.if-meets.true at c.requires.part_ready in
    core_here rd q c.push-p.ensures

pub enter-choose-requires : goal.enter-choose-requires
enter-choose-requires g t c = λ κs within.
    let rd = c.requires.ready in
    let q = rw c.if-meets.true at c.requires.part_ready in
    let asked = menu_call rd q c.push-p.ensures c.in-Menu.ensures _ c.sized-c.ensures.value t c.decreases in
    (asked.0, (within, (asked.1.0, (asked.1.1, equipped_at (ap (λ (x : Branch). x.count) c.sized-c.ensures.value) c.requires.equipped))))

pub enter-solve-requires : goal.enter-solve-requires
enter-solve-requires g t c = λ κs within.
    let rd = c.requires.ready in
    let q = rw c.if-meets.true at c.requires.part_ready in
    let asked = head_call rd q c.push-p.ensures (λ k. omega (arith, k, c.in-Atom.ensures)) _ c.sized-c.ensures.value t c.decreases in (
      asked.0,
      (
        within,
        (
          asked.1.0,
          (
            asked.1.1,
            (equipped_at (ap (λ (x : Branch). x.count) c.sized-c.ensures.value) c.requires.equipped, count_is_scan asked.1.0),
          ),
        ),
      ),
    )

pub enter-returns-in-Menu-clause-entering : goal.enter-returns-in-Menu-clause-entering
enter-returns-in-Menu-clause-entering g t c =
    let rd = c.requires.ready in
    let q = rw c.if-meets.true at c.requires.part_ready in
    rw c.if-meets.true (menu_told rd q c.push-p.ensures c.in-Menu.ensures _ c.sized-c.ensures.value c.choose.ensures.entering)

pub enter-returns-in-Atom-clause-entering : goal.enter-returns-in-Atom-clause-entering
enter-returns-in-Atom-clause-entering g t c =
    let rd = c.requires.ready in
    let q = rw c.if-meets.true at c.requires.part_ready in
    rw c.if-meets.true (head_told rd q c.push-p.ensures (λ k. omega (arith, k, c.in-Atom.ensures)) _ c.sized-c.ensures.value
    c.solve.ensures.solving)

pub enter-unreachable-requires : goal.enter-unreachable-requires
enter-unreachable-requires g t c =
    let q = rw c.if-meets.true at c.requires.part_ready in
    grind (arith, c.kind_of.ensures, c.in-Top.is, core_kinds c.requires.ready q c.push-p.ensures)

pub one_of-kind_of-requires : goal.one_of-kind_of-requires
one_of-kind_of-requires g t c =
    let rd = c.requires.ready in
    let q = c.requires.one_of_next in
    rw c.node-goal.ensures (top_here c.args.b rd.sound q.laid q.some)

pub one_of-choose-requires : goal.one_of-choose-requires
one_of-choose-requires g t c = λ κs within.
    let rd = c.requires.ready in
    let q = c.requires.one_of_next in
    let asked = one_of_call rd q _ c.node-goal.ensures _ c.nest-n.ensures (λ k. grind (arith, c.kind_of.ensures, c.in-Oplus.is, k)) _
    c.dropped.ensures.value t c.decreases in
    (asked.0, (within, (asked.1.0, (asked.1.1, equipped_at (ap (λ (x : Branch). x.count) c.dropped.ensures.value) c.requires.equipped))))

pub one_of-returns-in-Oplus-clause-solving : goal.one_of-returns-in-Oplus-clause-solving
one_of-returns-in-Oplus-clause-solving g t c =
    let rd = c.requires.ready in
    let q = c.requires.one_of_next in
    one_of_told rd q _ c.node-goal.ensures _ c.nest-n.ensures (λ k. grind (arith, c.kind_of.ensures, c.in-Oplus.is, k)) _ c.dropped.ensures.value
    c.choose.ensures.entering

pub one_of-returns-in-Zero : goal.one_of-returns-in-Zero
unfolding answer_in
one_of-returns-in-Zero g t c =
    record {
      solving = never_told c.requires.ready c.requires.one_of_next _ c.node-goal.ensures c.in-Zero.ensures;
      stays = stays_stuck _ c.requires.equipped;
    }

pub one_of-unreachable-requires : goal.one_of-unreachable-requires
one_of-unreachable-requires g t c =
    grind (
      arith,
      c.kind_of.ensures,
      c.in-Atom.is,
      one_of_kinds c.requires.ready c.requires.one_of_next _ c.node-goal.ensures,
    )

pub part-kind_of-requires : goal.part-kind_of-requires
part-kind_of-requires g t c =
    let rd = c.requires.ready in
    node_here rd.sound c.args.goal (goal_low rd.sound c.requires.goal_ready.0)

pub part-unreachable-requires : goal.part-unreachable-requires
part-unreachable-requires g t c =
    let q = c.requires.goal_ready.0 in
    grind (arith, c.kind_of.ensures, c.in-Atom.is, q.kind, part_kind c.requires.ready.sound q)

pub solve-kind_of-requires : goal.solve-kind_of-requires
solve-kind_of-requires g t c =
    let rd = c.requires.ready in
    let u = c.unwind-c.ensures.unwound in
    let some = c.if-c-eq0.false in
    let here = top_here c.unwind-c.result rd.sound u.laid (omega arith) in
    rw c.node.ensures here

pub solve-need-requires : goal.solve-need-requires
solve-need-requires g t c = λ κs within.
    let rd = c.requires.ready in
    let number_is = c.decreases in
    let u = c.unwind-c.ensures.unwound in
    let some = c.if-c-eq0.false in
    let falls = unwound_number u in (
      omega (arith, falls, number_is),
      (
        within,
        (
          unwound_ready u rd,
          (
            name_next u.laid c.unwind-c.ensures.opened (omega arith) (ap (kind_at c.args.job.now.card.now) c.node.ensures) c.in-Atom.ensures,
            equipped_at u.same_count c.requires.equipped,
          ),
        ),
      ),
    )

pub solve-behind-requires : goal.solve-behind-requires
solve-behind-requires g t c = λ κs within.
    let rd = c.requires.ready in
    let number_is = c.decreases in
    let u = c.unwind-c.ensures.unwound in
    let some = c.if-c-eq0.false in
    let falls = unwound_number u in (
      omega (arith, falls, number_is),
      (
        within,
        (
          unwound_ready u rd,
          (
            part_next u.laid c.unwind-c.ensures.opened (omega arith) (ap (kind_at c.args.job.now.card.now) c.node.ensures)
                (grind (arith, c.kind_of.ensures, c.in-With.is)) (grind (arith, c.kind_of.ensures, c.in-With.is)),
            equipped_at u.same_count c.requires.equipped,
          ),
        ),
      ),
    )

pub solve-one_of-requires : goal.solve-one_of-requires
solve-one_of-requires g t c = λ κs within.
    let rd = c.requires.ready in
    let number_is = c.decreases in
    let u = c.unwind-c.ensures.unwound in
    let some = c.if-c-eq0.false in
    let falls = unwound_number u in (
      omega (arith, falls, number_is),
      (
        within,
        (
          unwound_ready u rd,
          (
            one_of_next u.laid c.unwind-c.ensures.opened (omega arith) (ap (kind_at c.args.job.now.card.now) c.node.ensures)
                (grind (arith, c.kind_of.ensures, c.in-Oplus.is)),
            equipped_at u.same_count c.requires.equipped,
          ),
        ),
      ),
    )

pub solve-returns-in-Atom-clause-solving : goal.solve-returns-in-Atom-clause-solving
solve-returns-in-Atom-clause-solving g t c = unwound_searched c.unwind-c.ensures.unwound c.need.ensures.solving

pub solve-returns-in-With-clause-solving : goal.solve-returns-in-With-clause-solving
solve-returns-in-With-clause-solving g t c = unwound_searched c.unwind-c.ensures.unwound c.behind.ensures.solving

pub solve-returns-in-Oplus-clause-solving : goal.solve-returns-in-Oplus-clause-solving
solve-returns-in-Oplus-clause-solving g t c = unwound_searched c.unwind-c.ensures.unwound c.one_of.ensures.solving

pub solve-unreachable-requires : goal.solve-unreachable-requires
solve-unreachable-requires g t c =
    let u = c.unwind-c.ensures.unwound in
    let some = c.if-c-eq0.false in
    grind (
      arith,
      c.kind_of.ensures,
      c.in-Top.is,
      open_kind _ u.laid c.unwind-c.ensures.opened (omega arith) (ap (kind_at c.args.job.now.card.now) c.node.ensures),
    )

pub use_clause-kind_of-requires : goal.use_clause-kind_of-requires
use_clause-kind_of-requires g t c =
    let rd = c.requires.ready in
    let can = c.requires.can_use.0 in
    use_core rd can.step.next can _ _ _ _ _ _ refl c.inner-n.ensures c.requires.can_use.1 refl refl refl c.push-p.ensures

pub use_clause-choose-requires : goal.use_clause-choose-requires
use_clause-choose-requires g t c = λ κs within.
    let rd = c.requires.ready in
    let can = c.requires.can_use.0 in
    let asked = use_menu_call rd can.step.next can _ _ _ _ _ _ refl c.inner-n.ensures c.requires.can_use.1 refl
    c.byte.ensures.0 c.byte-2.ensures.0 c.push-p.ensures _ c.using-c.ensures.value c.in-Menu.ensures t c.decreases in
    (asked.0, (within, (asked.1.0, (asked.1.1, equipped_at (using_count _ _ _ _ _ _ c.using-c.ensures.value) c.requires.equipped))))

pub use_clause-solve-requires : goal.use_clause-solve-requires
use_clause-solve-requires g t c = λ κs within.
    let rd = c.requires.ready in
    let can = c.requires.can_use.0 in
    let asked = use_head_call rd can.step.next can _ _ _ _ _ _ refl c.inner-n.ensures c.requires.can_use.1 refl
    c.byte.ensures.0 c.byte-2.ensures.0 c.push-p.ensures _ c.using-c.ensures.value
    (λ k. omega (arith, k, c.in-Atom.ensures)) t c.decreases in (
      asked.0,
      (
        within,
        (
          asked.1.0,
          (
            asked.1.1,
            (equipped_at (using_count _ _ _ _ _ _ c.using-c.ensures.value) c.requires.equipped, count_is_scan asked.1.0),
          ),
        ),
      ),
    )

pub use_clause-returns-in-Menu-clause-using : goal.use_clause-returns-in-Menu-clause-using
use_clause-returns-in-Menu-clause-using g t c =
    let rd = c.requires.ready in
    let can = c.requires.can_use.0 in
    use_menu_told rd can.step.next can _ _ _ _ _ _ refl c.inner-n.ensures c.requires.can_use.1 refl
    c.byte.ensures.0 c.byte-2.ensures.0 c.push-p.ensures _ c.using-c.ensures.value c.in-Menu.ensures c.choose.ensures.entering

pub use_clause-returns-in-Atom-clause-using : goal.use_clause-returns-in-Atom-clause-using
use_clause-returns-in-Atom-clause-using g t c =
    let rd = c.requires.ready in
    let can = c.requires.can_use.0 in
    use_head_told rd can.step.next can _ _ _ _ _ _ refl c.inner-n.ensures c.requires.can_use.1 refl
    c.byte.ensures.0 c.byte-2.ensures.0 c.push-p.ensures _ c.using-c.ensures.value
    (λ k. omega (arith, k, c.in-Atom.ensures)) c.solve.ensures.solving

pub use_clause-unreachable-requires : goal.use_clause-unreachable-requires
use_clause-unreachable-requires g t c =
    let can = c.requires.can_use.0 in
    grind (
      arith,
      c.kind_of.ensures,
      c.in-Top.is,
      use_kinds c.requires.ready can.step.next can _ _ _ _ _ _ refl c.inner-n.ensures c.requires.can_use.1 refl refl refl c.push-p.ensures,
    )
