-- The walk by its connectives: each call is ready, and each answer tells of the part walked. Nesting left, steps left and formula
-- size fall.
use Rattle.std.proofs.Common.{◌≡◌, refl, sym, ap, ◌∙◌, arith, ℕ, Bool, true, false, List}
use Rattle.std.proofs.lemmas.Result.{err_from_is_err_and}
use mathlib.Core.Logic.{inl, inr}
use Rattle.calculus.specs.Formula.{topᴳ, oneᴳ, usable}
use Rattle.calculus.proofs.SurelyByList.{traced_1, traced_⊤}
use Rattle.card.specs.Format.{left_at, right_at}
use Rattle.card.specs.Decode.{clause_of, scope_of}
use Rattle.card.proofs.NodesDecoded.{reads_rest, reads_done}
use Rattle.card.proofs.SoundNodes.{goal_kind}
use Rattle.walk.proofs.CallsAreReady.{Fitting, entry_room, first_lost, run_lost, run_tensor, run_with, goal_here}
use Rattle.walk.proofs.CallsAreReady.{done_ends, never_ends, left_call, right_call, tensor_parts, with_parts, tensor_both}
use Rattle.walk.proofs.CallsAreReady.{tensor_joins, with_both, with_joins, put_room, lend_call, lend_lost, lend_done, one_of_lost}
use Rattle.walk.proofs.CallsAreReady.{one_of_room, one_of_call, one_of_done, atom_lost, atom_call, atom_done, clause_here, head_ends}
use Rattle.walk.proofs.CallsAreReady.{usable_kind, recipe_both, recipe_joins, recipe_call, condition_call, menu_clauses}
use Rattle.walk.proofs.CallsAreReady.{menu_lost, menu_room, menu_call, menu_done, use_call, use_lost, rule_done, met_room, item_done, item_low}
use Rattle.walk.proofs.+walk_list.Goals as goal

pub clause-kind-requires : goal.clause-kind-requires
clause-kind-requires t c = clause_here c.requires.walk_ready _ _ c.requires.clause_ready

pub clause-returns-then-kind-eq1 : goal.clause-returns-then-kind-eq1
clause-returns-then-kind-eq1 t c =
    head_ends c.requires.walk_ready _ _ c.requires.clause_ready (sym c.kind.ensures.0 ∙ c.if-kind-eq1.true) _ c.ended.ensures

pub conditions-kind_of-requires : goal.conditions-kind_of-requires
conditions-kind_of-requires t c = clause_here c.requires.walk_ready _ _ c.requires.clause_ready

pub conditions-returns-in-Atom : goal.conditions-returns-in-Atom
conditions-returns-in-Atom t c =
    head_ends c.requires.walk_ready _ _ c.requires.clause_ready c.in-Atom.ensures _ c.ended.ensures

pub conditions-recipe-requires : goal.conditions-recipe-requires
conditions-recipe-requires t c =
    (omega (arith, c.decreases), (c.requires.walk_ready, (c.requires.clause_ready, c.in-Recipe.ensures)))

pub conditions-unreachable-requires : goal.conditions-unreachable-requires
conditions-unreachable-requires t c =
    grind (arith, c.kind_of.ensures, c.in-Top.is, usable_kind c.requires.walk_ready _ _ c.requires.clause_ready)

pub menu-left-requires : goal.menu-left-requires
menu-left-requires t c = clause_here c.requires.walk_ready _ _ c.requires.clause_ready

pub menu-usable-first-requires-clause-node_value : goal.menu-usable-first-requires-clause-node_value
menu-usable-first-requires-clause-node_value t c =
    rw c.left.ensures.0 (menu_clauses c.requires.walk_ready _ _ c.requires.clause_ready c.requires.kind).0

pub menu-right-requires : goal.menu-right-requires
menu-right-requires t c = clause_here c.requires.walk_ready _ _ c.requires.clause_ready

pub menu-usable-second-requires-clause-node_value : goal.menu-usable-second-requires-clause-node_value
menu-usable-second-requires-clause-node_value t c =
    rw c.right.ensures.0 (menu_clauses c.requires.walk_ready _ _ c.requires.clause_ready c.requires.kind).1

-- what the two tests of the parts say
tested : {bs : List ℕ} {name node l r : ℕ} {first second : Bool} → l ≡ left_at bs node → r ≡ right_at bs node
    → first ≡ usable (scope_of bs).fits name (clause_of bs l) → second ≡ usable (scope_of bs).fits name (clause_of bs r)
    → Fitting bs name node first second
tested {bs} {name} p q f s =
    let fits : ℕ → Bool = λ n. usable (scope_of bs).fits name (clause_of bs n) in
    record { left_fits = f ∙ ap fits p; right_fits = s ∙ ap fits q }

pub menu-next_side-requires-clause-node_in_bounds : goal.menu-next_side-requires-clause-node_in_bounds
menu-next_side-requires-clause-node_in_bounds t c = clause_here c.requires.walk_ready _ _ c.requires.clause_ready

pub menu-returns-in_err-side : goal.menu-returns-in_err-side
menu-returns-in_err-side t c =
    let p = err_from_is_err_and c.from_residual.result c.from_residual.ensures.1 in
    let fitting = tested c.left.ensures.0 c.right.ensures.0 c.usable-first.ensures c.usable-second.ensures in
    rw (p.1, p.2) (menu_lost c.requires.walk_ready _ _ c.requires.clause_ready c.requires.kind fitting c.in_err-side.ensures)

pub menu-stepped-requires : goal.menu-stepped-requires
menu-stepped-requires t c =
    let fitting = tested c.left.ensures.0 c.right.ensures.0 c.usable-first.ensures c.usable-second.ensures in
    menu_room c.requires.walk_ready _ _ c.requires.clause_ready c.requires.kind fitting _ c.in_ok-side.ensures

pub menu-conditions-requires : goal.menu-conditions-requires
menu-conditions-requires t c =
    let fitting = tested c.left.ensures.0 c.right.ensures.0 c.usable-first.ensures c.usable-second.ensures in
    menu_call c.requires.walk_ready _ _ c.requires.clause_ready c.requires.kind fitting _ c.in_ok-side.ensures _ c.stepped.ensures t
    c.decreases

pub menu-returns : goal.menu-returns
menu-returns t c =
    let fitting = tested c.left.ensures.0 c.right.ensures.0 c.usable-first.ensures c.usable-second.ensures in
    menu_done c.requires.walk_ready _ _ c.requires.clause_ready c.requires.kind fitting _ c.in_ok-side.ensures _ c.stepped.ensures
    c.conditions.ensures

pub recipe-right-requires : goal.recipe-right-requires
recipe-right-requires t c = clause_here c.requires.walk_ready _ _ c.requires.clause_ready

pub recipe-clause-requires : goal.recipe-clause-requires
recipe-clause-requires t c =
    recipe_call c.requires.walk_ready _ _ c.requires.clause_ready c.requires.kind t c.decreases _ c.right.ensures.0

pub recipe-returns-in_err-w : goal.recipe-returns-in_err-w
recipe-returns-in_err-w t c =
    let p = err_from_is_err_and c.from_residual.result c.from_residual.ensures.1 in
    rw (p.1, p.2) (first_lost c.requires.walk_ready
    (recipe_both c.requires.walk_ready _ _ c.requires.clause_ready c.requires.kind _ c.right.ensures.0 _ refl) c.in_err-w.ensures)

pub recipe-left-requires : goal.recipe-left-requires
recipe-left-requires t c = clause_here c.requires.walk_ready _ _ c.requires.clause_ready

pub recipe-walk-requires : goal.recipe-walk-requires
recipe-walk-requires t c =
    condition_call c.requires.walk_ready _ _ c.requires.clause_ready c.requires.kind c.in_ok-w.ensures t c.decreases _
    c.left.ensures.0 _ c.on.ensures

pub recipe-returns-in_err-v : goal.recipe-returns-in_err-v
recipe-returns-in_err-v t c =
    let p = err_from_is_err_and c.from_residual-in_err-v.result c.from_residual-in_err-v.ensures.1 in
    rw (p.1, p.2) (run_lost c.requires.walk_ready c.in_ok-w.ensures c.on.ensures c.in_err-v.ensures
    (recipe_both c.requires.walk_ready _ _ c.requires.clause_ready c.requires.kind _ c.right.ensures.0 _ c.left.ensures.0))

pub recipe-returns : goal.recipe-returns
recipe-returns t c =
    run_tensor c.requires.walk_ready c.in_ok-w.ensures c.on.ensures c.in_ok-v.ensures c.tensor.ensures.words.0 c.tensor.ensures.words.1
    refl c.tensor.ensures.value
    (recipe_joins c.requires.walk_ready _ _ c.requires.clause_ready c.requires.kind _ c.right.ensures.0 _ c.left.ensures.0)

pub use_clause-bounds-tables-e : goal.use_clause-bounds-tables-e
use_clause-bounds-tables-e t c = entry_room c.requires.walk_ready c.requires.step_usable.inside

pub use_clause-bounds-tables-e-2 : goal.use_clause-bounds-tables-e-2
use_clause-bounds-tables-e-2 t c = entry_room c.requires.walk_ready c.requires.step_usable.inside

pub use_clause-clause-requires : goal.use_clause-clause-requires
use_clause-clause-requires t c =
    use_call c.requires.walk_ready _ _ c.requires.step_usable c.requires.deep t c.decreases _ refl _ c.stepped.ensures

pub use_clause-returns-in_err-w : goal.use_clause-returns-in_err-w
use_clause-returns-in_err-w t c =
    let p = err_from_is_err_and c.from_residual.result c.from_residual.ensures.1 in
    rw (p.1, p.2) (use_lost c.requires.walk_ready _ _ c.requires.step_usable refl c.stepped.ensures c.in_err-w.ensures)

pub use_clause-overflow_sub-item : goal.use_clause-overflow_sub-item
use_clause-overflow_sub-item t c = item_low c.requires.walk_ready _ _ c.requires.step_usable c.if-gone.true

pub use_clause-using-requires : goal.use_clause-using-requires
use_clause-using-requires t c =
    met_room c.requires.walk_ready _ _ c.requires.step_usable refl c.stepped.ensures c.in_ok-w.ensures c.due.ensures

pub use_clause-returns-then-gone : goal.use_clause-returns-then-gone
use_clause-returns-then-gone t c =
    item_done c.requires.walk_ready _ _ c.requires.step_usable refl c.stepped.ensures c.in_ok-w.ensures c.due.ensures c.if-gone.true
    c.«using».ensures

pub use_clause-returns : goal.use_clause-returns
use_clause-returns t c =
    rule_done c.requires.walk_ready _ _ c.requires.step_usable refl c.stepped.ensures c.in_ok-w.ensures c.if-gone.false

pub walk-kind_of-requires : goal.walk-kind_of-requires
walk-kind_of-requires t c = goal_here c.requires.walk_ready _ c.requires.goal_walk_ready

pub walk-returns-in-Top : goal.walk-returns-in-Top
walk-returns-in-Top t c =
    done_ends c.requires.walk_ready _ c.requires.goal_walk_ready true topᴳ (reads_rest _ _ c.in-Top.ensures).0 (λ w e. traced_⊤ e) _
    c.ended.ensures

pub walk-returns-in-One : goal.walk-returns-in-One
walk-returns-in-One t c =
    done_ends c.requires.walk_ready _ c.requires.goal_walk_ready false oneᴳ (reads_done _ _ c.in-One.ensures) (λ w e. traced_1 e) _
    c.ended-in-One.ensures

pub walk-returns-in-Zero : goal.walk-returns-in-Zero
walk-returns-in-Zero t c =
    never_ends c.requires.walk_ready _ c.requires.goal_walk_ready c.in-Zero.ensures _ c.ended-in-Zero.ensures

pub walk-unreachable-requires : goal.walk-unreachable-requires
walk-unreachable-requires t c =
    grind (arith, c.kind_of.ensures, c.in-Recipe.is, goal_kind _ _ _ c.requires.goal_walk_ready.is_goal_part)

pub walk_atom-left-name-requires : goal.walk_atom-left-name-requires
walk_atom-left-name-requires t c = goal_here c.requires.walk_ready _ c.requires.goal_walk_ready

pub walk_atom-returns-in_err-e : goal.walk_atom-returns-in_err-e
walk_atom-returns-in_err-e t c =
    let p = err_from_is_err_and c.from_residual.result c.from_residual.ensures.1 in
    rw (p.1, p.2) (atom_lost c.requires.walk_ready _ c.requires.goal_walk_ready c.requires.kind _ c.left-name.ensures.0
    c.in_err-e.ensures)

pub walk_atom-use_clause-requires : goal.walk_atom-use_clause-requires
walk_atom-use_clause-requires t c =
    atom_call c.requires.walk_ready _ c.requires.goal_walk_ready c.requires.kind _ c.left-name.ensures.0 c.in_ok-e.ensures t c.decreases

pub walk_atom-returns : goal.walk_atom-returns
walk_atom-returns t c =
    atom_done c.requires.walk_ready _ c.requires.goal_walk_ready c.requires.kind _ c.left-name.ensures.0 c.use_clause.ensures

pub walk_lend-left-requires : goal.walk_lend-left-requires
walk_lend-left-requires t c = goal_here c.requires.walk_ready _ c.requires.goal_walk_ready

pub walk_lend-put-requires : goal.walk_lend-put-requires
walk_lend-put-requires t c = (put_room c.requires.walk_ready _ c.requires.goal_walk_ready c.requires.kind, c.left.ensures.1)

pub walk_lend-right-requires : goal.walk_lend-right-requires
walk_lend-right-requires t c = goal_here c.requires.walk_ready _ c.requires.goal_walk_ready

pub walk_lend-lent-requires : goal.walk_lend-lent-requires
walk_lend-lent-requires t c =
    let q = put_room c.requires.walk_ready _ c.requires.goal_walk_ready c.requires.kind in omega (arith, q)

pub walk_lend-walk-requires : goal.walk_lend-walk-requires
walk_lend-walk-requires t c =
    lend_call c.requires.walk_ready _ c.requires.goal_walk_ready c.requires.kind _ c.left.ensures.0 c.put.ensures _ c.lent.ensures t
    c.decreases _ c.right.ensures.0

pub walk_lend-returns-in_err-w : goal.walk_lend-returns-in_err-w
walk_lend-returns-in_err-w t c =
    let p = err_from_is_err_and c.from_residual.result c.from_residual.ensures.1 in
    rw (p.1, p.2) (lend_lost c.requires.walk_ready _ c.requires.goal_walk_ready c.requires.kind _ c.left.ensures.0 c.put.ensures _
    c.lent.ensures c.right.ensures.0 c.in_err-w.ensures)

pub walk_lend-returns : goal.walk_lend-returns
walk_lend-returns t c =
    lend_done c.requires.walk_ready _ c.requires.goal_walk_ready c.requires.kind _ c.left.ensures.0 c.put.ensures _ c.lent.ensures
    c.right.ensures.0 c.in_ok-w.ensures c.without.ensures

pub walk_one_of-next_side-requires-clause-node_in_bounds : goal.walk_one_of-next_side-requires-clause-node_in_bounds
walk_one_of-next_side-requires-clause-node_in_bounds t c = goal_here c.requires.walk_ready _ c.requires.goal_walk_ready

pub walk_one_of-returns-in_err-side : goal.walk_one_of-returns-in_err-side
walk_one_of-returns-in_err-side t c =
    let p = err_from_is_err_and c.from_residual.result c.from_residual.ensures.1 in
    rw (p.1, p.2) (one_of_lost c.requires.walk_ready _ c.requires.goal_walk_ready c.requires.kind c.in_err-side.ensures)

pub walk_one_of-stepped-requires : goal.walk_one_of-stepped-requires
walk_one_of-stepped-requires t c =
    one_of_room c.requires.walk_ready _ c.requires.goal_walk_ready c.requires.kind _ c.in_ok-side.ensures

pub walk_one_of-walk-requires : goal.walk_one_of-walk-requires
walk_one_of-walk-requires t c =
    one_of_call c.requires.walk_ready _ c.requires.goal_walk_ready c.requires.kind _ c.in_ok-side.ensures _ c.stepped.ensures t
    c.decreases

pub walk_one_of-returns : goal.walk_one_of-returns
walk_one_of-returns t c =
    one_of_done c.requires.walk_ready _ c.requires.goal_walk_ready c.requires.kind _ c.in_ok-side.ensures _ c.stepped.ensures
    c.walk.ensures

pub walk_tensor-left-requires : goal.walk_tensor-left-requires
walk_tensor-left-requires t c = goal_here c.requires.walk_ready _ c.requires.goal_walk_ready

pub walk_tensor-walk-requires : goal.walk_tensor-walk-requires
walk_tensor-walk-requires t c =
    let parts = tensor_parts c.requires.walk_ready _ c.requires.goal_walk_ready c.requires.kind in
    left_call c.requires.walk_ready _ c.requires.goal_walk_ready parts.0 parts.1 parts.2 parts.3 parts.4 t c.decreases _
    c.left.ensures.0

pub walk_tensor-returns-in_err-w : goal.walk_tensor-returns-in_err-w
walk_tensor-returns-in_err-w t c =
    let p = err_from_is_err_and c.from_residual.result c.from_residual.ensures.1 in
    rw (p.1, p.2) (first_lost c.requires.walk_ready
    (tensor_both c.requires.walk_ready _ c.requires.goal_walk_ready _ c.left.ensures.0 _ refl c.requires.kind) c.in_err-w.ensures)

pub walk_tensor-right-requires : goal.walk_tensor-right-requires
walk_tensor-right-requires t c = goal_here c.requires.walk_ready _ c.requires.goal_walk_ready

pub walk_tensor-walk-requires-2 : goal.walk_tensor-walk-requires-2
walk_tensor-walk-requires-2 t c =
    let parts = tensor_parts c.requires.walk_ready _ c.requires.goal_walk_ready c.requires.kind in
    right_call c.requires.walk_ready _ c.requires.goal_walk_ready parts.0 parts.1 parts.2 parts.3 parts.4 c.in_ok-w.ensures t
    c.decreases _ c.right.ensures.0 _ (inl refl) _ c.on.ensures

pub walk_tensor-returns-in_err-v : goal.walk_tensor-returns-in_err-v
walk_tensor-returns-in_err-v t c =
    let p = err_from_is_err_and c.from_residual-in_err-v.result c.from_residual-in_err-v.ensures.1 in
    rw (p.1, p.2) (run_lost c.requires.walk_ready c.in_ok-w.ensures c.on.ensures c.in_err-v.ensures
    (tensor_both c.requires.walk_ready _ c.requires.goal_walk_ready _ c.left.ensures.0 _ c.right.ensures.0 c.requires.kind))

pub walk_tensor-returns : goal.walk_tensor-returns
walk_tensor-returns t c =
    run_tensor c.requires.walk_ready c.in_ok-w.ensures c.on.ensures c.in_ok-v.ensures c.tensor.ensures.words.0 c.tensor.ensures.words.1
    refl c.tensor.ensures.value
    (tensor_joins c.requires.walk_ready _ c.requires.goal_walk_ready _ c.left.ensures.0 _ c.right.ensures.0 c.requires.kind)

pub walk_with-left-requires : goal.walk_with-left-requires
walk_with-left-requires t c = goal_here c.requires.walk_ready _ c.requires.goal_walk_ready

pub walk_with-walk-requires : goal.walk_with-walk-requires
walk_with-walk-requires t c =
    let parts = with_parts c.requires.walk_ready _ c.requires.goal_walk_ready c.requires.kind in
    left_call c.requires.walk_ready _ c.requires.goal_walk_ready parts.0 parts.1 parts.2 parts.3 parts.4 t c.decreases _
    c.left.ensures.0

pub walk_with-returns-in_err-w : goal.walk_with-returns-in_err-w
walk_with-returns-in_err-w t c =
    let p = err_from_is_err_and c.from_residual.result c.from_residual.ensures.1 in
    rw (p.1, p.2) (first_lost c.requires.walk_ready
    (with_both c.requires.walk_ready _ c.requires.goal_walk_ready _ c.left.ensures.0 _ refl c.requires.kind) c.in_err-w.ensures)

pub walk_with-right-requires : goal.walk_with-right-requires
walk_with-right-requires t c = goal_here c.requires.walk_ready _ c.requires.goal_walk_ready

pub walk_with-walk-requires-2 : goal.walk_with-walk-requires-2
walk_with-walk-requires-2 t c =
    let parts = with_parts c.requires.walk_ready _ c.requires.goal_walk_ready c.requires.kind in
    right_call c.requires.walk_ready _ c.requires.goal_walk_ready parts.0 parts.1 parts.2 parts.3 parts.4 c.in_ok-w.ensures t
    c.decreases _ c.right.ensures.0 _ (inr refl) _ c.on.ensures

pub walk_with-returns-in_err-v : goal.walk_with-returns-in_err-v
walk_with-returns-in_err-v t c =
    let p = err_from_is_err_and c.from_residual-in_err-v.result c.from_residual-in_err-v.ensures.1 in
    rw (p.1, p.2) (run_lost c.requires.walk_ready c.in_ok-w.ensures c.on.ensures c.in_err-v.ensures
    (with_both c.requires.walk_ready _ c.requires.goal_walk_ready _ c.left.ensures.0 _ c.right.ensures.0 c.requires.kind))

pub walk_with-returns : goal.walk_with-returns
walk_with-returns t c =
    run_with c.requires.walk_ready c.in_ok-w.ensures c.on.ensures c.in_ok-v.ensures c.beside.ensures.words.0 c.beside.ensures.words.1
    refl c.beside.ensures.value
    (with_joins c.requires.walk_ready _ c.requires.goal_walk_ready _ c.left.ensures.0 _ c.right.ensures.0 c.requires.kind)
