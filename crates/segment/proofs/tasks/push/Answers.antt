-- The node goes down the right parts of recipes: it stays a clause of the card, and its conditions put on the agenda so far are those of
-- the clause put on the agenda at first.
use Rattle.std.proofs.Common.{ℕ, ◌+◌, ◌*◌, ◌<◌, ◌≤◌, ◌≡◌, refl, sym, ◌∙◌, ap, true, List, ◌∷◌, length, set, arith, rules}
use mathlib.Core.Logic.{⊎_elim}
use lib.ListN.{length-set}
use Rattle.calculus.specs.Formula.{Clause}
use Rattle.card.specs.Format.{node_count, kind_at, left_at, right_at}
use Rattle.card.specs.Fault.{Sound, clause_part, goal_part, height_at}
use Rattle.card.specs.Decode.{clause_of}
use Rattle.card.proofs.CardChecked.{sound_front}
use Rattle.card.proofs.NodesDecoded.{reads_name, reads_rest}
use Rattle.card.proofs.SoundNodes.{clause_lower, clause_kind, clause_above, goal_above, node_here, parts_below, recipe_parts}
use Rattle.card.proofs.SoundNodes.{sound_recipe, sound_menu}
use Rattle.card.proofs.SoundNodes.{height_pos, height_parts}
use Rattle.agenda.specs.Inner.Agenda.{Agenda, pushed, core}
use Rattle.segment.specs.Inner.Tasks.{agenda_of, Pushing}
use Rattle.segment.proofs.KindsNumbered.{named, numbered_is}
use Rattle.segment.proofs.TasksAreAgendas.{task_code, fit_code, agenda_put, laid_put}
use Rattle.segment.proofs.tasks.push.Invariants.{Putting}
use Rattle.segment.proofs.tasks.push.Goals as goal

module _ {bs : List ℕ} (s : Sound bs) (i : ℕ) (p : clause_part bs (node_count bs) i ≡ true) where
  below : i < node_count bs
  below = clause_lower bs (node_count bs) i p

  here : 16 + 5 * i ≤ length bs
  here = node_here s i below

  module _ (k : kind_at bs i ≡ 7) where
    lower : (left_at bs i < i) × (right_at bs i < i)
    lower = parts_below s i below (omega arith) (λ e. omega (arith, e, k))

    small : left_at bs i < 512
    small = let f = (sound_front bs s).few in omega (arith, lower.0, below)

    heights : (height_at bs (left_at bs i) < height_at bs i) × (height_at bs (right_at bs i) < height_at bs i)
    heights = height_parts s i below (omega arith) (λ e. omega (arith, e, k))

    condition : goal_part bs (node_count bs) (left_at bs i) ≡ true
    condition = goal_above bs i (left_at bs i) (node_count bs) (omega (arith, below)) (recipe_parts s i below k).0

    rest : clause_part bs (node_count bs) (right_at bs i) ≡ true
    rest = clause_above bs i (right_at bs i) (node_count bs) (omega (arith, below)) (recipe_parts s i below k).1

  -- a clause that is no recipe has no conditions, and is its own core
  bare : (kind_at bs i ≡ 7 → ⊥) → (n : ℕ) (A : Agenda) → pushed n (clause_of bs i) A ≡ A
  unfolding pushed
  bare d n A =
      ⊎_elim (λ k. ap (λ (D : Clause). pushed n D A) (reads_name bs i k).1)
      (⊎_elim (λ k. ap (λ (D : Clause). pushed n D A) (reads_rest bs i k).1)
      (⊎_elim (λ k. absurd (d k)) (λ k. ap (λ (D : Clause). pushed n D A) (sound_menu s i below k))))
      (clause_kind bs (node_count bs) i p)

  own_core : (kind_at bs i ≡ 7 → ⊥) → core (clause_of bs i) ≡ clause_of bs i
  unfolding core
  own_core d =
      ⊎_elim (λ k. ap core (reads_name bs i k).1 ∙ sym (reads_name bs i k).1)
      (⊎_elim (λ k. ap core (reads_rest bs i k).1 ∙ sym (reads_rest bs i k).1)
      (⊎_elim (λ k. absurd (d k)) (λ k. ap core (sound_menu s i below k) ∙ sym (sound_menu s i below k))))
      (clause_kind bs (node_count bs) i p)

module _ {bs codes₀ codes : List ℕ} {len clause nest at n : ℕ} (s : Sound bs) (t : Putting bs codes₀ codes len clause nest at n)
    (q : nest < 32) (top : len + height_at bs clause ≤ 105) where
  inside : kind_at bs at ≡ 7 → n < 104
  inside k =
      let a = heights s at t.part k in
      let h = height_pos bs (left_at bs at) in omega (arith, a.0, t.height)

  onward : kind_at bs at ≡ 7
      → Putting bs codes₀ (set codes n (left_at bs at * 32 + nest)) len clause nest (right_at bs at) (n + 1)
  unfolding pushed core
  onward k =
      let a = heights s at t.part k in
      record {
        part = rest s at t.part k;
        room = length-set codes n (left_at bs at * 32 + nest) ∙ t.room;
        more = omega (arith, t.more);
        height = omega (arith, a.1, t.height);
        same_core = sym (ap core (sound_recipe s at (below s at t.part) k)) ∙ t.same_core;
        no_lower = omega (arith, a.1, t.no_lower);
        tasks =
            ap (pushed nest (clause_of bs (right_at bs at)))
            (agenda_put bs codes n (left_at bs at * 32 + nest) (omega (arith, inside k, t.room))
            ∙ ap (λ x. x ∷ agenda_of bs codes n) (task_code bs (left_at bs at) nest q))
            ∙ sym (ap (λ (D : Clause). pushed nest D (agenda_of bs codes n)) (sound_recipe s at (below s at t.part) k)) ∙ t.tasks;
        laid = λ count l d e.
            laid_put (inside k)
            (fit_code (left_at bs at) nest q (condition s at t.part k) (omega (arith, a.0, t.height))
            (omega (arith, a.0, t.height, t.more)))
            (t.laid count l d e);
      }

  pushes : (kind_at bs at ≡ 7 → ⊥) → Pushing bs codes₀ codes len clause nest (record { len = n; core = at })
  pushes d = record {
    room = t.room;
    tasks = sym (bare s at t.part d nest (agenda_of bs codes n)) ∙ t.tasks;
    core_node = t.part;
    core_kind = d;
    is_core = sym (own_core s at t.part d) ∙ t.same_core;
    no_higher = t.height;
    lower = t.no_lower;
    laid = t.laid;
  }

pub kind_of-requires : goal.kind_of-requires
kind_of-requires c = here c.requires.sound c.loop-agenda.at c.loop-agenda.invariant.part

pub loop-agenda-init : goal.loop-agenda-init
loop-agenda-init c = record {
  part = c.requires.a_clause;
  room = search rules;
  more = omega arith;
  height = omega arith;
  same_core = refl;
  no_lower = omega arith;
  tasks = refl;
  laid = λ count l d e. l;
}

pub left-requires : goal.left-requires
left-requires c = here c.requires.sound c.loop-agenda.at c.loop-agenda.invariant.part

pub put-requires : goal.put-requires
put-requires c =
    let t = c.loop-agenda.invariant in
    let k = c.in-Recipe.ensures in
    let small = small c.requires.sound c.loop-agenda.at t.part k in
    (inside c.requires.sound t c.requires.nest_bound c.requires.room k, (omega (arith, small, c.left.ensures.0), c.requires.nest_bound))

pub overflow_add-n : goal.overflow_add-n
overflow_add-n c =
    let n = inside c.requires.sound c.loop-agenda.invariant c.requires.nest_bound c.requires.room c.in-Recipe.ensures in
    omega arith

pub right-at-requires : goal.right-at-requires
right-at-requires c = here c.requires.sound c.loop-agenda.at c.loop-agenda.invariant.part

pub loop-agenda-smaller : goal.loop-agenda-smaller
loop-agenda-smaller c =
    let low = lower c.requires.sound c.loop-agenda.at c.loop-agenda.invariant.part c.in-Recipe.ensures in
    omega (arith, low.1, c.right-at.ensures.0)

pub loop-agenda-preserved : goal.loop-agenda-preserved
loop-agenda-preserved c =
    rw (c.put.ensures, c.left.ensures.0, c.right-at.ensures.0)
    (onward c.requires.sound c.loop-agenda.invariant c.requires.nest_bound c.requires.room c.in-Recipe.ensures)

pub returns : goal.returns
returns c =
    pushes c.requires.sound c.loop-agenda.invariant c.requires.nest_bound c.requires.room
    (λ k. c.in_default.not-Recipe (numbered_is _ c.kind_of.ensures (omega arith) (omega arith) ∙ ap named k))
