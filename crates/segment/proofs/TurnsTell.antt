use Rattle.calculus.proofs.SetLaws.{eased_none, eased_all}
use Rattle.calculus.specs.Derivation.{Scope}
use Rattle.scope.specs.Inner.Sets.{items}
-- What is told of the agenda past ⊗, 1 and ⊤ is told of the agenda before, and it weighs less.
use Prim.Native.Nat.{ℕ, ◌+◌, ◌-◌, ◌*◌, ◌≤◌, ◌<◌}
use native.Mathlib.Nat.{one-le-mul}
use native.Mathlib.Omega.{arith}
use mathlib.Core.Path.{◌≡◌, refl, sym, ◌∙◌, ap, ap₂, subst}
use mathlib.Core.Bool.{Bool, true, false, ◌||◌}
use mathlib.Core.List.{List, ◌∷◌}
use lib.ListN.{length, get_or, set, length-set}
use Rattle.calculus.specs.Formula.{Goal}
use Rattle.calculus.specs.Items.{Items, ∅, ◌∪◌}
use Rattle.card.specs.Format.{node_count, kind_at, left_at, right_at}
use Rattle.card.specs.Fault.{Sound, goal_part, height_at}
use Rattle.card.specs.Decode.{goal_at}
use Rattle.card.proofs.NodesDecoded.{reads_rest, reads_done}
use Rattle.card.proofs.SoundNodes.{goal_lower, goal_above, both_parts, height_pos, height_parts, sound_both}
use Rattle.scope.proofs.SetsAreItems.{items_empty, items_join}
use Rattle.agenda.specs.Inner.Agenda.{Agenda, Task, task}
use Rattle.agenda.specs.Inner.Sought.{Place, holding, eased, None, Least}
use Rattle.agenda.proofs.AgendasRead.{reads_⊗, reads_1}
use Rattle.agenda.proofs.SearchTells.{alike_none, alike_least, rest_none, rest_least}
use Rattle.branch.specs.declared.Branch.{Branch}
use Rattle.branch.specs.Inner.Values.{Counted, dropped_b, longer_b, eased_b}
use Rattle.branch.proofs.CountsKept.{counted_freed}
use Rattle.segment.specs.Inner.Tasks.{node_of, nest_of, task_of, agenda_of, task_weight, total, Fit, Laid}
use Rattle.segment.specs.Inner.Tasks.{Splitting, halves, items_at, Unwound}
use Rattle.card.specs.Inner.Size.{weight}
use Rattle.card.proofs.WeightsFall.{weight_pos, weights_times, both_weight}
use Rattle.segment.proofs.TasksAreAgendas.{nest_low, task_code, weight_code, fit_code, agenda_next, total_next, laid_less}
use Rattle.segment.proofs.TasksAreAgendas.{agenda_put, total_put, laid_put}

-- No turn, and one after another.
pub unwound_self : {bs codes : List ℕ} {b : Branch} → Laid bs codes b.len b.count → Counted b → Unwound bs codes codes b b
unwound_self l k = record {
  laid = l;
  same_at = refl;
  same_count = refl;
  same_limit = refl;
  same_used = refl;
  same_seen = refl;
  same_hand = λ P i. refl;
  no_heavier = omega arith;
  none = λ P eligible es p n. n;
  least = λ P eligible es p l U v n. (v, n, refl);
  counted = k;
}

pub unwound_trans : {bs codes codes' codes'' : List ℕ} {b b' b'' : Branch} → Unwound bs codes codes' b b' → Unwound bs codes' codes'' b' b''
    → Unwound bs codes codes'' b b''
unwound_trans x y = record {
  laid = y.laid;
  same_at = y.same_at ∙ x.same_at;
  same_count = y.same_count ∙ x.same_count;
  same_limit = y.same_limit ∙ x.same_limit;
  same_used = y.same_used ∙ x.same_used;
  same_seen = y.same_seen ∙ x.same_seen;
  same_hand = λ P i. y.same_hand P i ∙ x.same_hand P i;
  no_heavier = omega (arith, x.no_heavier, y.no_heavier);
  none = λ P eligible es p n. x.none P eligible es p (y.none P eligible es p n);
  least = λ P eligible es p l U v n.
      let h = y.least P eligible es p l U v n in
      let k = x.least P eligible es p l U h.0 h.1 in
      (k.0, k.1, h.2 ∙ k.2);
  counted = y.counted;
}

or_true : (a : Bool) → true ≡ (a || true)
or_true true = refl
or_true false = refl

task_pos : (bs : List ℕ) (c : ℕ) → 1 ≤ task_weight bs c
unfolding task_weight
task_pos bs c =
    one-le-mul {a = weight (goal_at bs (node_of c))} {b = nest_of c + 1} (weight_pos (goal_at bs (node_of c))) (omega arith)

-- an agenda with a task has a weight
pub total_pos : (bs codes : List ℕ) (len : ℕ) → 1 ≤ len → 1 ≤ total bs codes len
total_pos bs codes len h = let e = total_next bs codes len h in let p = task_pos bs (get_or codes (len - 1) 0) in omega arith

-- the place with the items of a branch past ⊤
eased_at : (es : Scope) (P : ℕ) (b : Branch) (p : Place) → items_at P (eased_b b) p ≡ eased es (items_at P b p)
eased_at es P b p = ap₂ (λ (S L : Items). holding p S L p.room) (items_empty P ∙ sym (eased_none es (items P b.strict)))
    (items_join P b.strict b.lax ∙ sym (eased_all es (items P b.strict) (items P b.lax)))

-- There is a next task.
pub record Turning (bs codes : List ℕ) (b : Branch) : Type 0 where
  pub laid : Laid bs codes b.len b.count
  pub some : 1 ≤ b.len
  pub counted : Counted b

module _ {bs codes : List ℕ} {b : Branch} (s : Sound bs) (t : Turning bs codes b) where
  abbrev i : ℕ
  i = b.len - 1

  abbrev c : ℕ
  c = get_or codes (b.len - 1) 0

  fit : Fit bs b.count i c
  fit = t.laid.fits i (omega (arith, t.some))

  below : node_of c < node_count bs
  below = goal_lower bs (node_count bs) (node_of c) fit.is_goal_part

  -- the agenda with its next task read
  top : {G : Goal} → goal_at bs (node_of c) ≡ G → agenda_of bs codes b.len ≡ task G (nest_of c) ∷ agenda_of bs codes i
  unfolding task_of
  top e = agenda_next bs codes b.len t.some ∙ ap (λ G. task G (nest_of c) ∷ agenda_of bs codes i) e

  lighter : total bs codes i < total bs codes b.len
  lighter = let e = total_next bs codes b.len t.some in let p = task_pos bs c in omega arith

  pub rest_turn : kind_at bs (node_of c) ≡ 2 → Unwound bs codes codes b (eased_b b) × (total bs codes i < total bs codes b.len)
  unfolding ∅ ◌∪◌
  rest_turn q =
      let e = top (reads_rest bs (node_of c) q).0 in (
        record {
          laid = laid_less t.laid;
          same_at = refl;
          same_count = refl;
          same_limit = refl;
          same_used = refl;
          same_seen = refl;
          same_hand = λ P j. ap₂ (λ (S L : Items). S j || L j) (items_empty P) (items_join P b.strict b.lax);
          no_heavier = omega (arith, lighter);
          none = λ P eligible es p n.
              subst (λ (A : Agenda). None eligible es A (items_at P b p)) (sym e)
              (rest_none eligible (items_at P b p) (subst (λ (x : Place). None eligible es (agenda_of bs codes i) x) (eased_at es P b p) n));
          least = λ P eligible es p l U v n. (
            true,
            subst (λ (A : Agenda). Least eligible es A (items_at P b p) l U true) (sym e)
                (rest_least eligible (items_at P b p)
                (subst (λ (x : Place). Least eligible es (agenda_of bs codes i) x l U v) (eased_at es P b p) n)),
            or_true b.slack,
          );
          counted = counted_freed b;
        },
        lighter,
      )

  pub done_turn : kind_at bs (node_of c) ≡ 3 → Unwound bs codes codes b (dropped_b b) × (total bs codes i < total bs codes b.len)
  done_turn q =
      let e = top (reads_done bs (node_of c) q) in (
        record {
          laid = laid_less t.laid;
          same_at = refl;
          same_count = refl;
          same_limit = refl;
          same_used = refl;
          same_seen = refl;
          same_hand = λ P j. refl;
          no_heavier = omega (arith, lighter);
          none = λ P eligible es p n.
              subst (λ (A : Agenda). None eligible es A (items_at P b p)) (sym e)
              (alike_none eligible (reads_1 es (nest_of c) (agenda_of bs codes i)) n);
          least = λ P eligible es p l U v n. (
            v,
            subst (λ (A : Agenda). Least eligible es A (items_at P b p) l U v) (sym e)
                (alike_least eligible (reads_1 es (nest_of c) (agenda_of bs codes i)) n),
            refl,
          );
          counted = t.counted;
        },
        lighter,
      )

  module _ (is_both : kind_at bs (node_of c) ≡ 4) where
    abbrev l : ℕ
    l = left_at bs (node_of c)

    abbrev r : ℕ
    r = right_at bs (node_of c)

    heights : (height_at bs l < height_at bs (node_of c)) × (height_at bs r < height_at bs (node_of c))
    heights = height_parts s (node_of c) below (omega (arith, is_both)) (λ e. omega (arith, is_both, e))

    pub both_short : b.len < 104
    both_short = omega (arith, heights.0, height_pos bs l, fit.stacked, t.some)

    pub both_splits : Splitting bs codes i
    both_splits = record {
      room = t.laid.room;
      within = omega (arith, both_short, t.some);
      is_goal_part = fit.is_goal_part;
      is_tensor = is_both;
    }

    part : (j : ℕ) → goal_part bs (node_of c) j ≡ true → goal_part bs (node_count bs) j ≡ true
    part j g = goal_above bs (node_of c) j (node_count bs) (omega (arith, below)) g

    room : length codes ≡ 104
    room = t.laid.room

    abbrev right_put : List ℕ
    right_put = set codes i (r * 32 + nest_of c)

    right_room : length right_put ≡ 104
    right_room = length-set codes i (r * 32 + nest_of c) ∙ room

    longer : i + 1 + 1 ≡ b.len + 1
    longer = omega (arith, t.some)

    both_laid : Laid bs (halves bs codes i) (b.len + 1) b.count
    unfolding halves
    both_laid =
        let p = both_parts s (node_of c) below is_both in
        subst (λ n. Laid bs (set right_put (i + 1) (l * 32 + nest_of c)) n b.count) longer
        (laid_put {codes = right_put} (omega (arith, both_short, t.some))
        (fit_code l (nest_of c) (nest_low c) (part l p.0) (omega (arith, heights.0, fit.stacked))
        (omega (arith, heights.0, fit.deep)))
        (laid_put {codes = codes} (omega (arith, both_short))
        (fit_code r (nest_of c) (nest_low c) (part r p.1) (omega (arith, heights.1, fit.stacked))
        (omega (arith, heights.1, fit.deep)))
        (laid_less t.laid)))

    both_agenda : agenda_of bs (halves bs codes i) (b.len + 1)
        ≡ task (goal_at bs l) (nest_of c) ∷ task (goal_at bs r) (nest_of c) ∷ agenda_of bs codes i
    unfolding halves
    both_agenda =
        ap (agenda_of bs (set right_put (i + 1) (l * 32 + nest_of c))) (sym longer)
        ∙ agenda_put bs right_put (i + 1) (l * 32 + nest_of c) (omega (arith, both_short, t.some, right_room))
        ∙ ap₂ (λ (x : Task) (A : Agenda). x ∷ A) (task_code bs l (nest_of c) (nest_low c))
        (agenda_put bs codes i (r * 32 + nest_of c) (omega (arith, both_short, room))
        ∙ ap (λ (x : Task). x ∷ agenda_of bs codes i) (task_code bs r (nest_of c) (nest_low c)))

    both_total : total bs (halves bs codes i) (b.len + 1) < total bs codes b.len
    unfolding halves task_weight
    both_total =
        let e = ap (total bs (set right_put (i + 1) (l * 32 + nest_of c))) (sym longer) in
        let x = total_put bs right_put (i + 1) (l * 32 + nest_of c) (omega (arith, both_short, t.some, right_room)) in
        let y = total_put bs codes i (r * 32 + nest_of c) (omega (arith, both_short, room)) in
        let u = weight_code bs l (nest_of c) (nest_low c) in
        let v = weight_code bs r (nest_of c) (nest_low c) in
        let w = weights_times (goal_at bs l) (goal_at bs r) (goal_at bs (node_of c)) (nest_of c) (both_weight s (node_of c) below is_both) in
        let z = total_next bs codes b.len t.some in
        omega arith

    pub both_turn : Unwound bs codes (halves bs codes i) b (longer_b b) × (total bs (halves bs codes i) (b.len + 1) < total bs codes b.len)
    both_turn =
        let e = top (sound_both s (node_of c) below is_both) in (
          record {
            laid = both_laid;
            same_at = refl;
            same_count = refl;
            same_limit = refl;
            same_used = refl;
            same_seen = refl;
            same_hand = λ P j. refl;
            no_heavier = omega (arith, both_total);
            none = λ P eligible es p n.
                subst (λ (A : Agenda). None eligible es A (items_at P b p)) (sym e)
                (alike_none eligible (reads_⊗ es (nest_of c) (goal_at bs l) (goal_at bs r) (agenda_of bs codes i))
                (subst (λ (A : Agenda). None eligible es A (items_at P b p)) both_agenda n));
            least = λ P eligible es p m U v n. (
              v,
              subst (λ (A : Agenda). Least eligible es A (items_at P b p) m U v) (sym e)
                  (alike_least eligible (reads_⊗ es (nest_of c) (goal_at bs l) (goal_at bs r) (agenda_of bs codes i))
                  (subst (λ (A : Agenda). Least eligible es A (items_at P b p) m U v) both_agenda n)),
              refl,
            );
            counted = t.counted;
          },
          both_total,
        )
