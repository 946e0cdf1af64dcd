-- What the next of the given steps tells: it is an entry that is used for the name or a choice that takes a part, or what is wrong there.
use Rattle.std.proofs.Common.{ℕ, ◌+◌, ◌≤◌, ◌<◌, ◌≡◌, refl, sym, ◌∙◌, ap, Bool, true, false, ◌&&◌, List, ◌∷◌, length, get_or, eqb, arith}
use Rattle.std.proofs.Common.{Ok, Err}
use Rattle.std.specs.Prelude.{⊤}
use Rattle.std.proofs.lemmas.Bool.{cases_lt}
use Rattle.std.proofs.lemmas.Bool.{false≢true}
use mathlib.Core.Logic.{◌⊎◌, inl, inr}
use borrow.Author.Tests.{eq-eqb, ne_eqb}
use Rattle.std.proofs.lemmas.Bool.{eqb-false}
use Rattle.calculus.specs.Formula.{usable}
use Rattle.calculus.specs.Derivation.{Scope, clause_at}
use Rattle.calculus.specs.Steps.{left_choice, right_choice}
use Rattle.calculus.specs.Walk.{choice_walk}
use Rattle.calculus.proofs.RenamingKeeps.{entry_past}
use Rattle.card.specs.declared.faults.Refusal.{Refusal}
use Rattle.card.specs.Format.{left_at, right_at}
use Rattle.card.specs.Decode.{clause_of, scope_of}
use Rattle.card.specs.Verdict.{Where, refuse, told, where_of, number_of, step}
use Rattle.card.proofs.FaultsInOrder.{not_applied}
use Rattle.scope.specs.declared.Tables.{Tables}
use Rattle.scope.specs.Inner.Tables.{table_scope}
use Rattle.scope.proofs.TablesAreScopes.{scope_size, scope_clause}
use Rattle.summary.specs.declared.Position.{Position}
use Rattle.summary.specs.Inner.Walks.{from, StepGiven, StepUsable, Stepping, SideTaking}
use Rattle.summary.proofs.WalksTell.{from_next, from_none, none_left, unfit, too_deep}

-- a test's refusal is that of its number and place
pub record Refused (applies : Bool) (n : ℕ) (w : Where) (f : Refusal) : Type 0 where
  pub applied : applies ≡ true
  pub number : number_of f.fault ≡ n
  pub place : where_of f.place ≡ w

pub test_refused : (applies : Bool) (n : ℕ) (w : Where) (f : Refusal) → told (Err f) ≡ refuse applies n w → Refused applies n w f
unfolding told refuse
test_refused true n w f e = record { applied = refl; number = cc; place = cc }
test_refused false n w f e = absurd (let z : ◌≡◌ {A = ℕ} 0 1 = cc in omega arith)

pub test_passed : (applies : Bool) (n : ℕ) (w : Where) {u : ⊤} → told (Ok u) ≡ refuse applies n w → applies ≡ false
unfolding told
test_passed applies n w e = not_applied applies n w (sym e)

-- a step is left where not all are taken
pub room_left : (at given : ℕ) → at ≤ given → eqb at given ≡ false → at < given
room_left at given h e = let n = eqb-false at given e in omega (arith, n)

pub step_given : (steps : List ℕ) (b : Position) → b.given ≤ length steps → b.at < b.given → {e : ℕ} → e ≡ get_or steps b.at 0 → e < 256
    → StepGiven steps b (Ok e)
unfolding StepGiven
step_given steps b given room {e} q small = record {
  room = room;
  next = from_next steps b room given ∙ ap (λ x. x ∷ from steps b (b.at + 1)) (sym q);
  small = small;
}

pub step_small : (steps : List ℕ) (b : Position) {e : ℕ} → StepGiven steps b (Ok e) → e < 256
unfolding StepGiven
step_small steps b g = g.small

pub none_given : (steps : List ℕ) (b : Position) → b.given ≤ length steps → b.at ≡ b.given → (f : Refusal) → where_of f.place ≡ step b.at
    → number_of f.fault ≡ 18 → StepGiven steps b (Err f)
unfolding StepGiven
none_given steps b given q f here n = record { none = from_none steps b (omega arith) given; place = here; number = n }

-- An entry that is used

module _ (bs : List ℕ) (t : Tables) (count name e : ℕ) where
  abbrev es : Scope
  es = table_scope bs t.nodes t.linear count

  -- what is not in scope is used for no name
  pub outside_unfit : count ≤ e → usable es.fits name (clause_at es e) ≡ false
  unfolding clause_at usable
  outside_unfit h = ap (λ x. usable es.fits name x.clause) (entry_past es e (let s = scope_size bs t.nodes t.linear count in omega arith))

  pub inside_fit : e < count → usable es.fits name (clause_at es e) ≡ usable (scope_of bs).fits name (clause_of bs (get_or t.nodes e 0))
  unfolding table_scope clause_at
  inside_fit h = ap (usable (scope_of bs).fits name) (scope_clause bs t.nodes t.linear count e h)

module _ (bs steps : List ℕ) (t : Tables) (b : Position) (name : ℕ) where
  pub step_past : (f : Refusal) → StepGiven steps b (Err f) → Stepping bs steps t b name (Err f)
  unfolding StepGiven Stepping
  step_past f g = none_left g.place g.number g.none

  module _ (e : ℕ) (g : StepGiven steps b (Ok e)) (good : Bool)
      (eg : good ≡ usable (es bs t b.count name e).fits name (clause_at (es bs t b.count name e) e)) where
    module _ (f : Refusal) (here : where_of f.place ≡ step b.at) where
      pub step_unfit : number_of f.fault ≡ 13 → good ≡ false → Stepping bs steps t b name (Err f)
      unfolding StepGiven Stepping
      step_unfit n h = unfit here g.next n (sym eg ∙ h)

      pub step_deep : number_of f.fault ≡ 17 → good ≡ true → b.depth ≡ 0 → Stepping bs steps t b name (Err f)
      unfolding StepGiven Stepping
      step_deep n h z = too_deep here g.next n (sym eg ∙ h) z

    pub step_taken : good ≡ true → (b.depth ≡ 0 → ⊥) → Stepping bs steps t b name (Ok e)
    unfolding StepGiven Stepping
    step_taken h d = at (cases_lt e b.count)
      where
        at : (e < b.count) ⊎ (b.count ≤ e) → StepUsable bs steps t b name e
        at (inl inside) = record {
          deep = omega (arith, d);
          room = g.room;
          inside = inside;
          next = g.next;
          fitting = sym (inside_fit bs t b.count name e inside) ∙ sym eg ∙ h;
        }
        at (inr past) = absurd (false≢true (sym (outside_unfit bs t b.count name e past) ∙ sym eg ∙ h))

-- A choice

module _ (bs steps : List ℕ) (b : Position) (node : ℕ) (first second : Bool) where
  pub side_past : (f : Refusal) → StepGiven steps b (Err f) → SideTaking bs steps b node first second (Err f)
  unfolding StepGiven SideTaking choice_walk
  side_past f g = record { place = g.place; walk = λ x y. rw g.number (ap (choice_walk first second x y b.at) g.none) }

  module _ (c : ℕ) (g : StepGiven steps b (Ok c)) where
    pub side_left : c ≡ left_choice → first ≡ true → {m : ℕ} → m ≡ left_at bs node → SideTaking bs steps b node first second (Ok m)
    unfolding StepGiven SideTaking
    side_left d h em = record { choice = c; room = g.room; next = g.next; chosen = inl (d, (h, em)) }

    pub side_right : c ≡ right_choice → second ≡ true → {m : ℕ} → m ≡ right_at bs node → SideTaking bs steps b node first second (Ok m)
    unfolding StepGiven SideTaking
    side_right d h em = record { choice = c; room = g.room; next = g.next; chosen = inr (d, (h, em)) }

    -- a choice of a part that may not be taken, or none
    barred : (d : ℕ) (allowed : Bool) → ((c ≡ d) × (allowed ≡ false)) ⊎ (c ≡ d → ⊥) → (eqb c d && allowed) ≡ false
    barred d allowed (inl q) = rw (eq-eqb c d q.0) q.1
    barred d allowed (inr q) = rw (ne_eqb c d q) refl

    pub side_none : ((c ≡ left_choice) × (first ≡ false)) ⊎ (c ≡ left_choice → ⊥) → ((c ≡ right_choice) × (second ≡ false)) ⊎ (c ≡ right_choice → ⊥)
        → (f : Refusal) → where_of f.place ≡ step b.at → number_of f.fault ≡ 13 → SideTaking bs steps b node first second (Err f)
    unfolding StepGiven SideTaking choice_walk
    side_none h k f here n = record {
      place = here;
      walk = λ x y. rw (n, g.next, barred left_choice first h, barred right_choice second k) refl;
    }
