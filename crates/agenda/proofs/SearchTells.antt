-- What a search may say of an agenda, one law a branch: from what is said of the agendas that it goes on to.
use Prim.Native.Nat.{ℕ, zero, suc, ◌-◌, ◌≤◌, ◌<◌, zero-le}
use native.Mathlib.Decide.{ℕ_discrete, dec_lt}
use native.Mathlib.Omega.{arith}
use mathlib.Core.Path.{◌≡◌, refl, sym, ap, ◌∙◌, subst}
use mathlib.Core.Logic.{◌⊎◌, inl, inr, ⊎_elim, ⊎_map, by_cases}
use mathlib.Core.Bool.{Bool, true, false, cond, not, ◌||◌, ◌&&◌, false≢true}
use mathlib.Core.List.{List, [], ◌∷◌, ◌++◌, append-nil, head-eq_of_cons-eq, tail-eq_of_cons-eq}
use lib.ListN.{length, length-append}
use Rattle.calculus.specs.Formula.{Goal, Clause, atomᴳ, topᴳ, with, oplus, lolliᴳ, usable}
use Rattle.calculus.specs.Items.{Items, ◌∪◌, ◌∩◌, ◌∖◌, only, Empty, Within}
use Rattle.calculus.specs.Derivation.{Scope, Entry, size, clause_at, linear_at, residual_at, lend}
use Rattle.calculus.specs.Steps.{left_choice, right_choice, Before, here, there}
use Rattle.calculus.specs.Inner.Summary.{Without, spare, Covers, Sum, sum_⊸, Bounded}
use Rattle.calculus.proofs.SetLaws.{all_used, spare_lend, within_covers, within_trans, empty_within, ∪_joins, join_left, only_without, only_plus}
use Rattle.calculus.proofs.SetLaws.{table, ◌⟹◌, ◌⊑◌, ∪_swap, ∖_spread, ∖_gather, lent_within, lent_covers, lent_used}
use Rattle.calculus.proofs.SetLaws.{relend_within, relend_covers, used_out, used_within, used_covers, before_use_at}
use Rattle.calculus.proofs.SetLaws.{before_use_within, before_use_covers}
use Rattle.calculus.proofs.SummaryExact.{bounded_within, fresh}
use Rattle.calculus.proofs.RenamingKeeps.{entry_past}
use Rattle.agenda.specs.Inner.Agenda.{Task, task, Agenda, Reads, reads_nil, Alike}
use Rattle.agenda.specs.Inner.Order.{Floor, ends, Next, next_here, Chosen, none, step}
use Rattle.agenda.specs.Inner.Sought.{Place, floored, unfloored, holding, past, eased, lead, past_lead, past_with, lent_place, spent}
use Rattle.agenda.specs.Inner.Sought.{spending, past_use, past_choice, InWindow, Spares, Sought, None, Least, Trying, Shut, Raised}
use Rattle.agenda.proofs.AgendasRead.{reads_unique, reads_same, reads_empty, reads_⊤, reads_alone, reads_⊕, reads_use, reads_unnested, Used}
use Rattle.agenda.proofs.AgendasRead.{Takes, takes_rule, takes_item}
use Rattle.agenda.proofs.ListsOrdered.{before_both, before_behind, before_raised, raised_before, not_raised}
use Rattle.agenda.proofs.ListsOrdered.{raised_higher, before_next, floor_given, floor_open, floor_none, floor_left, floor_past}
use Rattle.agenda.proofs.ListsOrdered.{floor_on, chosen_left, chosen_right, chosen_both, chosen_head}
use Rattle.agenda.proofs.WindowsDivide.{Parted, Divides, behind_divides, either_divides}

-- The empty agenda is in the window if no strict item is left.
no_strict : {es : Scope} {S L U : Items} {v : Bool} → Empty U → v ≡ false → InWindow es S L U v → (i : ℕ) → S i ≡ true → ⊥
no_strict {es} {v} e h w i s = false≢true (sym (e.vacant i) ∙ (all_used es v h w.all_strict).kept i s)

-- An entry whose head fits stands in the scope.
in_scope : (a : ℕ) (es : Scope) (e : ℕ) → usable es.fits a (clause_at es e) ≡ true → e < size es
unfolding clause_at usable
in_scope a es e h =
    by_cases (dec_lt e (size es)) (λ k. k)
    (λ k. absurd (false≢true (sym (ap (λ (x : Entry). usable es.fits a x.clause) (entry_past es e (omega arith))) ∙ h)))

-- What a reading that begins with e takes besides.
record Past (es : Scope) (a n : ℕ) (A : Agenda) (e : ℕ) (m : List ℕ) (U : Items) (v : Bool) : Type 0 where
  others : Items
  fits : usable es.fits a (clause_at es e) ≡ true
  takes : Takes es e U others
  rest : Reads es (task (residual_at es a e) n ∷ A) m others v

past_use_lem : {es : Scope} {a n : ℕ} {A : Agenda} {e : ℕ} {m : List ℕ} {U : Items} {v : Bool}
    → Used es a n A (e ∷ m) U v → Past es a n A e m U v
past_use_lem {es} {a} {n} {A} {e} {m} {U} {v} u =
    let h = sym (head-eq_of_cons-eq u.list) in
    let t = sym (tail-eq_of_cons-eq u.list) in
    record {
      others = u.others;
      fits = subst (λ (x : ℕ). usable es.fits a (clause_at es x) ≡ true) h u.fits;
      takes = subst (λ (x : ℕ). Takes es x U u.others) h u.takes;
      rest = subst (λ (x : ℕ). Reads es (task (residual_at es a x) n ∷ A) m u.others v) h
          (subst (λ (k : List ℕ). Reads es (task (residual_at es a u.entry) n ∷ A) k u.others v) t u.rest);
    }

-- the entry used is a rule or at hand
at_hand : {es : Scope} {e : ℕ} {S L U W : Items} {v : Bool} → Takes es e U W → InWindow es S L U v → (not (linear_at es e) || (S ∪ L) e) ≡ true
at_hand (takes_rule r) w = rw r
at_hand (takes_item r h p) w = rw r (before_use_at p w.within)

-- the window past a use, and back
window_past : {es : Scope} {e : ℕ} {S L U W : Items} {v : Bool} → Takes es e U W → InWindow es S L U v
    → InWindow es (spent es e S) (spent es e L) W v
unfolding spent
window_past (takes_rule r) w = rw r w
window_past {es} {e} {S} {L} (takes_item r h p) w = rw r (record {
  within = within_trans (before_use_within p h w.within) (∖_spread S L (only e));
  all_strict = (before_use_covers p (w.all_strict));
})

-- what a use takes in all
record Taken (es : Scope) (e : ℕ) (S L W : Items) (v : Bool) : Type 0 where
  takes : Takes es e (spending es e W) W
  window : InWindow es S L (spending es e W) v

taken_by : {es : Scope} {e : ℕ} (S L W : Items) {v : Bool} (b : Bool) → linear_at es e ≡ b → (not b || (S ∪ L) e) ≡ true
    → InWindow es (cond b (S ∖ only e) S) (cond b (L ∖ only e) L) W v
    → Takes es e (cond b (W ∪ only e) W) W × InWindow es S L (cond b (W ∪ only e) W) v
taken_by {es} {e} S L W true r h w =
    let out : Within W ((S ∪ L) ∖ only e) = within_trans w.within (∖_gather S L (only e)) in (
      takes_item r (used_out (S ∪ L) e out) (only_plus W e),
      record {
        within = used_within (S ∪ L) (only_plus W e) h out;
        all_strict = (used_covers S (only_plus W e) (w.all_strict));
      },
    )
taken_by S L W false r h w = (takes_rule r, w)

taken : (es : Scope) (e : ℕ) (S L W : Items) (v : Bool) → (not (linear_at es e) || (S ∪ L) e) ≡ true
    → InWindow es (spent es e S) (spent es e L) W v → Taken es e S L W v
unfolding spent spending
taken es e S L W v h w = let t = taken_by S L W (linear_at es e) refl h w in record { takes = t.0; window = t.1 }

-- The goal of a lend.
record Lent (n : ℕ) (es : Scope) (D : Clause) (G : Goal) (l : List ℕ) (U : Items) (v : Bool) : Type 0 where
  all : Items
  rest : Without U all (size es)
  used : (spare es v (size es) || all (size es)) ≡ true
  sum : Sum n (lend es D) G l all v

lent : {n : ℕ} {es : Scope} {D : Clause} {G : Goal} {l : List ℕ} {U : Items} {v : Bool} → Sum n es (lolliᴳ D G) l U v → Lent n es D G l U v
lent (sum_⊸ {W} s h x) = record { all = W; rest = s; used = h; sum = x }

window_lent : (es : Scope) {S L U W : Items} {v : Bool} → Without U W (size es)
    → (spare es v (size es) || W (size es)) ≡ true → (D : Clause) → InWindow es S L U v → InWindow (lend es D) (S ∪ only (size es)) L W v
window_lent es {S} {L} {v = v} s h D w = record {
  within = within_trans (relend_within s w.within) (∪_swap S L (only (size es)));
  all_strict = (spare_lend es D v).1 (relend_covers s h w.all_strict);
}

window_lend : (es : Scope) (D : Clause) (S L W : Items) {v : Bool} → Bounded es (S ∪ L) → InWindow (lend es D) (S ∪ only (size es)) L W v
    → ((spare es v (size es) || W (size es)) ≡ true) × InWindow es S L (W ∖ only (size es)) v
window_lend es D S L W {v} b w =
    let c : Covers (spare es v) W (S ∪ only (size es)) = (spare_lend es D v).0 w.all_strict in (
      lent_used S (size es) c,
      record {
        within = lent_within (S ∪ L) (only_without W (size es)) (within_trans w.within (∪_swap S (only (size es)) L));
        all_strict = (lent_covers S (only_without W (size es)) (fresh (bounded_within (join_left (∪_joins S L)) b)) c);
      },
    )

-- The window past a ⊤, and back.
window_eased : (es : Scope) (w : Bool) {S L U : Items} {v : Bool} → v ≡ true → InWindow es S L U v
    → InWindow es (S ∖ spare es true) ((S ∩ spare es true) ∪ L) U w
unfolding spare ◌∪◌ ◌∩◌ ◌∖◌
window_eased es w {S} {L} {U} {v} h x = record {
  within = record { kept = λ i. table 3 (λ s l u. u ⊑ s || l ⟹ u ⊑ (s && not true) || ((s && true) || l)) refl (S i) (L i) (U i) (x.within.kept i) };
  all_strict = record { cover = λ i. table 3 (λ w s u. (s && not true) ⊑ w || u) refl w (S i) (U i) };
}

window_rest : (es : Scope) (w : Bool) {S L U : Items} → InWindow es (S ∖ spare es true) ((S ∩ spare es true) ∪ L) U w
    → InWindow es S L U true
unfolding spare ◌∪◌ ◌∩◌ ◌∖◌
window_rest es w {S} {L} {U} x = record {
  within = record { kept = λ i. table 3 (λ s l u. u ⊑ (s && not true) || ((s && true) || l) ⟹ u ⊑ s || l) refl (S i) (L i) (U i) (x.within.kept i) };
  all_strict = record { cover = λ i. table 2 (λ s u. s ⊑ true || u) refl (S i) (U i) };
}

-- no list comes after one without steps
not_after : {l : List ℕ} → Before [] l → ⊥
not_after b = elim b [ ]

module _ (eligible : List ℕ → ℕ → Bool) where
  -- the same list in another window of another agenda
  moved : {es fs : Scope} {A B : Agenda} (p : Place) {S L : Items} {l : List ℕ} {U W : Items} {v w : Bool}
      → Sought eligible es A p l U v → Reads fs B l W w → InWindow fs S L W w → Sought eligible fs B (holding p S L p.room) l W w
  moved p s r w = record { reads = r; window = w; short = s.short; chosen = s.chosen; floor = s.floor }

  -- An agenda with the same readings is answered alike.
  -- nothing is sought at the one if nothing is at the other
  pub alike_none : {es : Scope} {A B : Agenda} {p : Place} → Alike es A B → None eligible es B p → None eligible es A p
  alike_none {p} h n = record { none = λ l U v s. n.none l U v (moved p s ((h.alike l U v).0 s.reads) s.window) }

  -- the least list of the one is that of the other
  pub alike_least : {es : Scope} {A B : Agenda} {p : Place} {l : List ℕ} {U : Items} {v : Bool}
      → Alike es A B → Least eligible es B p l U v → Least eligible es A p l U v
  alike_least {p} {l} {U} {v} h n = record {
    sought = moved p n.sought ((h.alike l U v).1 n.sought.reads) n.sought.window;
    least = λ m W w s. n.least m W w (moved p s ((h.alike m W w).0 s.reads) s.window);
  }

  -- Nothing is left to do: solved if no strict item is left, else stuck.
  -- with no strict item left, the list without steps is the least
  pub done_solved : {es : Scope} {p : Place} {U : Items} → Empty p.strict → Empty U → Least eligible es [] p [] U false
  done_solved {es} {p} e f = record {
    sought = record {
      reads = reads_nil f;
      window = record { within = empty_within f; all_strict = within_covers (empty_within e) };
      short = zero-le;
      chosen = none;
      floor = ends;
    };
    least = λ m W w s. inl (reads_empty s.reads).0;
  }

  -- with a strict item left there is no list
  pub done_stuck : {es : Scope} {p : Place} (i : ℕ) → p.strict i ≡ true → None eligible es [] p
  done_stuck i h = record {
    none = λ l U v s. let e = reads_empty s.reads in no_strict e.1 e.2 s.window i h;
  }

  -- Rest: what is at hand may all stay over but for firm items.
  sought_rest : {es : Scope} (n : ℕ) {A : Agenda} (p : Place) {l : List ℕ} {U : Items} {v : Bool}
      → Sought eligible es (task topᴳ n ∷ A) p l U v → (w : Bool) × Sought eligible es A (eased es p) l U w
  sought_rest {es} n {A} p {l} {U} {v} s =
      let r = (reads_⊤ es n A l U v).0 s.reads in
      (r.1, moved p s r.2 (window_eased es r.1 r.0 s.window))

  -- stuck if the agenda without it is stuck
  pub rest_none : {es : Scope} {n : ℕ} {A : Agenda} (p : Place) → None eligible es A (eased es p) → None eligible es (task topᴳ n ∷ A) p
  rest_none {n} p h = record { none = λ l U v s. let r = sought_rest n p s in h.none l U r.0 r.1 }

  -- solved as the agenda without it, with slack
  pub rest_least : {es : Scope} {n : ℕ} {A : Agenda} (p : Place) {l : List ℕ} {U : Items} {v : Bool}
      → Least eligible es A (eased es p) l U v → Least eligible es (task topᴳ n ∷ A) p l U true
  rest_least {es} {n} {A} p {l} {U} {v} h = record {
    sought = record {
      reads = (reads_⊤ es n A l U true).1 (refl, v, h.sought.reads);
      window = window_rest es v h.sought.window;
      short = h.sought.short;
      chosen = h.sought.chosen;
      floor = h.sought.floor;
    };
    least = λ m W w s. let r = sought_rest n p s in h.least m W r.0 r.1;
  }

  -- A name wants nesting and a step.
  -- without nesting left there is no list
  pub name_unnested : {es : Scope} {a : ℕ} {A : Agenda} {p : Place} → None eligible es (task (atomᴳ a) 0 ∷ A) p
  name_unnested = record { none = λ l U v s. reads_unnested s.reads }

  -- a list sought at a name begins with an entry that can be taken
  record Takable (es : Scope) (a : ℕ) (p : Place) (e : ℕ) : Type 0 where
    fits : usable es.fits a (clause_at es e) ≡ true
    hand : (not (linear_at es e) || (p.strict ∪ p.lax) e) ≡ true
    picked : eligible p.done e ≡ true

  takable : {es : Scope} {a n : ℕ} {A : Agenda} {p : Place} {e : ℕ} {m : List ℕ} {U : Items} {v : Bool}
      → Sought eligible es (task (atomᴳ a) n ∷ A) p (e ∷ m) U v → Takable es a p e
  takable {n = zero} s = absurd (reads_unnested s.reads)
  takable {es} {a} {n = suc n} {A} {e} {m} {U} {v} s =
      let u = past_use_lem ((reads_use es a n A (e ∷ m) U v).0 s.reads) in
      record { fits = u.fits; hand = at_hand u.takes s.window; picked = chosen_head s.chosen }

  record Begun (es : Scope) (a n : ℕ) (A : Agenda) (p : Place) (l : List ℕ) (U : Items) (v : Bool) : Type 0 where
    entry : ℕ
    onward : List ℕ
    list : l ≡ entry ∷ onward
    sought : Sought eligible es (task (atomᴳ a) n ∷ A) p (entry ∷ onward) U v

  begun : {es : Scope} {a n : ℕ} {A : Agenda} {p : Place} {l : List ℕ} {U : Items} {v : Bool}
      → Sought eligible es (task (atomᴳ a) n ∷ A) p l U v → Begun es a n A p l U v
  begun {n = zero} s = absurd (reads_unnested s.reads)
  begun {es} {a} {n = suc n} {A} {p} {l} {U} {v} s =
      let u = (reads_use es a n A l U v).0 s.reads in
      record {
        entry = u.entry;
        onward = u.onward;
        list = u.list;
        sought = subst (λ (j : List ℕ). Sought eligible es (task (atomᴳ a) (suc n) ∷ A) p j U v) u.list s;
      }

  -- without room there is no list
  pub name_roomless : {es : Scope} {a n : ℕ} {A : Agenda} {p : Place} → p.room ≡ 0 → None eligible es (task (atomᴳ a) n ∷ A) p
  name_roomless {p} h = record {
    none = λ l U v s. let b = begun s in let k : length (b.entry ∷ b.onward) ≤ p.room = b.sought.short in omega arith;
  }

  -- What every list sought at a name begins with.
  -- with given steps ahead, the first of them or higher
  pub trying_given : {es : Scope} {a n : ℕ} {A : Agenda} {p : Place} {x : ℕ} {F : List ℕ} → p.given ≡ x ∷ F → Trying eligible es a n A p x
  trying_given {p} e = record { trying = λ y m U v s. floor_given (subst (λ (k : List ℕ). Floor (y ∷ m) k p.from) e s.floor) }

  -- with none ahead, the least step of the floor or higher
  pub trying_open : {es : Scope} {a n : ℕ} {A : Agenda} {p : Place} → p.given ≡ [] → Trying eligible es a n A p p.from
  trying_open {p} e = record { trying = λ y m U v s. floor_open (subst (λ (k : List ℕ). Floor (y ∷ m) k p.from) e s.floor) }

  -- no list sought begins with e
  trying_past : {es : Scope} {a n : ℕ} {A : Agenda} {p : Place} {e : ℕ} → Trying eligible es a n A p e
      → ((m : List ℕ) (U : Items) (v : Bool) → Sought eligible es (task (atomᴳ a) n ∷ A) p (e ∷ m) U v → ⊥)
      → Trying eligible es a n A p (suc e)
  trying_past {es} {a} {n} {A} {p} {e} t f = record { trying = λ x m U v s. at x m U v s (ℕ_discrete x e) (t.trying x m U v s) }
    where
      at : (x : ℕ) (m : List ℕ) (U : Items) (v : Bool) → Sought eligible es (task (atomᴳ a) n ∷ A) p (x ∷ m) U v → Dec (x ≡ e) → e ≤ x
          → suc e ≤ x
      at x m U v s (yes q) h = absurd (f m U v (subst (λ (y : ℕ). Sought eligible es (task (atomᴳ a) n ∷ A) p (y ∷ m) U v) q s))
      at x m U v s (no q) h = omega (arith, q)

  -- An entry is passed over.
  -- its head does not fit
  pub trying_unfit : {es : Scope} {a n : ℕ} {A : Agenda} {p : Place} {e : ℕ} → Trying eligible es a n A p e
      → usable es.fits a (clause_at es e) ≡ false → Trying eligible es a n A p (suc e)
  trying_unfit t h = trying_past t (λ m U v s. false≢true (sym h ∙ (takable s).fits))

  -- it is an item that is not at hand
  pub trying_gone : {es : Scope} {a n : ℕ} {A : Agenda} {p : Place} {e : ℕ} → Trying eligible es a n A p e
      → (not (linear_at es e) || (p.strict ∪ p.lax) e) ≡ false → Trying eligible es a n A p (suc e)
  trying_gone t h = trying_past t (λ m U v s. false≢true (sym h ∙ (takable s).hand))

  -- it is not eligible
  pub trying_ineligible : {es : Scope} {a n : ℕ} {A : Agenda} {p : Place} {e : ℕ} → Trying eligible es a n A p e
      → eligible p.done e ≡ false → Trying eligible es a n A p (suc e)
  trying_ineligible t h = trying_past t (λ m U v s. false≢true (sym h ∙ (takable s).picked))

  -- what is sought past the use of e
  sought_past : {es : Scope} {a n : ℕ} {A : Agenda} (p : Place) {e : ℕ} {m F : List ℕ} {f : ℕ} {U : Items} {v : Bool}
      → Next (e ∷ []) p.given p.from F f → Sought eligible es (task (atomᴳ a) (suc n) ∷ A) p (e ∷ m) U v
      → (W : Items) × Sought eligible es (task (residual_at es a e) n ∷ A) (past_use es p e F f) m W v
  sought_past {es} {a} {n} {A} p {e} {m} {U} {v} k s =
      let u = past_use_lem ((reads_use es a n A (e ∷ m) U v).0 s.reads) in
      let h : length (e ∷ m) ≤ p.room = s.short in (
        u.others,
        record {
          reads = u.rest;
          window = window_past u.takes s.window;
          short = omega arith;
          chosen = chosen_right (e ∷ []) s.chosen;
          floor = floor_past m k s.floor;
        },
      )

  -- past its use nothing is sought
  pub trying_next : {es : Scope} {a n : ℕ} {A : Agenda} {p : Place} {e : ℕ} {F : List ℕ} {f : ℕ} → Trying eligible es a (suc n) A p e
      → Next (e ∷ []) p.given p.from F f → None eligible es (task (residual_at es a e) n ∷ A) (past_use es p e F f)
      → Trying eligible es a (suc n) A p (suc e)
  trying_next {p} t k h = trying_past t (λ m U v s. let r = sought_past p k s in h.none m r.0 v r.1)

  -- An entry is taken, and what follows its use is solved: so is the name.
  pub trying_found : {es : Scope} {a n : ℕ} {A : Agenda} {p : Place} {e : ℕ} {F l : List ℕ} {f : ℕ} {U : Items} {v : Bool}
      → Trying eligible es a (suc n) A p e
      → usable es.fits a (clause_at es e) ≡ true → (not (linear_at es e) || (p.strict ∪ p.lax) e) ≡ true → eligible p.done e ≡ true
      → 1 ≤ p.room → Next (e ∷ []) p.given p.from F f
      → Least eligible es (task (residual_at es a e) n ∷ A) (past_use es p e F f) l U v
      → Least eligible es (task (atomᴳ a) (suc n) ∷ A) p (e ∷ l) (spending es e U) v
  trying_found {es} {a} {n} {A} {p} {e} {F} {l} {f} {U} {v} t fits hand picked room k h = record {
    sought = record {
      reads = (reads_use es a n A (e ∷ l) (spending es e U) v).1
          (record { entry = e; onward = l; others = U; list = refl; fits = fits; takes = took.takes; rest = h.sought.reads });
      window = took.window;
      short = let s : length l ≤ p.room - 1 = h.sought.short in omega arith;
      chosen = chosen_both (step picked none) h.sought.chosen;
      floor = floor_on k h.sought.floor;
    };
    least = λ m W w s. let b = begun s in
        rw b.list (on b.entry b.onward W w b.sought (ℕ_discrete b.entry e));
  }
    where
      took : Taken es e p.strict p.lax U v
      took = taken es e p.strict p.lax U v hand h.sought.window

      on : (x : ℕ) (k : List ℕ) (W : Items) (w : Bool) → Sought eligible es (task (atomᴳ a) (suc n) ∷ A) p (x ∷ k) W w → Dec (x ≡ e)
          → (x ∷ k ≡ e ∷ l) ⊎ Before (e ∷ l) (x ∷ k)
      on x m W w s (yes q) =
          let r = sought_past p k (subst (λ (y : ℕ). Sought eligible es (task (atomᴳ a) (suc n) ∷ A) p (y ∷ m) W w) q s) in
          subst (λ (y : ℕ). (y ∷ m ≡ e ∷ l) ⊎ Before (e ∷ l) (y ∷ m)) (sym q)
          (⊎_map (λ z. ap (λ (j : List ℕ). e ∷ j) z) (λ b. there b) (h.least m r.0 w r.1))
      on x m W w s (no q) = let g : e ≤ x = t.trying x m W w s in let k : e < x = omega (arith, q) in inr (here k)

  -- no entry is left: the name is stuck
  pub trying_end : {es : Scope} {a n : ℕ} {A : Agenda} {p : Place} {e : ℕ} → Trying eligible es a n A p e → size es ≤ e
      → None eligible es (task (atomᴳ a) n ∷ A) p
  trying_end {es} {a} {e} t h = record {
    none = λ l U v s. let b = begun s in
        let g : e ≤ b.entry = t.trying b.entry b.onward U v b.sought in
        omega (arith, in_scope a es b.entry (takable b.sought).fits);
  }

  -- ⊕ wants a step: a choice.
  record Chose (es : Scope) (G : Goal) (n : ℕ) (A : Agenda) (p : Place) (c : ℕ) (l : List ℕ) (U : Items) (v : Bool) : Type 0 where
    onward : List ℕ
    list : l ≡ c ∷ onward
    side : Reads es (task G n ∷ A) onward U v

  chose : {es : Scope} {G H : Goal} {n : ℕ} {A : Agenda} {p : Place} {l : List ℕ} {U : Items} {v : Bool}
      → Sought eligible es (task (oplus G H) n ∷ A) p l U v → Chose es G n A p left_choice l U v ⊎ Chose es H n A p right_choice l U v
  chose {es} {G} {H} {n} {A} {l = l} {U} {v} s = ⊎_map
      (λ x. record { onward = x.0; list = x.1; side = x.2 }) (λ x. record { onward = x.0; list = x.1; side = x.2 })
      ((reads_⊕ es n G H A l U v).0 s.reads)

  -- without room there is no list
  pub choice_roomless : {es : Scope} {G H : Goal} {n : ℕ} {A : Agenda} {p : Place} → p.room ≡ 0 → None eligible es (task (oplus G H) n ∷ A) p
  choice_roomless {p} h = record {
    none = λ l U v s. let k : length l ≤ p.room = s.short in
        ⊎_elim (λ c. omega (arith, ap length c.list, k, h)) (λ c. omega (arith, ap length c.list, k, h)) (chose s);
  }

  -- with given steps ahead, or the least step of the floor, above it
  pub shut_given : {es : Scope} {A : Agenda} {p : Place} {c x : ℕ} {F : List ℕ} → p.given ≡ x ∷ F → c < x → Shut eligible es A p c
  shut_given {p} {c} {x} e h = record {
    shut = λ m U v s. let k : x ≤ c = floor_given (subst (λ (j : List ℕ). Floor (c ∷ m) j p.from) e s.floor) in omega arith;
  }

  pub shut_open : {es : Scope} {A : Agenda} {p : Place} {c : ℕ} → p.given ≡ [] → c < p.from → Shut eligible es A p c
  shut_open {p} {c} e h = record {
    shut = λ m U v s. let k : p.from ≤ c = floor_open (subst (λ (j : List ℕ). Floor (c ∷ m) j p.from) e s.floor) in omega arith;
  }

  sought_side : {es : Scope} {G : Goal} {n : ℕ} {A B : Agenda} (p : Place) {c : ℕ} {m F : List ℕ} {f : ℕ} {U : Items} {v : Bool}
      → Next (c ∷ []) p.given p.from F f → Sought eligible es B p (c ∷ m) U v → Reads es (task G n ∷ A) m U v
      → Sought eligible es (task G n ∷ A) (past_choice p c F f) m U v
  sought_side p {c} {m} k s r =
      let h : length (c ∷ m) ≤ p.room = s.short in
      record { reads = r; window = s.window; short = omega arith; chosen = chosen_right (c ∷ []) s.chosen; floor = floor_past m k s.floor }

  module _ {es : Scope} {G H : Goal} {n : ℕ} {A : Agenda} {p : Place} where
    -- what follows the choice is sought at the side
    past_left : {m : List ℕ} {U : Items} {v : Bool} → Sought eligible es (task (oplus G H) n ∷ A) p (left_choice ∷ m) U v → Reads es (task G n ∷ A) m U v
    past_left {m} {U} {v} s = ⊎_elim
        (λ c. subst (λ (k : List ℕ). Reads es (task G n ∷ A) k U v) (sym (tail-eq_of_cons-eq c.list)) c.side)
        (λ c. absurd (omega (arith, head-eq_of_cons-eq c.list))) (chose s)

    past_right : {m : List ℕ} {U : Items} {v : Bool} → Sought eligible es (task (oplus G H) n ∷ A) p (right_choice ∷ m) U v → Reads es (task H n ∷ A) m U v
    past_right {m} {U} {v} s = ⊎_elim (λ c. absurd (omega (arith, head-eq_of_cons-eq c.list)))
        (λ c. subst (λ (k : List ℕ). Reads es (task H n ∷ A) k U v) (sym (tail-eq_of_cons-eq c.list)) c.side) (chose s)

    -- past the choice nothing is sought
    pub shut_left : {F : List ℕ} {f : ℕ} → Next (left_choice ∷ []) p.given p.from F f
        → None eligible es (task G n ∷ A) (past_choice p left_choice F f) → Shut eligible es (task (oplus G H) n ∷ A) p left_choice
    shut_left k h = record { shut = λ m U v s. h.none m U v (sought_side p k s (past_left s)) }

    pub shut_right : {F : List ℕ} {f : ℕ} → Next (right_choice ∷ []) p.given p.from F f
        → None eligible es (task H n ∷ A) (past_choice p right_choice F f) → Shut eligible es (task (oplus G H) n ∷ A) p right_choice
    shut_right k h = record { shut = λ m U v s. h.none m U v (sought_side p k s (past_right s)) }

    -- both sides are shut
    pub choice_none : Shut eligible es (task (oplus G H) n ∷ A) p left_choice → Shut eligible es (task (oplus G H) n ∷ A) p right_choice → None eligible es (task (oplus G H) n ∷ A) p
    choice_none x y = record {
      none = λ l U v s. ⊎_elim
          (λ c. x.shut c.onward U v (subst (λ (k : List ℕ). Sought eligible es (task (oplus G H) n ∷ A) p k U v) c.list s))
          (λ c. y.shut c.onward U v (subst (λ (k : List ℕ). Sought eligible es (task (oplus G H) n ∷ A) p k U v) c.list s)) (chose s);
    }

    -- what is sought at the agenda, from the least list past a choice
    side_sought : {c : ℕ} {m F : List ℕ} {f : ℕ} {B : Agenda} {U : Items} {v : Bool} → eligible p.done c ≡ true → 1 ≤ p.room
        → Next (c ∷ []) p.given p.from F f → Sought eligible es B (past_choice p c F f) m U v → Reads es (task (oplus G H) n ∷ A) (c ∷ m) U v
        → Sought eligible es (task (oplus G H) n ∷ A) p (c ∷ m) U v
    side_sought {m = m} e h k s r = record {
      reads = r;
      window = s.window;
      short = let j : length m ≤ p.room - 1 = s.short in omega arith;
      chosen = chosen_both (step e none) s.chosen;
      floor = floor_on k s.floor;
    }

    -- the left side is solved
    pub choice_left : {m F : List ℕ} {f : ℕ} {U : Items} {v : Bool} → eligible p.done left_choice ≡ true → 1 ≤ p.room
        → Next (left_choice ∷ []) p.given p.from F f → Least eligible es (task G n ∷ A) (past_choice p left_choice F f) m U v
        → Least eligible es (task (oplus G H) n ∷ A) p (left_choice ∷ m) U v
    choice_left {m} {U = U} {v} e h k l = record {
      sought = side_sought e h k l.sought ((reads_⊕ es n G H A (left_choice ∷ m) U v).1 (inl (m, refl, l.sought.reads)));
      least = λ j W w s. ⊎_elim (λ c. at j c.onward W w c.list s) (λ c. inr (later j c.list)) (chose s);
    }
      where
        at : (j i : List ℕ) (W : Items) (w : Bool) → j ≡ left_choice ∷ i → Sought eligible es (task (oplus G H) n ∷ A) p j W w
            → (j ≡ left_choice ∷ m) ⊎ Before (left_choice ∷ m) j
        at j i W w q s =
            let t = subst (λ (k : List ℕ). Sought eligible es (task (oplus G H) n ∷ A) p k W w) q s in
            ⊎_map (λ z. q ∙ ap (λ (k : List ℕ). left_choice ∷ k) z) (λ b. subst (Before (left_choice ∷ m)) (sym q) (there b))
            (l.least i W w (sought_side p k t (past_left t)))

        later : (j : List ℕ) {i : List ℕ} → j ≡ right_choice ∷ i → Before (left_choice ∷ m) j
        later j {i} q = subst (Before (left_choice ∷ m)) (sym q) (here (omega arith))

    -- the left side is shut, and the right side is solved
    pub choice_right : {m F : List ℕ} {f : ℕ} {U : Items} {v : Bool} → Shut eligible es (task (oplus G H) n ∷ A) p left_choice → eligible p.done right_choice ≡ true
        → 1 ≤ p.room → Next (right_choice ∷ []) p.given p.from F f
        → Least eligible es (task H n ∷ A) (past_choice p right_choice F f) m U v → Least eligible es (task (oplus G H) n ∷ A) p (right_choice ∷ m) U v
    choice_right {m} {U = U} {v} x e h k l = record {
      sought = side_sought e h k l.sought ((reads_⊕ es n G H A (right_choice ∷ m) U v).1 (inr (m, refl, l.sought.reads)));
      least = λ j W w s. ⊎_elim
          (λ c. absurd (x.shut c.onward W w (subst (λ (k : List ℕ). Sought eligible es (task (oplus G H) n ∷ A) p k W w) c.list s)))
          (λ c. at j c.onward W w c.list s) (chose s);
    }
      where
        at : (j i : List ℕ) (W : Items) (w : Bool) → j ≡ right_choice ∷ i → Sought eligible es (task (oplus G H) n ∷ A) p j W w
            → (j ≡ right_choice ∷ m) ⊎ Before (right_choice ∷ m) j
        at j i W w q s =
            let t = subst (λ (k : List ℕ). Sought eligible es (task (oplus G H) n ∷ A) p k W w) q s in
            ⊎_map (λ z. q ∙ ap (λ (k : List ℕ). right_choice ∷ k) z) (λ b. subst (Before (right_choice ∷ m)) (sym q) (there b))
            (l.least i W w (sought_side p k t (past_right t)))

  -- The goal of a lend is answered with the clause lent, strict, and the answer stands without it.
  sought_lent : {es : Scope} {D : Clause} {G : Goal} {n : ℕ} (p : Place) {l : List ℕ} {U : Items} {v : Bool}
      → Sought eligible es (task (lolliᴳ D G) n ∷ []) p l U v
      → (W : Items) × Sought eligible (lend es D) (task G n ∷ []) (lent_place es p) l W v
  sought_lent {es} {D} {G} {n} p {l} {U} {v} s =
      let r = lent ((reads_alone es (task (lolliᴳ D G) n) l U v).0 s.reads) in
      (r.all, moved p s ((reads_alone (lend es D) (task G n) l r.all v).1 r.sum) (window_lent es r.rest r.used D s.window))

  -- stuck if its goal is stuck
  pub lend_none : {es : Scope} {D : Clause} {G : Goal} {n : ℕ} (p : Place)
      → None eligible (lend es D) (task G n ∷ []) (lent_place es p) → None eligible es (task (lolliᴳ D G) n ∷ []) p
  lend_none p h = record { none = λ l U v s. let r = sought_lent p s in h.none l r.0 v r.1 }

  -- solved as its goal is, without the lent item
  pub lend_least : {es : Scope} {D : Clause} {G : Goal} {n : ℕ} (p : Place) {l : List ℕ} {W : Items} {v : Bool}
      → Bounded es (p.strict ∪ p.lax) → Least eligible (lend es D) (task G n ∷ []) (lent_place es p) l W v
      → Least eligible es (task (lolliᴳ D G) n ∷ []) p l (W ∖ only (size es)) v
  lend_least {es} {D} {G} {n} p {l} {W} {v} b h =
      let k = window_lend es D p.strict p.lax W b h.sought.window in
      record {
        sought = record {
          reads = (reads_alone es (task (lolliᴳ D G) n) l (W ∖ only (size es)) v).1
              (sum_⊸ (only_without W (size es)) k.0 ((reads_alone (lend es D) (task G n) l W v).0 h.sought.reads));
          window = k.1;
          short = h.sought.short;
          chosen = h.sought.chosen;
          floor = h.sought.floor;
        };
        least = λ m X w s. let r = sought_lent p s in h.least m r.0 w r.1;
      }

  -- Nothing from no floor on is nothing from any floor on, with no more room and no more eligible lists.
  pub dead_none : {es : Scope} {A : Agenda} (p q : Place) → None eligible es A (unfloored p)
      → q.strict ≡ p.strict → q.lax ≡ p.lax → q.room ≤ p.room
      → ((m : List ℕ) → Chosen eligible q.done m → Chosen eligible p.done m) → None eligible es A q
  dead_none p q h e f r c = record {
    none = λ l U v s. h.none l U v (record {
      reads = s.reads;
      window = rw (← e) (rw (← f) s.window);
      short = let k : length l ≤ q.room = s.short in omega arith;
      chosen = c l s.chosen;
      floor = floor_none l;
    });
  }

  -- m begins with l and goes on with a list sought at C past it, or comes after every list that begins with l
  data Onward (es : Scope) (C : Agenda) (p : Place) (l m : List ℕ) : Type 0 where
    begins : (k : List ℕ) (W : Items) (w : Bool) → m ≡ l ++ k → Sought eligible es C p k W w → Onward es C p l m
    later : ((k : List ℕ) → Before (l ++ k) m) → Onward es C p l m

  -- A part, then what follows it: what is sought at the whole is a list sought at the part, and more.
  sought_part : {es : Scope} {B C A : Agenda} (p : Place) {r : ℕ} {S₁ L₁ : Items} {S₂ L₂ : Items → Bool → Items} {l : List ℕ}
      {U : Items} {v : Bool} (x : Parted es B C S₁ L₁ S₂ L₂ l) → Spares es C p.room r → Sought eligible es A p l U v
      → Sought eligible es B (holding p S₁ L₁ r) x.left x.mine x.slack
  sought_part {es} {A} p {r} {U} {v} x c s =
      let w = subst (λ (k : List ℕ). Sought eligible es A p k U v) x.list s in
      record {
        reads = x.first;
        window = x.before;
        short = omega (arith, w.short, length-append x.left x.right, c.spares x.right x.others x.slacks x.second);
        chosen = chosen_left x.left x.right w.chosen;
        floor = floor_left x.left x.right w.floor;
      }

  -- THEOREM. From the least list of the part, every list sought at the whole goes on past it or comes later.
  onward : {es : Scope} {B C A : Agenda} (p : Place) {r : ℕ} {S₁ L₁ : Items} {S₂ L₂ : Items → Bool → Items} {join : Bool → Bool → Bool}
      {l m F : List ℕ} {f : ℕ} {U W : Items} {v w : Bool}
      → Divides es B C A p.strict p.lax S₁ L₁ S₂ L₂ join → Spares es C p.room r
      → Least eligible es B (holding p S₁ L₁ r) l U v → Next l p.given p.from F f → Sought eligible es A p m W w
      → Onward es C (past p l F f (S₂ U v) (L₂ U v)) l m
  onward {es} {B} {C} {A} p {r} {S₁} {L₁} {S₂} {L₂} {l} {m} {F} {f} {U} {W} {v} {w} d c h k s = at (d.apart m W w s.reads s.window)
    where
      at : Parted es B C S₁ L₁ S₂ L₂ m → Onward es C (past p l F f (S₂ U v) (L₂ U v)) l m
      at x = ⊎_elim
          (λ e.
          let z = reads_same h.sought.reads x.first (sym e) in
          let y = subst (λ (j : List ℕ). Sought eligible es A p (j ++ x.right) W w) e
          (subst (λ (j : List ℕ). Sought eligible es A p j W w) x.list s) in
          begins x.right x.others x.slacks (x.list ∙ ap (λ (j : List ℕ). j ++ x.right) e) (record {
            reads = x.second;
            window = rw z.0 (rw z.1 x.past);
            short = omega (arith, y.short, length-append l x.right);
            chosen = chosen_right l y.chosen;
            floor = floor_past x.right k y.floor;
          }))
          (λ b. later (λ j. subst (Before (l ++ j)) (sym x.list) (before_both b j x.right)))
          (h.least x.left x.mine x.slack (sought_part p x c s))

  -- the part is stuck
  pub part_none : {es : Scope} {B C A : Agenda} (p : Place) {r : ℕ} {S₁ L₁ : Items} {S₂ L₂ : Items → Bool → Items}
      {join : Bool → Bool → Bool} → Divides es B C A p.strict p.lax S₁ L₁ S₂ L₂ join → Spares es C p.room r
      → None eligible es B (holding p S₁ L₁ r) → None eligible es A p
  part_none p d c h = record {
    none = λ l U v s. let x = d.apart l U v s.reads s.window in h.none x.left x.mine x.slack (sought_part p x c s);
  }

  -- the part and what follows it are solved
  pub part_solved : {es : Scope} {B C A : Agenda} (p : Place) {r : ℕ} {S₁ L₁ : Items} {S₂ L₂ : Items → Bool → Items}
      {join : Bool → Bool → Bool} {l m F : List ℕ} {f : ℕ} {U W : Items} {v w : Bool}
      → Divides es B C A p.strict p.lax S₁ L₁ S₂ L₂ join → Spares es C p.room r
      → Least eligible es B (holding p S₁ L₁ r) l U v → Next l p.given p.from F f
      → Least eligible es C (past p l F f (S₂ U v) (L₂ U v)) m W w → Least eligible es A p (l ++ m) (U ∪ W) (join v w)
  part_solved {es} {B} {C} {A} p {r} {S₁} {L₁} {S₂} {L₂} {join} {l} {m} {F} {f} {U} {W} {v} {w} d c h k g =
      let t = d.together l m U W v w h.sought.reads h.sought.window g.sought.reads g.sought.window in
      record {
        sought = record {
          reads = t.0;
          window = t.1;
          short = omega (arith, h.sought.short, g.sought.short, c.no_more, length-append l m);
          chosen = chosen_both h.sought.chosen g.sought.chosen;
          floor = floor_on k g.sought.floor;
        };
        least = λ j X x s. at (onward p d c h k s);
      }
    where
      at : {j : List ℕ} → Onward es C (past p l F f (S₂ U v) (L₂ U v)) l j → (j ≡ l ++ m) ⊎ Before (l ++ m) j
      at (begins j X x e s) = ⊎_map (λ z. e ∙ ap (λ (i : List ℕ). l ++ i) z) (λ b. rw e (before_behind l b)) (g.least j X x s)
      at (later b) = inr (b m)

  -- the part takes no steps, and what follows is stuck
  pub part_nosteps : {es : Scope} {B C A : Agenda} (p : Place) {r : ℕ} {S₁ L₁ : Items} {S₂ L₂ : Items → Bool → Items}
      {join : Bool → Bool → Bool} {U : Items} {v : Bool}
      → Divides es B C A p.strict p.lax S₁ L₁ S₂ L₂ join → Spares es C p.room r
      → Least eligible es B (holding p S₁ L₁ r) [] U v → None eligible es C (past p [] p.given p.from (S₂ U v) (L₂ U v))
      → None eligible es A p
  part_nosteps {es} {C} p {S₂} {L₂} {U} {v} d c h g = record { none = λ l X x s. at (onward p d c h next_here s) }
    where
      at : {l : List ℕ} → Onward es C (past p [] p.given p.from (S₂ U v) (L₂ U v)) [] l → ⊥
      at (begins j X x e s) = g.none j X x s
      at (later b) = not_after (b [])

  -- the part is solved, and what follows is stuck: the part goes on with its last step raised
  pub part_raise : {es : Scope} {B C A : Agenda} (p : Place) {r : ℕ} {S₁ L₁ : Items} {S₂ L₂ : Items → Bool → Items}
      {join : Bool → Bool → Bool} {F F' q : List ℕ} {f f' x : ℕ} {raised : Bool} {U : Items} {v : Bool}
      → Divides es B C A p.strict p.lax S₁ L₁ S₂ L₂ join → Spares es C p.room r
      → Raised eligible es B (holding p S₁ L₁ r) A p F f raised
      → Least eligible es B (holding (floored p F f) S₁ L₁ r) (q ++ (x ∷ [])) U v → Next (q ++ (x ∷ [])) F f F' f'
      → None eligible es C (past (floored p F f) (q ++ (x ∷ [])) F' f' (S₂ U v) (L₂ U v))
      → Raised eligible es B (holding p S₁ L₁ r) A p q (suc x) true
  part_raise {es} {B} {C} {A} p {r} {S₁} {L₁} {S₂} {L₂} {F} {F'} {q} {f} {f'} {x} {U} {v} d c t h k g = record {
    kept = λ l X y s. kept l (onward (floored p F f) d c h k
        (record { reads = s.reads; window = s.window; short = s.short; chosen = s.chosen; floor = t.kept l X y s }));
    higher = λ l b. raised_higher b top;
    fresh = λ e. absurd (false≢true (sym e));
    clear = λ e l X y s. clear l X y s (raised_before s.floor);
  }
    where
      top : Floor (q ++ (x ∷ [])) p.given p.from
      top = t.higher (q ++ (x ∷ [])) h.sought.floor

      kept : (l : List ℕ) → Onward es C (past (floored p F f) (q ++ (x ∷ [])) F' f' (S₂ U v) (L₂ U v)) (q ++ (x ∷ [])) l
          → Floor l q (suc x)
      kept l (begins j X y e s) = absurd (g.none j X y s)
      kept l (later b) = before_raised q (subst (λ (j : List ℕ). Before j l) (append-nil (q ++ (x ∷ []))) (b []))

      clear : (l : List ℕ) (X : Items) (y : Bool) → Sought eligible es B (floored (holding p S₁ L₁ r) q (suc x)) l X y
          → ((j : List ℕ) × (l ++ j ≡ q ++ (x ∷ []))) ⊎ Before (q ++ (x ∷ [])) l → Next l p.given p.from [] 0
      clear l X y s (inl e) =
          let a = reads_unique e.0 [] s.reads h.sought.reads (e.1 ∙ sym (append-nil (q ++ (x ∷ [])))) in
          absurd (not_raised q (subst (λ (j : List ℕ). Floor j q (suc x)) a.lists s.floor))
      clear l X y s (inr b) = before_next b top

  -- Raising begins with the place's own floor, and what is told at the raised floor holds at the place.
  -- nothing is raised yet
  pub raised_start : (es : Scope) (B : Agenda) (pp : Place) (A : Agenda) (p : Place)
      → Raised eligible es B pp A p p.given p.from false
  raised_start es B pp A p = record {
    kept = λ l U v s. s.floor;
    higher = λ l h. h;
    fresh = λ e. (refl, refl);
    clear = λ e. absurd (false≢true e);
  }

  sought_raised : {es : Scope} {B A : Agenda} {pp : Place} (p : Place) {F : List ℕ} {f : ℕ} {raised : Bool} {l : List ℕ} {U : Items}
      {v : Bool} → Raised eligible es B pp A p F f raised → Sought eligible es A p l U v → Sought eligible es A (floored p F f) l U v
  sought_raised p {l} {U} {v} t s =
      record { reads = s.reads; window = s.window; short = s.short; chosen = s.chosen; floor = t.kept l U v s }

  -- stuck at the raised floor is stuck at the place
  pub raised_none : {es : Scope} {B A : Agenda} {pp : Place} (p : Place) {F : List ℕ} {f : ℕ} {raised : Bool}
      → Raised eligible es B pp A p F f raised → None eligible es A (floored p F f) → None eligible es A p
  raised_none p t h = record { none = λ l U v s. h.none l U v (sought_raised p t s) }

  -- solved at the raised floor is solved at the place
  pub raised_least : {es : Scope} {B A : Agenda} {pp : Place} (p : Place) {F : List ℕ} {f : ℕ} {raised : Bool} {l : List ℕ} {U : Items}
      {v : Bool} → Raised eligible es B pp A p F f raised → Least eligible es A (floored p F f) l U v → Least eligible es A p l U v
  raised_least p {l} t h = record {
    sought = record {
      reads = h.sought.reads;
      window = h.sought.window;
      short = h.sought.short;
      chosen = h.sought.chosen;
      floor = t.higher l h.sought.floor;
    };
    least = λ m W w s. h.least m W w (sought_raised p t s);
  }

  -- Behind a task of its own.
  -- the task is stuck
  pub behind_none : {es : Scope} {t : Task} {A : Agenda} (p : Place) {r : ℕ} → Spares es A p.room r
      → None eligible es (t ∷ []) (lead p r) → None eligible es (t ∷ A) p
  behind_none {es} {t} {A} p c h = part_none p (behind_divides es t A p.strict p.lax) c h

  -- the task is solved, then the rest
  pub behind_solved : {es : Scope} {t : Task} {A : Agenda} (p : Place) {r : ℕ} {l m F : List ℕ} {f : ℕ} {U W : Items} {v w : Bool}
      → Spares es A p.room r → Least eligible es (t ∷ []) (lead p r) l U v → Next l p.given p.from F f
      → Least eligible es A (past_lead es p l F f U v) m W w → Least eligible es (t ∷ A) p (l ++ m) (U ∪ W) (v || w)
  behind_solved {es} {t} {A} p c h k g = part_solved p (behind_divides es t A p.strict p.lax) c h k g

  -- the task takes no steps and the rest is stuck
  pub behind_nosteps : {es : Scope} {t : Task} {A : Agenda} (p : Place) {r : ℕ} {U : Items} {v : Bool} → Spares es A p.room r
      → Least eligible es (t ∷ []) (lead p r) [] U v → None eligible es A (past_lead es p [] p.given p.from U v)
      → None eligible es (t ∷ A) p
  behind_nosteps {es} {t} {A} p c h g = part_nosteps p (behind_divides es t A p.strict p.lax) c h g

  -- the task is solved and the rest is stuck: its list is raised
  pub behind_raise : {es : Scope} {t : Task} {A : Agenda} (p : Place) {r : ℕ} {F F' q : List ℕ} {f f' x : ℕ} {raised : Bool} {U : Items}
      {v : Bool} → Spares es A p.room r → Raised eligible es (t ∷ []) (lead p r) (t ∷ A) p F f raised
      → Least eligible es (t ∷ []) (lead (floored p F f) r) (q ++ (x ∷ [])) U v → Next (q ++ (x ∷ [])) F f F' f'
      → None eligible es A (past_lead es (floored p F f) (q ++ (x ∷ [])) F' f' U v)
      → Raised eligible es (t ∷ []) (lead p r) (t ∷ A) p q (suc x) true
  behind_raise {es} {t} {A} p c s h k g = part_raise p (behind_divides es t A p.strict p.lax) c s h k g

  -- Either way.
  -- the left part is stuck
  pub either_none : {es : Scope} {G H : Goal} {n : ℕ} (p : Place) {r : ℕ} → Spares es (task H n ∷ []) p.room r
      → None eligible es (task G n ∷ []) (holding p p.strict p.lax r) → None eligible es (task (with G H) n ∷ []) p
  either_none {es} {G} {H} {n} p c h = part_none p (either_divides es n G H p.strict p.lax) c h

  -- both parts are solved
  pub either_solved : {es : Scope} {G H : Goal} {n : ℕ} (p : Place) {r : ℕ} {l m F : List ℕ} {f : ℕ} {U W : Items} {v w : Bool}
      → Spares es (task H n ∷ []) p.room r → Least eligible es (task G n ∷ []) (holding p p.strict p.lax r) l U v
      → Next l p.given p.from F f → Least eligible es (task H n ∷ []) (past_with es p l F f U v) m W w
      → Least eligible es (task (with G H) n ∷ []) p (l ++ m) (U ∪ W) (v && w)
  either_solved {es} {G} {H} {n} p c h k g = part_solved p (either_divides es n G H p.strict p.lax) c h k g

  -- the left part takes no steps and the right part is stuck
  pub either_nosteps : {es : Scope} {G H : Goal} {n : ℕ} (p : Place) {r : ℕ} {U : Items} {v : Bool}
      → Spares es (task H n ∷ []) p.room r → Least eligible es (task G n ∷ []) (holding p p.strict p.lax r) [] U v
      → None eligible es (task H n ∷ []) (past_with es p [] p.given p.from U v) → None eligible es (task (with G H) n ∷ []) p
  either_nosteps {es} {G} {H} {n} p c h g = part_nosteps p (either_divides es n G H p.strict p.lax) c h g

  -- the left part is solved and the right part is stuck: its list is raised
  pub either_raise : {es : Scope} {G H : Goal} {n : ℕ} (p : Place) {r : ℕ} {F F' q : List ℕ} {f f' x : ℕ} {raised : Bool} {U : Items}
      {v : Bool} → Spares es (task H n ∷ []) p.room r
      → Raised eligible es (task G n ∷ []) (holding p p.strict p.lax r) (task (with G H) n ∷ []) p F f raised
      → Least eligible es (task G n ∷ []) (holding (floored p F f) p.strict p.lax r) (q ++ (x ∷ [])) U v
      → Next (q ++ (x ∷ [])) F f F' f'
      → None eligible es (task H n ∷ []) (past_with es (floored p F f) (q ++ (x ∷ [])) F' f' U v)
      → Raised eligible es (task G n ∷ []) (holding p p.strict p.lax r) (task (with G H) n ∷ []) p q (suc x) true
  either_raise {es} {G} {H} {n} p c s h k g = part_raise p (either_divides es n G H p.strict p.lax) c s h k g
