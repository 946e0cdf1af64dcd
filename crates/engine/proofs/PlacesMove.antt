-- Where a branch stands, after each change of it: the tape, the floor on it, and the items.
use Prim.Native.Nat.{ℕ, ◌+◌, ◌-◌, ◌≤◌, ◌<◌}
use native.Mathlib.Omega.{arith}
use native.Mathlib.Numerals.{add-one}
use mathlib.Core.Path.{◌≡◌, refl, sym, ◌∙◌, ap}
use mathlib.Core.Bool.{Bool, true, false, cond}
use mathlib.Core.List.{List, [], ◌∷◌, ◌++◌}
use lib.ListN.{length, get_or, take, drop, set, take-append-drop, length-take, drop_of_length-le}
use lib.Seq.{slice, take-take, drop-append-le, slice-cons, get_or-take, get_or-set_same, length-take-le, length-slice, take-suc-set}
use lib.Dec.{leb, ltb}
use borrow.Author.Tests.{le-leb, lt-leb, leb-true, leb-false, lt-ltb, le-ltb}
use Rattle.calculus.specs.Items.{Items, ∅, ◌∪◌, ◌∖◌, only}
use Rattle.calculus.specs.Derivation.{Scope, size, linear_at}
use Rattle.calculus.specs.Inner.Summary.{spare}
use Rattle.calculus.specs.Inner.Window.{tensor_strict, tensor_lax, with_strict, with_lax}
use Rattle.lines.specs.declared.LineSet.{LineSet}
use Rattle.lines.specs.Set.{empty_s, add_s, take_s, cut_s, join_s}
use Rattle.scope.specs.Inner.Sets.{items}
use Rattle.scope.specs.Inner.Tables.{Kept}
use Rattle.scope.proofs.SetsAreItems.{items_empty, items_join, items_cut, items_add, items_take}
use Rattle.entries.proofs.TablesAreScopes.{scope_kept, entered_kept}
use Rattle.agenda.specs.Inner.Order.{Next}
use Rattle.agenda.specs.Inner.Sought.{floored, lead, past, past_lead, past_with, lent_place, past_use, spent, spending}
use Rattle.branch.specs.declared.Branch.{Branch}
use Rattle.branch.specs.declared.Way.{Way}
use Rattle.branch.specs.declared.Floor.{Floor}
use Rattle.branch.specs.Inner.Values.{lead_b, past_tensor_b, past_with_b, lent_b, using_b}
use Rattle.choice.specs.Inner.Choice.{given_at, from_at}
use Rattle.moves.specs.Inner.Moves.{raised_f}
use Rattle.engine.specs.Inner.Engine.{place_at, Ready}

-- the floor of the entries from the given one on
abbrev pub open_f : Branch → ℕ → Floor
open_f b first = record { fixed = b.at; from = first }

-- Lists on the tape

-- two runs of steps on the tape, one behind the other
pub slices : (a m z : ℕ) (t t' : List ℕ) → Kept m t t' → a ≤ m → m ≤ z → m ≤ length t → slice a m t ++ slice m z t' ≡ slice a z t'
slices a m z t t' k h i j =
    ap (λ l. drop a l ++ slice m z t') (sym k.same)
    ∙ sym (drop-append-le a (take m t') (slice m z t') (rw (length-take-le m t' (let e = k.size in omega arith)) h))
    ∙ ap (drop a) (ap (λ l. l ++ slice m z t') (sym (take-take m z t' i)) ∙ take-append-drop m (take z t'))

-- the steps up to z are those up to a and the run from there
pub taken_run : (a z : ℕ) (t t' : List ℕ) → Kept a t t' → a ≤ z → take z t' ≡ take a t ++ slice a z t'
taken_run a z t t' k h =
    sym (take-append-drop a (take z t')) ∙ ap (λ l. l ++ slice a z t') (take-take a z t' h ∙ k.same)

pub run_length : (a z : ℕ) (t : List ℕ) → z ≤ length t → length (slice a z t) ≡ z - a
run_length a z t h = length-slice a z t h

-- a step on the tape, and what is behind it
pub run_cons : (a z : ℕ) (t : List ℕ) → a < z → z ≤ length t → slice a z t ≡ get_or t a 0 ∷ slice (a + 1) z t
run_cons a z t h k = slice-cons a z t 0 h k ∙ ap (λ n. get_or t a 0 ∷ slice n z t) (sym (add-one a))

-- a step that was written stays where the tape is kept
pub written : (a e : ℕ) (t t' : List ℕ) → a < length t → Kept (a + 1) (set t a e) t' → get_or t' a 0 ≡ e
written a e t t' h k =
    sym (get_or-take (a + 1) t' a 0 (omega arith))
    ∙ ap (λ u. get_or u a 0) k.same
    ∙ get_or-take (a + 1) (set t a e) a 0 (omega arith)
    ∙ get_or-set_same t a e 0 h

-- The floor on the tape

pub given_run : (f : Floor) (a : ℕ) (t : List ℕ) → given_at f a t ≡ slice a f.fixed t
unfolding given_at
given_run f a t = refl

-- past the given steps there are none, and then no least step either
pub given_past : (f : Floor) (a : ℕ) (t : List ℕ) → f.fixed ≤ a → given_at f a t ≡ []
unfolding given_at
given_past f a t h = drop_of_length-le (take f.fixed t) {i = a} (rw (length-take f.fixed t) (omega arith))

pub from_here : (f : Floor) (a : ℕ) → a ≤ f.fixed → from_at f a ≡ f.from
unfolding from_at
from_here f a h = rw (le-leb a f.fixed h) refl

pub from_past : (f : Floor) (a : ℕ) → f.fixed < a → from_at f a ≡ 0
unfolding from_at
from_past f a h = rw (lt-leb a f.fixed h) refl

-- past a list where none is given any more there is no floor at all
pub floor_gone : (f : Floor) (a : ℕ) (t : List ℕ) → f.fixed < a → (given_at f a t ≡ []) × (from_at f a ≡ 0)
floor_gone f a t h = (given_past f a t (omega arith), from_past f a h)

-- the floor of an entry to begin with
pub open_floor : (b : Branch) (first : ℕ) (t : List ℕ) → (given_at (open_f b first) b.at t ≡ []) × (from_at (open_f b first) b.at ≡ first)
open_floor b first t = (
  given_past (open_f b first) b.at t (omega arith),
  from_here (open_f b first) b.at (omega arith),
)

-- a given step and those behind it
pub given_step : (f : Floor) (a : ℕ) (t : List ℕ) → a < f.fixed → f.fixed ≤ length t
    → given_at f a t ≡ get_or t a 0 ∷ given_at f (a + 1) t
unfolding given_at
given_step f a t h k = run_cons a f.fixed t h k

-- the list with its last step raised, as a floor
pub raised_given : (t : List ℕ) (a z : ℕ) → given_at (raised_f t z) a t ≡ slice a (z - 1) t
unfolding given_at raised_f
raised_given t a z = refl

-- Places

-- the same place with another floor
pub floor_place : (P : ℕ) (f g : Floor) (b : Branch) (t t' : List ℕ) → take b.at t' ≡ take b.at t
    → place_at P g b t' ≡ floored (place_at P f b t) (given_at g b.at t') (from_at g b.at)
unfolding place_at
floor_place P f g b t t' k = λ i. record {
  done = k i;
  given = given_at g b.at t';
  from = from_at g b.at;
  strict = items P b.strict;
  lax = items P b.lax;
  room = b.limit - b.at;
}

-- a part with more behind it
pub lead_place : (P : ℕ) (f : Floor) (b : Branch) (t : List ℕ) → place_at P f (lead_b b) t ≡ lead (place_at P f b t) (b.limit - b.at)
unfolding place_at
lead_place P f b t = λ i. record {
  done = take b.at t;
  given = given_at f b.at t;
  from = from_at f b.at;
  strict = items_empty P i;
  lax = items_join P b.strict b.lax i;
  room = b.limit - b.at;
}

-- past a list on the tape, with other items
pub past_place : (P : ℕ) (f h : Floor) (b b' : Branch) (t t' : List ℕ) → Kept b.at t t' → b.at ≤ b'.at → b'.at ≤ length t
    → b'.limit ≡ b.limit → {S L : Items} → items P b'.strict ≡ S → items P b'.lax ≡ L
    → place_at P h b' t' ≡ past (place_at P f b t) (slice b.at b'.at t') (given_at h b'.at t') (from_at h b'.at) S L
unfolding place_at
past_place P f h b b' t t' k on top same s l = λ i. record {
  done = taken_run b.at b'.at t t' k on i;
  given = given_at h b'.at t';
  from = from_at h b'.at;
  strict = s i;
  lax = l i;
  room = room_left i;
}
  where
    room_left : b'.limit - b'.at ≡ (b.limit - b.at) - length (slice b.at b'.at t')
    room_left = let e = run_length b.at b'.at t' (let z = k.size in omega arith) in rw (e, same) (omega arith)

-- The items of the branches behind a part

module _ (es : Scope) (P : ℕ) where
  tensor_strict_items : (v : Bool) (s t : LineSet)
      → items P (cond v empty_s (cut_s s t)) ≡ tensor_strict (spare es v) (items P s) (items P t)
  unfolding tensor_strict spare ∅
  tensor_strict_items true s t = items_empty P
  tensor_strict_items false s t = items_cut P s t

  tensor_lax_items : (v : Bool) (s l t : LineSet)
      → items P (cond v (cut_s (join_s s l) t) (cut_s l t)) ≡ tensor_lax (spare es v) (items P s) (items P l) (items P t)
  unfolding tensor_lax spare
  tensor_lax_items true s l t = items_cut P (join_s s l) t ∙ ap (λ I. I ∖ items P t) (items_join P s l)
  tensor_lax_items false s l t = items_cut P l t

  with_strict_items : (v : Bool) (s t : LineSet) → items P (cond v (join_s s t) t) ≡ with_strict (spare es v) (items P s) (items P t)
  unfolding with_strict spare
  with_strict_items true s t = items_join P s t
  with_strict_items false s t = refl

  with_lax_items : (v : Bool) (l t : LineSet) → items P (cond v (cut_s l t) empty_s) ≡ with_lax (spare es v) (items P l) (items P t)
  unfolding with_lax spare ∅
  with_lax_items true l t = items_cut P l t
  with_lax_items false l t = items_empty P

  -- the rest of the segment, and the right part of a &, past a way w
  pub past_tensor_place : (f h : Floor) (b : Branch) (w : Way) (t t' : List ℕ) → Kept b.at t t' → b.at ≤ w.at → w.at ≤ length t
      → place_at P h (past_tensor_b b w) t'
      ≡ past_lead es (place_at P f b t) (slice b.at w.at t') (given_at h w.at t') (from_at h w.at) (items P w.used) w.slack
  unfolding past_tensor_b place_at
  past_tensor_place f h b w t t' k on top =
      past_place P f h b (past_tensor_b b w) t t' k on top refl (tensor_strict_items w.slack b.strict w.used)
      (tensor_lax_items w.slack b.strict b.lax w.used)

  pub past_with_place : (f h : Floor) (b : Branch) (w : Way) (t t' : List ℕ) → Kept b.at t t' → b.at ≤ w.at → w.at ≤ length t
      → place_at P h (past_with_b b w) t'
      ≡ past_with es (place_at P f b t) (slice b.at w.at t') (given_at h w.at t') (from_at h w.at) (items P w.used) w.slack
  unfolding past_with_b place_at
  past_with_place f h b w t t' k on top =
      past_place P f h b (past_with_b b w) t t' k on top refl (with_strict_items w.slack b.strict w.used)
      (with_lax_items w.slack b.lax w.used)

-- Past the use of an entry

module _ (es : Scope) (P e : ℕ) (l : linear_at es e ≡ leb P e) where
  -- what a rule leaves as it is, by the two tests of its number
  by_rule : (x y : LineSet) (c : Bool) → leb P e ≡ c → cond (ltb e P) x y ≡ cond c y x
  by_rule x y true q = rw (le-ltb e P (leb-true P e q)) refl
  by_rule x y false q = rw (lt-ltb e P (leb-false P e q)) refl

  pub spent_items : (s : LineSet) → items P (cond (ltb e P) s (take_s s (e - P))) ≡ spent es e (items P s)
  unfolding spent
  spent_items s = ap (items P) (by_rule s (take_s s (e - P)) (leb P e) refl) ∙ rw l (at (leb P e) refl)
    where
      at : (c : Bool) → leb P e ≡ c → items P (cond c (take_s s (e - P)) s) ≡ cond c (items P s ∖ only e) (items P s)
      at true p = items_take P s e (leb-true P e p)
      at false p = refl

  pub spending_items : (s : LineSet) → e - P < 192 → items P (cond (ltb e P) s (add_s s (e - P))) ≡ spending es e (items P s)
  unfolding spending
  spending_items s h = ap (items P) (by_rule s (add_s s (e - P)) (leb P e) refl) ∙ rw l (at (leb P e) refl)
    where
      at : (c : Bool) → leb P e ≡ c → items P (cond c (add_s s (e - P)) s) ≡ cond c (items P s ∪ only e) (items P s)
      at true p = items_add P s e (leb-true P e p) h
      at false p = refl

  pub use_place : (T len : ℕ) (f h : Floor) (b : Branch) (t : List ℕ) → b.at < length t
      → place_at P h (using_b b P T e len) (set t b.at e)
      ≡ past_use es (place_at P f b t) e (given_at h (b.at + 1) (set t b.at e)) (from_at h (b.at + 1))
  unfolding using_b place_at
  use_place T len f h b t top = λ i. record {
    done = one_more i;
    given = given_at h (b.at + 1) (set t b.at e);
    from = from_at h (b.at + 1);
    strict = spent_items b.strict i;
    lax = spent_items b.lax i;
    room = room_left i;
  }
    where
      one_more : take (b.at + 1) (set t b.at e) ≡ take b.at t ++ (e ∷ [])
      one_more = ap (λ n. take n (set t b.at e)) (add-one b.at) ∙ take-suc-set t b.at e top

      room_left : b.limit - (b.at + 1) ≡ (b.limit - b.at) - 1
      room_left = omega arith

-- The goal of a lend

pub lent_place_lem : (es : Scope) (P : ℕ) (f : Floor) (b : Branch) (t : List ℕ) → size es ≡ b.count → P ≤ b.count → b.count - P < 192
    → place_at P f (lent_b b (b.count - P)) t ≡ lent_place es (place_at P f b t)
unfolding place_at
lent_place_lem es P f b t e h k = λ i. record {
  done = take b.at t;
  given = given_at f b.at t;
  from = from_at f b.at;
  strict = joins i;
  lax = items P b.lax;
  room = b.limit - b.at;
}
  where
    joins : items P (add_s b.strict (b.count - P)) ≡ items P b.strict ∪ only (size es)
    joins = rw e (items_add P b.strict b.count h k)

-- What two parts of the engine's laws need

-- tape and tables changed behind what the branch needs
pub ready_moved : {bs waits tape tape' nodes nodes' heads heads' : List ℕ} {f : Floor} (g : Floor) {b : Branch}
    → Ready bs waits tape nodes heads f b → Kept b.at tape tape' → Kept b.count nodes nodes' → Kept b.count heads heads'
    → g.fixed ≤ 255 → g.from ≤ 256 → Ready bs waits tape' nodes' heads' g b
ready_moved {bs} {nodes} {nodes'} {heads} {heads'} g {b} r t n h x y = record {
  sound = r.sound;
  waiting = r.waiting;
  tape_room = t.size ∙ r.tape_room;
  entered = entered_kept nodes' heads' r.entered (n.size ∙ r.entered.node_room) (h.size ∙ r.entered.head_room)
      (sym n.same) (sym h.same);
  scoped = r.scoped;
  few = r.few;
  at = r.at;
  limit = r.limit;
  fixed = x;
  from = y;
  bounded = rw (scope_kept bs nodes' nodes b.count n.same) r.bounded;
  seen = rw t.same r.seen;
  counted = r.counted;
}

pub next_from : {l F₁ F₂ F : List ℕ} {f₁ f₂ f : ℕ} → (F₁ ≡ F₂) × (f₁ ≡ f₂) → Next l F₁ f₁ F f → Next l F₂ f₂ F f
next_from e n = rw (← e.0, ← e.1) n

pub from_low : (f : Floor) (a : ℕ) → f.from ≤ 256 → from_at f a ≤ 256
unfolding from_at
from_low f a h = at (leb a f.fixed)
  where
    at : (c : Bool) → cond c f.from 0 ≤ 256
    at true = h
    at false = omega arith
