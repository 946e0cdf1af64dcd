-- A part whose list is raised in place where what follows finds nothing: what holds at each turn, and what a turn tells.
use Prim.Native.Nat.{ℕ, suc, ◌-◌, ◌≤◌, ◌<◌}
use native.Mathlib.Omega.{arith}
use native.Mathlib.Numerals.{add-one}
use mathlib.Core.Path.{◌≡◌, refl, sym, ◌∙◌, ap, subst, fun_ext}
use mathlib.Core.Bool.{Bool, true, false, cond, not, ◌&&◌, ◌||◌, false≢true}
use mathlib.Core.List.{List, [], ◌∷◌, ◌++◌}
use lib.ListN.{length, get_or, take}
use lib.Seq.{slice}
use lib.Dec.{leb}
use Rattle.calculus.specs.Items.{Items, ∅, ◌∪◌, Within}
use Rattle.calculus.specs.Derivation.{Scope}
use Rattle.calculus.proofs.SetLaws.{◌≐◌, table, ∅_∪_within}
use Rattle.calculus.proofs.SummaryExact.{bounded_within}
use Rattle.card.specs.Format.{rule_count, byte_at}
use Rattle.scope.specs.Inner.Sets.{items}
use Rattle.scope.specs.Inner.Tables.{Kept}
use Rattle.scope.proofs.SetsAreItems.{items_empty, items_join}
use Rattle.scope.proofs.TablesAreScopes.{kept_again, kept_self}
use Rattle.entries.specs.Inner.Entries.{scope_in}
use Rattle.entries.specs.Inner.Twins.{eligible}
use Rattle.entries.specs.Inner.Masks.{Seen}
use Rattle.entries.proofs.TablesAreScopes.{scope_kept}
use Rattle.agenda.specs.Inner.Agenda.{Agenda}
use Rattle.agenda.specs.Inner.Order.{Next, next_here}
use Rattle.agenda.specs.Inner.Order.{Floor as FloorOf}
use Rattle.agenda.specs.Inner.Sought.{Place, floored, holding, past, Spares, None, Least, Raised}
use Rattle.agenda.proofs.ListsOrdered.{next_append, next_none}
use Rattle.agenda.proofs.WindowsDivide.{Divides}
use Rattle.agenda.proofs.SearchTells.{part_none, part_solved, part_nosteps, part_raise, raised_start, raised_none, raised_least}
use Rattle.branch.specs.declared.Branch.{Branch}
use Rattle.branch.specs.declared.Way.{Way}
use Rattle.branch.specs.declared.Floor.{Floor}
use Rattle.branch.specs.Inner.Values.{Counted, Stuck, Tired}
use Rattle.branch.specs.Inner.Values.{lead_b, own_b, past_f}
use Rattle.branch.proofs.CountsKept.{counted_freed}
use Rattle.choice.specs.Inner.Choice.{given_at, from_at}
use Rattle.moves.specs.Inner.Moves.{raised_f}
use Rattle.engine.specs.Inner.Engine.{place_at, Ready, Fresh}
use Rattle.engine.specs.Inner.Engine.{Told, Searches}
use Rattle.engine.proofs.PlacesMove.{ready_moved, next_from, from_low, run_length, given_run, given_past, from_here, raised_given, floor_place}
use Rattle.engine.proofs.RaisesEnd.{ByteSteps, left_over, raise_falls, run_last, bytes_run}

-- Items and slack, gathered

pub or_assoc : (a b c : Bool) → ((a || b) || c) ≡ (a || (b || c))
or_assoc = table 3 (λ a b c. ((a || b) || c) ≐ (a || (b || c))) refl

pub ∪_assoc : (I J K : Items) → (I ∪ J) ∪ K ≡ I ∪ (J ∪ K)
unfolding ◌∪◌
∪_assoc I J K = fun_ext (λ i. or_assoc (I i) (J i) (K i))

pub ∅_∪ : (I : Items) → ∅ ∪ I ≡ I
unfolding ◌∪◌ ∅
∅_∪ I = refl

-- Floors

-- no floor
abbrev zero_f : Floor
zero_f = record { fixed = 0; from = 0 }

zero_given : (z : ℕ) (t : List ℕ) → given_at zero_f z t ≡ []
zero_given z t = given_past zero_f z t (omega arith)

zero_from : (z : ℕ) → from_at zero_f z ≡ 0
unfolding from_at
zero_from z = at (leb z 0)
  where
    at : (c : Bool) → ◌≡◌ {A = ℕ} (cond c 0 0) 0
    at true = refl
    at false = refl

-- no steps leave the floor as it is
next_nil : {F F' : List ℕ} {f f' : ℕ} → Next [] F f F' f' → (F' ≡ F) × (f' ≡ f)
next_nil next_here = (refl, refl)

next_to : {l F F' F'' : List ℕ} {f f' f'' : ℕ} → F'' ≡ F' → f'' ≡ f' → Next l F f F' f' → Next l F f F'' f''
next_to e d n = rw e (rw d n)

off : (a b : Bool) → (a && (b && false)) ≡ false
off = table 2 (λ a b. (a && (b && false)) ≐ false) refl

off_left : (a b : Bool) → (a && (false && b)) ≡ false
off_left = table 2 (λ a b. (a && (false && b)) ≐ false) refl

-- past the given steps altogether
past_off : (f : Floor) (kept : Bool) (z : ℕ) (t : List ℕ) {l F : List ℕ} {n : ℕ} → kept ≡ false → Next l F n [] 0
    → Next l F n (given_at (past_f f kept) z t) (from_at (past_f f kept) z)
unfolding past_f
past_off f true z t e n = absurd (false≢true (sym e))
past_off f false z t e n = next_to (zero_given z t) (zero_from z) n

off_past : (g : Floor) (a : ℕ) (t : List ℕ) {l F : List ℕ} {n : ℕ}
    → Next l F n (given_at (past_f g false) a t) (from_at (past_f g false) a) → Next l F n [] 0
unfolding past_f
off_past g a t n = next_to (sym (zero_given a t)) (sym (zero_from a)) n

-- The floor past the whole, from those past the two parts; the first may have been raised.
pub past_whole : (f g : Floor) (fresh wk vk : Bool) (a z : ℕ) (t t' : List ℕ) {F₀ F₁ l m : List ℕ} {f₀ f₁ : ℕ}
    → (fresh ≡ true → g ≡ f) → (fresh ≡ true → (F₁ ≡ F₀) × (f₁ ≡ f₀)) → (fresh ≡ false → Next l F₀ f₀ [] 0)
    → Next l F₁ f₁ (given_at (past_f g wk) a t) (from_at (past_f g wk) a)
    → Next m (given_at (past_f g wk) a t) (from_at (past_f g wk) a)
    (given_at (past_f (past_f g wk) vk) z t') (from_at (past_f (past_f g wk) vk) z)
    → Next (l ++ m) F₀ f₀ (given_at (past_f f (vk && (wk && fresh))) z t') (from_at (past_f f (vk && (wk && fresh))) z)
unfolding past_f
past_whole f g true true true a z t t' {F₀} {l} {m} {f₀} e s c x y =
    subst (λ (h : Floor). Next (l ++ m) F₀ f₀ (given_at h z t') (from_at h z)) (e refl) (next_append (next_from (s refl) x) y)
past_whole f g true true false a z t t' e s c x y = next_append (next_from (s refl) x) y
past_whole f g true false vk a z t t' {m} e s c x y =
    past_off f (vk && (false && true)) z t' (off_left vk true) (next_none m (off_past g a t (next_from (s refl) x)))
past_whole f g false wk vk a z t t' {m} e s c x y =
    past_off f (vk && (wk && false)) z t' (off vk wk) (next_none m (c refl))

-- What the calls ask

past_low : (g : Floor) (kept : Bool) → g.fixed ≤ 255 → g.from ≤ 256 → ((past_f g kept).fixed ≤ 255) × ((past_f g kept).from ≤ 256)
unfolding past_f
past_low g true h k = (h, k)
past_low g false h k = (omega arith, omega arith)

-- a part with more behind it
pub ready_lead : {bs waits tape nodes heads : List ℕ} {g : Floor} {b : Branch} → Ready bs waits tape nodes heads g b
    → Ready bs waits tape nodes heads g (lead_b b)
ready_lead {bs} {nodes} {b} r = record {
  sound = r.sound;
  waiting = r.waiting;
  tape_room = r.tape_room;
  entered = r.entered;
  scoped = r.scoped;
  few = r.few;
  at = r.at;
  limit = r.limit;
  fixed = r.fixed;
  from = r.from;
  bounded = rw (items_empty (rule_count bs), items_join (rule_count bs) b.strict b.lax)
      (bounded_within (∅_∪_within (items (rule_count bs) b.strict ∪ items (rule_count bs) b.lax)) r.bounded);
  seen = r.seen;
  counted = counted_freed b;
}

-- a segment of its own
pub ready_own : {bs waits tape nodes heads : List ℕ} {g : Floor} {b : Branch} → Ready bs waits tape nodes heads g b
    → Ready bs waits tape nodes heads g (own_b b)
ready_own r = record {
  sound = r.sound;
  waiting = r.waiting;
  tape_room = r.tape_room;
  entered = r.entered;
  scoped = r.scoped;
  few = r.few;
  at = r.at;
  limit = r.limit;
  fixed = r.fixed;
  from = r.from;
  bounded = r.bounded;
  seen = r.seen;
  counted = r.counted;
}

pub fresh_lead : (b : Branch) → Fresh (lead_b b)
fresh_lead b = record { len = refl; used = refl; slack = refl }

pub fresh_own : (b : Branch) → Fresh (own_b b)
fresh_own b = record { len = refl; used = refl; slack = refl }

-- past a way, on the tape as the way left it
pub ready_past : {bs waits tape tape' nodes nodes' heads heads' : List ℕ} (g : Floor) {b : Branch} (b' : Branch) (kept : Bool)
    → Ready bs waits tape nodes heads g b → Kept b.at tape tape' → Kept b.count nodes nodes' → Kept b.count heads heads'
    → b'.count ≡ b.count → b'.limit ≡ b.limit → b'.at ≤ b.limit → Seen bs b'.seen (take b'.at tape')
    → Within (items (rule_count bs) b'.strict ∪ items (rule_count bs) b'.lax)
    (items (rule_count bs) b.strict ∪ items (rule_count bs) b.lax)
    → Counted b' → Ready bs waits tape' nodes' heads' (past_f g kept) b'
ready_past {bs} {waits} {tape'} {nodes'} {heads'} g {b} b' kept r t n h c l a s w k =
    let low = past_low g kept r.fixed r.from in
    let q = ready_moved g r t n h r.fixed r.from in
    record {
      sound = q.sound;
      waiting = q.waiting;
      tape_room = q.tape_room;
      entered = rw c q.entered;
      scoped = rw c q.scoped;
      few = rw c q.few;
      at = rw l a;
      limit = rw l q.limit;
      fixed = low.0;
      from = low.1;
      bounded = rw c (bounded_within w q.bounded);
      seen = s;
      counted = k;
    }

-- What holds at the head of a loop that raises the list of a part in place. B is the part, sought at pp; A is the whole; the tape and the
-- tables at the call are tape₀, nodes₀, heads₀, the floor f.
pub record Turns (bs waits : List ℕ) (B : Agenda) (pp : Place) (A : Agenda) (f g : Floor) (b : Branch)
    (tape₀ tape nodes₀ nodes heads₀ heads : List ℕ) (fresh : Bool) : Type 0 where
  pub ready : Ready bs waits tape nodes heads g b
  pub tape_kept : Kept b.at tape₀ tape
  pub node_kept : Kept b.count nodes₀ nodes
  pub head_kept : Kept b.count heads₀ heads
  pub same_floor : fresh ≡ true → g ≡ f
  pub bytes : fresh ≡ false → ByteSteps (given_at g b.at tape)
  pub raised : Raised (eligible bs) (scope_in bs nodes₀ b.count) B pp A (place_at (rule_count bs) f b tape₀) (given_at g b.at tape)
      (from_at g b.at) (not fresh)

pub turns_start : {bs waits tape nodes heads : List ℕ} (B : Agenda) (pp : Place) (A : Agenda) {f : Floor} {b : Branch}
    → Ready bs waits tape nodes heads f b → Turns bs waits B pp A f f b tape tape nodes nodes heads heads true
unfolding place_at
turns_start {bs} {tape} {nodes} {heads} B pp A {f} {b} r = record {
  ready = r;
  tape_kept = kept_self b.at tape;
  node_kept = kept_self b.count nodes;
  head_kept = kept_self b.count heads;
  same_floor = λ e. refl;
  bytes = λ e. absurd (false≢true (sym e));
  raised = raised_start (eligible bs) (scope_in bs nodes b.count) B pp A (place_at (rule_count bs) f b tape);
}

spares_all : (es : Scope) (A : Agenda) (r : ℕ) → Spares es A r r
spares_all es A r = record { no_more = omega arith; spares = λ m U v s. omega arith }

-- One turn of such a loop, over any division of the window.
module _ (el : List ℕ → ℕ → Bool) {es : Scope} {B C A : Agenda} (p : Place) {S₁ L₁ : Items} {S₂ L₂ : Items → Bool → Items}
    {join : Bool → Bool → Bool} (d : Divides es B C A p.strict p.lax S₁ L₁ S₂ L₂ join) {F : List ℕ} {f : ℕ} {raised : Bool}
    (t : Raised el es B (holding p S₁ L₁ p.room) A p F f raised) where
  -- the part is stuck
  pub turn_none : None el es B (holding (floored p F f) S₁ L₁ p.room) → None el es A p
  turn_none h = raised_none el p t (part_none el (floored p F f) d (spares_all es C p.room) h)

  module _ {l F' : List ℕ} {f' : ℕ} {U : Items} {v : Bool} (h : Least el es B (holding (floored p F f) S₁ L₁ p.room) l U v)
      (k : Next l F f F' f') where
    -- the part and what follows are solved
    pub turn_least : {m : List ℕ} {W : Items} {w : Bool} → Least el es C (past (floored p F f) l F' f' (S₂ U v) (L₂ U v)) m W w
        → Least el es A p (l ++ m) (U ∪ W) (join v w)
    turn_least g = raised_least el p t (part_solved el (floored p F f) d (spares_all es C p.room) h k g)

    -- what follows is stuck, and the part takes no steps
    pub turn_nosteps : l ≡ [] → None el es C (past (floored p F f) l F' f' (S₂ U v) (L₂ U v)) → None el es A p
    turn_nosteps e g =
        let h₀ : Least el es B (holding (floored p F f) S₁ L₁ p.room) [] U v = subst
        (λ (j : List ℕ). Least el es B (holding (floored p F f) S₁ L₁ p.room) j U v) e h in
        let k₀ : Next [] F f F' f' = subst (λ (j : List ℕ). Next j F f F' f') e k in
        let g₀ : None el es C (past (floored p F f) [] F' f' (S₂ U v) (L₂ U v)) = subst
        (λ (j : List ℕ). None el es C (past (floored p F f) j F' f' (S₂ U v) (L₂ U v))) e g in
        let s = next_nil k₀ in
        raised_none el p t (part_nosteps el (floored p F f) d (spares_all es C p.room) h₀
        (subst (λ (j : List ℕ). None el es C (past (floored p F f) [] j f (S₂ U v) (L₂ U v))) s.0
        (subst (λ n. None el es C (past (floored p F f) [] F' n (S₂ U v) (L₂ U v))) s.1 g₀)))

    -- what follows is stuck: the part's list is raised
    pub turn_raise : {q : List ℕ} {x : ℕ} → l ≡ q ++ (x ∷ []) → None el es C (past (floored p F f) l F' f' (S₂ U v) (L₂ U v))
        → Raised el es B (holding p S₁ L₁ p.room) A p q (suc x) true
    turn_raise {q} {x} e g =
        part_raise el p d (spares_all es C p.room) t
        (subst (λ (j : List ℕ). Least el es B (holding (floored p F f) S₁ L₁ p.room) j U v) e h)
        (subst (λ (j : List ℕ). Next j F f F' f') e k)
        (subst (λ (j : List ℕ). None el es C (past (floored p F f) j F' f' (S₂ U v) (L₂ U v))) e g)

    -- past the part's list, once raised, there is no floor
    pub turn_clear : raised ≡ true → Next l p.given p.from [] 0
    turn_clear e = t.clear e l U v h.sought

-- the raised floor at the part's place
raised_floor : (tape : List ℕ) (g : Floor) (a z : ℕ) → a < z → g ≡ raised_f tape z
    → (given_at g a tape ≡ slice a (z - 1) tape) × (from_at g a ≡ suc (get_or tape (z - 1) 0))
unfolding raised_f
raised_floor tape g a z lt e = (
  ap (λ (x : Floor). given_at x a tape) e ∙ raised_given tape a z,
  ap (λ (x : Floor). from_at x a) e ∙ from_here (raised_f tape z) a (omega arith) ∙ add-one (get_or tape (z - 1) 0),
)

-- Where a turn stands.
module _ {bs waits tape₀ tape nodes₀ nodes heads₀ heads : List ℕ} {B : Agenda} {pp : Place} {A : Agenda} {f g : Floor} {b : Branch}
    {fresh : Bool} (I : Turns bs waits B pp A f g b tape₀ tape nodes₀ nodes heads₀ heads fresh) where
  pub here : place_at (rule_count bs) g b tape ≡ floored (place_at (rule_count bs) f b tape₀) (given_at g b.at tape) (from_at g b.at)
  here = floor_place (rule_count bs) f g b tape₀ tape I.tape_kept.same

  pub scope_now : scope_in bs nodes b.count ≡ scope_in bs nodes₀ b.count
  scope_now = scope_kept bs nodes nodes₀ b.count I.node_kept.same

  -- the next turn, with the list raised
  pub next_turn : (w : Way) {tape' nodes' heads' : List ℕ} (g' : Floor) → b.at < w.at → w.at ≤ 255 → g' ≡ raised_f tape' w.at
      → ((i : ℕ) → byte_at tape' i < 256) → Kept b.at tape tape' → Kept b.count nodes nodes' → Kept b.count heads heads'
      → Raised (eligible bs) (scope_in bs nodes₀ b.count) B pp A (place_at (rule_count bs) f b tape₀)
      (slice b.at (w.at - 1) tape') (suc (get_or tape' (w.at - 1) 0)) true
      → Turns bs waits B pp A f g' b tape₀ tape' nodes₀ nodes' heads₀ heads' false
  unfolding raised_f
  next_turn w {tape'} g' lt top e bytes kt kn kh r =
      let fl = raised_floor tape' g' b.at w.at lt e in
      record {
        ready = ready_moved g' I.ready kt kn kh (rw e (omega arith)) (rw e (let y = bytes (w.at - 1) in omega arith));
        tape_kept = kept_again b.at I.tape_kept kt;
        node_kept = kept_again b.count I.node_kept kn;
        head_kept = kept_again b.count I.head_kept kh;
        same_floor = λ q. absurd (false≢true q);
        bytes = λ q. rw fl.0 (bytes_run b.at (w.at - 1) tape' bytes);
        raised = rw (fl.0, fl.1) r;
      }

  given_length : length (given_at g b.at tape) ≤ 255
  given_length =
      let r = I.ready in
      let e = ap length (given_run g b.at tape) in
      let l = run_length b.at g.fixed tape (omega (arith, r.fixed, r.tape_room)) in
      omega (arith, r.fixed)

  -- and it is nearer to the last list
  pub turn_falls : (w : Way) (tape' : List ℕ) (g' : Floor) → b.at < w.at → w.at ≤ 255 → g' ≡ raised_f tape' w.at
      → ((i : ℕ) → byte_at tape' i < 256) → length tape' ≡ 255
      → FloorOf (slice b.at w.at tape') (given_at g b.at tape) (from_at g b.at)
      → left_over false (given_at g' b.at tape') (from_at g' b.at) < left_over fresh (given_at g b.at tape) (from_at g b.at)
  turn_falls w tape' g' lt top e bytes len fl =
      let lq = run_length b.at (w.at - 1) tape' (omega arith) in
      rw (raised_at.0, raised_at.1)
      (raise_falls fresh (slice b.at (w.at - 1) tape') (get_or tape' (w.at - 1) 0)
      (subst (λ (l : List ℕ). FloorOf l (given_at g b.at tape) (from_at g b.at)) (run_last b.at w.at tape' lt (omega arith)) fl)
      given_length (omega arith) I.bytes (from_low g b.at I.ready.from) (bytes_run b.at (w.at - 1) tape' bytes)
      (bytes (w.at - 1)))
    where
      raised_at : (given_at g' b.at tape' ≡ slice b.at (w.at - 1) tape') × (from_at g' b.at ≡ suc (get_or tape' (w.at - 1) 0))
      raised_at = raised_floor tape' g' b.at w.at lt e

  -- given up
  pub turn_tired : {tape' nodes' heads' : List ℕ} → Kept b.at tape tape' → Kept b.count nodes nodes' → Kept b.count heads heads'
      → Searches bs A f b tape₀ tape' nodes₀ nodes' heads₀ heads' Tired
  unfolding Told
  turn_tired kt kn kh = record {
    told = tt;
    tape_kept = kept_again b.at I.tape_kept kt;
    node_kept = kept_again b.count I.node_kept kn;
    head_kept = kept_again b.count I.head_kept kh;
  }

  -- stuck
  pub turn_stuck : {tape' nodes' heads' : List ℕ} → Kept b.at tape tape' → Kept b.count nodes nodes' → Kept b.count heads heads'
      → None (eligible bs) (scope_in bs nodes₀ b.count) A (place_at (rule_count bs) f b tape₀)
      → Searches bs A f b tape₀ tape' nodes₀ nodes' heads₀ heads' Stuck
  unfolding Told
  turn_stuck kt kn kh n = record {
    told = n;
    tape_kept = kept_again b.at I.tape_kept kt;
    node_kept = kept_again b.count I.node_kept kn;
    head_kept = kept_again b.count I.head_kept kh;
  }
