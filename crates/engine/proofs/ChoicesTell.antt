-- What a search says where ⊕ or a menu comes next: by its sides, each past its choice.
use Prim.Native.Nat.{ℕ, ◌+◌, ◌-◌, ◌*◌, ◌≤◌, ◌<◌}
use native.Mathlib.Decide.{ℕ_discrete, dec_lt}
use native.Mathlib.Numerals.{add-one}
use native.Mathlib.Omega.{arith}
use mathlib.Core.Path.{◌≡◌, refl, sym, ◌∙◌, ap, ap₂, subst}
use mathlib.Core.Logic.{◌⊎◌, inl, inr, ⊎_elim, by_cases}
use mathlib.Core.Bool.{Bool, true, false, not, cond, ◌&&◌, true≢false}
use mathlib.Core.List.{List, [], ◌∷◌, ◌++◌}
use lib.ListN.{length, take, set, length-set}
use lib.Seq.{slice, set-get_or, take-suc-set}
use borrow.Author.Tests.{lt-ltb, le-ltb, eq-eqb, ne_eqb, not-false}
use Rattle.calculus.specs.Formula.{Goal, oplus, residual, usable}
use Rattle.calculus.specs.Items.{Items}
use Rattle.calculus.specs.Derivation.{Scope}
use Rattle.calculus.specs.Steps.{left_choice, right_choice}
use Rattle.card.specs.Format.{rule_count, line_count, node_count, kind_at, left_at, right_at, byte_at}
use Rattle.card.specs.Fault.{Sound, goal_part, clause_part, height_at}
use Rattle.card.specs.Decode.{clause_of, scope_of}
use Rattle.card.proofs.CardChecked.{sound_front}
use Rattle.card.proofs.SoundNodes.{goal_lower, clause_lower, goal_above, clause_above, node_here, height_parts, one_of_parts, menu_parts}
use Rattle.card.proofs.SoundNodes.{sound_one_of, sound_menu}
use Rattle.scope.specs.Inner.Sets.{items}
use Rattle.scope.specs.Inner.Tables.{Kept}
use Rattle.scope.proofs.TablesAreScopes.{kept_self, kept_trans, kept_again, kept_set}
use Rattle.entries.specs.Inner.Entries.{scope_in}
use Rattle.entries.specs.Inner.Twins.{eligible}
use Rattle.entries.specs.Inner.Masks.{Seen}
use Rattle.entries.proofs.MasksAreTwins.{seen_lent}
use Rattle.entries.proofs.TwinsLoseNothing.{eligible_lent}
use Rattle.agenda.specs.Inner.Agenda.{Agenda, task}
use Rattle.agenda.specs.Inner.Order.{Next, next_here, next_same, next_above, next_open}
use Rattle.agenda.specs.Inner.Sought.{Place, past_choice, None, Least, Shut}
use Rattle.agenda.proofs.ListsOrdered.{next_two}
use Rattle.agenda.proofs.SearchTells.{choice_roomless, shut_given, shut_open, shut_left, shut_right, choice_none, choice_left, choice_right}
use Rattle.branch.specs.declared.Branch.{Branch}
use Rattle.branch.specs.declared.Way.{Way}
use Rattle.branch.specs.declared.Floor.{Floor}
use Rattle.branch.specs.Inner.Values.{Answer, Solved, Stuck, Tired, chose_b, past_f, followed, following_w}
use Rattle.segment.specs.Inner.Tasks.{agenda_of}
use Rattle.choice.specs.Inner.Choice.{given_at, from_at, first_at, FirstEntry, keeps_by}
use Rattle.moves.specs.Inner.Moves.{side_at, shut_by}
use Rattle.engine.specs.Inner.Engine.{place_at, Ready, part_goal, PartGood, PartReady, choice_kind, ChoiceReady, ChoiceStep, Siding}
use Rattle.engine.specs.Inner.Engine.{Solves, Told, Searches, Entering}
use Rattle.engine.proofs.PlacesMove.{run_cons, written, given_past, from_here, given_step}
use Rattle.engine.proofs.NumbersFall.{most, fewest, step_fewest}
use Rattle.engine.proofs.EntersTell.{shut_told}
use Rattle.engine.proofs.NamesTell.{no_f, no_floor_lem, next_past, kept_scope, keeps_not, keeps_so}

-- Sides

-- the goal of a choice is ⊕ of those of its sides
part_sides : {bs : List ℕ} → Sound bs → (meets : Bool) (name node : ℕ) → node < node_count bs → kind_at bs node ≡ choice_kind meets
    → part_goal bs meets name node ≡ oplus (part_goal bs meets name (left_at bs node)) (part_goal bs meets name (right_at bs node))
unfolding part_goal choice_kind residual
part_sides s false name node h k = sound_one_of s node h k
part_sides {bs} s true name node h k = ap (residual (scope_of bs).fits name) (sound_menu s node h k)

good_low : (bs : List ℕ) (meets : Bool) (node n : ℕ) (b : Branch) → PartGood bs meets node n b → node < node_count bs
unfolding PartGood
good_low bs false node n b g = goal_lower bs (node_count bs) node g.0
good_low bs true node n b g = clause_lower bs (node_count bs) node g.0

left_side : (bs : List ℕ) (node c : ℕ) → c ≡ left_choice → side_at bs node c ≡ left_at bs node
unfolding side_at
left_side bs node c e = rw (eq-eqb c left_choice e) refl

right_side : (bs : List ℕ) (node c : ℕ) → c ≡ right_choice → side_at bs node c ≡ right_at bs node
unfolding side_at
right_side bs node c e = rw (ne_eqb c left_choice (λ h. omega (arith, e, h))) refl

-- what holds of both parts holds of the side that a choice takes
of_side : (bs : List ℕ) (node c : ℕ) (P : ℕ → Type 0) → (c ≡ left_choice) ⊎ (c ≡ right_choice) → P (left_at bs node) → P (right_at bs node)
    → P (side_at bs node c)
of_side bs node c P (inl e) x y = subst P (sym (left_side bs node c e)) x
of_side bs node c P (inr e) x y = subst P (sym (right_side bs node c e)) y

module _ {bs codes : List ℕ} {meets : Bool} {node name n : ℕ} {b : Branch} (s : Sound bs) (C : ChoiceReady bs codes meets node name n b) where
  pub choice_low : node < node_count bs
  choice_low = good_low bs meets node n b C.good

  pub choice_here : 16 + 5 * node ≤ length bs
  choice_here = node_here s node choice_low

  pub choice_goal : part_goal bs meets name node ≡ oplus (part_goal bs meets name (left_at bs node)) (part_goal bs meets name (right_at bs node))
  choice_goal = part_sides s meets name node choice_low C.kind

  -- a side of a menu is a clause of the card
  pub side_clause : (c part : ℕ) → (c ≡ left_choice) ⊎ (c ≡ right_choice) → part ≡ side_at bs node c → meets ≡ true
      → clause_part bs (node_count bs) part ≡ true
  unfolding choice_kind
  side_clause c part o e m =
      let k : kind_at bs node ≡ 10 = C.kind ∙ ap choice_kind m in
      let q = menu_parts s node choice_low k in
      let up : (j : ℕ) → clause_part bs node j ≡ true → clause_part bs (node_count bs) j ≡ true =
      λ j h. clause_above bs node j (node_count bs) (omega (arith, choice_low)) h in
      rw e (of_side bs node c (λ j. clause_part bs (node_count bs) j ≡ true) o (up (left_at bs node) q.0) (up (right_at bs node) q.1))

  -- a side is entered past the choice
  side_good : (c : ℕ) → (c ≡ left_choice) ⊎ (c ≡ right_choice) → (m : Bool) → kind_at bs node ≡ choice_kind m → PartGood bs m node n b
      → PartGood bs m (side_at bs node c) n (chose_b b)
  unfolding choice_kind PartGood
  side_good c o false k g =
      let t = height_parts s node choice_low (omega arith) (λ h. omega (arith, h, k)) in
      let q = one_of_parts s node choice_low k in
      of_side bs node c
      (λ j. (goal_part bs (node_count bs) j ≡ true) × (b.len + height_at bs j + 6 * n ≤ 104) × (b.count + height_at bs j + 6 * n ≤ rule_count bs + 168)) o
      (goal_above bs node (left_at bs node) (node_count bs) (omega (arith, choice_low)) q.0, omega (arith, t.0, g.1), omega (arith, t.0, g.2))
      (goal_above bs node (right_at bs node) (node_count bs) (omega (arith, choice_low)) q.1, omega (arith, t.1, g.1), omega (arith, t.1, g.2))
  side_good c o true k g =
      let t = height_parts s node choice_low (omega arith) (λ h. omega (arith, h, k)) in
      let q = menu_parts s node choice_low k in
      of_side bs node c
      (λ j. (clause_part bs (node_count bs) j ≡ true) × (b.len + height_at bs j + 6 * n ≤ 105)
      × (b.count + height_at bs j + 6 * n ≤ rule_count bs + 169)) o
      (clause_above bs node (left_at bs node) (node_count bs) (omega (arith, choice_low)) q.0, omega (arith, t.0, g.1), omega (arith, t.0, g.2))
      (clause_above bs node (right_at bs node) (node_count bs) (omega (arith, choice_low)) q.1, omega (arith, t.1, g.1), omega (arith, t.1, g.2))

  pub side_ready : (c part : ℕ) → (c ≡ left_choice) ⊎ (c ≡ right_choice) → part ≡ side_at bs node c → shut_by bs meets name part ≡ false
      → (b₂ : Branch) → b₂ ≡ chose_b b → PartReady bs codes meets part name n b₂
  unfolding shut_by
  side_ready c part o e h b₂ eb = rw eb (record {
    laid = C.laid;
    nested = C.nested;
    good = rw e (side_good c o meets C.kind C.good);
    fitting = λ m. not-false _ (ap (λ t. cond t (not (usable (scope_of bs).fits name (clause_of bs part))) false) (sym m) ∙ h);
  })

-- Places past a choice

module _ (P : ℕ) (f g : Floor) (b : Branch) (t₀ t : List ℕ) (c : ℕ) (k : Kept b.at t₀ t) (top : b.at < length t₀) where
  done_chosen : take (b.at + 1) (set t b.at c) ≡ take b.at t₀ ++ (c ∷ [])
  done_chosen =
      ap (λ n. take n (set t b.at c)) (add-one b.at)
      ∙ take-suc-set t b.at c (let z = k.size in omega arith)
      ∙ ap (λ l. l ++ (c ∷ [])) k.same

  chosen_place : place_at P g (chose_b b) (set t b.at c)
      ≡ past_choice (place_at P f b t₀) c (given_at g (b.at + 1) (set t b.at c)) (from_at g (b.at + 1))
  unfolding place_at
  chosen_place = λ i. record {
    done = done_chosen i;
    given = given_at g (b.at + 1) (set t b.at c);
    from = from_at g (b.at + 1);
    strict = items P b.strict;
    lax = items P b.lax;
    room = room_left i;
  }
    where
      room_left : b.limit - (b.at + 1) ≡ (b.limit - b.at) - 1
      room_left = omega arith

-- a choice is no line, so it is always eligible and nothing is seen by it
choice_past : {bs : List ℕ} → Sound bs → (c : ℕ) → (c ≡ left_choice) ⊎ (c ≡ right_choice) → rule_count bs + line_count bs ≤ c
choice_past {bs} s c o =
    let f = sound_front bs s in
    ⊎_elim (λ e. omega (arith, e, f.rules, f.lines)) (λ e. omega (arith, e, f.rules, f.lines)) o

pub chosen_ready : {bs waits tape nodes heads : List ℕ} {f : Floor} {b : Branch} (R : Ready bs waits tape nodes heads f b) (c : ℕ)
    → ChoiceStep c b → (g : Floor) → g.fixed ≤ 255 → g.from ≤ 256 → (b₂ : Branch) → b₂ ≡ chose_b b
    → Ready bs waits (set tape b.at c) nodes heads g b₂
chosen_ready {bs} {tape = tape} {b = b} R c C g x y b₂ eb = rw eb (record {
  sound = R.sound;
  waiting = R.waiting;
  tape_room = length-set tape b.at c ∙ R.tape_room;
  entered = R.entered;
  scoped = R.scoped;
  few = R.few;
  at = let r = C.room in omega arith;
  limit = R.limit;
  fixed = x;
  from = y;
  bounded = R.bounded;
  seen = subst (λ l. Seen bs b.seen l)
      (sym (done_chosen 0 g g b tape tape c (kept_self b.at tape) (let r = C.room in let l = R.limit in let z = R.tape_room in omega arith)))
      (seen_lent R.seen c (choice_past R.sound c C.choice));
  counted = R.counted;
})

-- The least step to be taken

module _ {bs waits tape₀ nodes₀ heads₀ : List ℕ} {f : Floor} {b : Branch} (R : Ready bs waits tape₀ nodes₀ heads₀ f b) {first : ℕ}
    (F : FirstEntry f b.at tape₀ first) where
  -- a given step, or the least after the given ones
  first_given : b.at < f.fixed → first ≡ byte_at tape₀ b.at
  unfolding first_at
  first_given h = F.is ∙ ap (λ c. cond c (byte_at tape₀ b.at) (from_at f b.at)) (lt-ltb b.at f.fixed h)

  first_open : f.fixed ≤ b.at → first ≡ from_at f b.at
  unfolding first_at
  first_open h = F.is ∙ ap (λ c. cond c (byte_at tape₀ b.at) (from_at f b.at)) (le-ltb b.at f.fixed h)

  ahead : b.at < f.fixed → given_at f b.at tape₀ ≡ first ∷ given_at f (b.at + 1) tape₀
  ahead h =
      given_step f b.at tape₀ h (let i = R.fixed in let j = R.tape_room in omega arith)
      ∙ ap (λ x. x ∷ given_at f (b.at + 1) tape₀) (sym (first_given h))

  -- a choice below it is shut
  shut_below : (es : Scope) (A : Agenda) (c : ℕ) → c < first → Shut (eligible bs) es A (place_at (rule_count bs) f b tape₀) c
  unfolding place_at
  shut_below es A c l = by_cases (dec_lt b.at f.fixed)
      (λ h. shut_given (eligible bs) (ahead h) l)
      (λ h. shut_open (eligible bs) (given_past f b.at tape₀ (omega arith)) (let e = first_open (omega arith) in omega arith))

  -- past a choice that is not below it, the floor that the side is entered with
  module _ (tape : List ℕ) (c : ℕ) (l : first ≤ c) (kept_tape : keeps_by f b.at first c ≡ true → tape ≡ tape₀) where
    OnFloor : Floor → Type 0
    OnFloor g =
        Next (c ∷ []) (given_at f b.at tape₀) (from_at f b.at) (given_at g (b.at + 1) (set tape b.at c)) (from_at g (b.at + 1))

    open_on : f.fixed ≤ b.at → OnFloor no_f
    unfolding OnFloor
    open_on h =
        let z = no_floor_lem (b.at + 1) (set tape b.at c) in
        rw (z.0, z.1, given_past f b.at tape₀ h, sym (first_open h)) (next_open l)

    above_on : b.at < f.fixed → first < c → OnFloor no_f
    unfolding OnFloor
    above_on h k = let z = no_floor_lem (b.at + 1) (set tape b.at c) in rw (z.0, z.1, ahead h) (next_above k)

    given_on : b.at < f.fixed → c ≡ first → tape ≡ tape₀ → OnFloor f
    unfolding OnFloor
    given_on h e q =
        let here : b.at ≤ f.fixed = omega arith in
        let there : b.at + 1 ≤ f.fixed = omega arith in
        let same : set tape b.at c ≡ tape₀ =
        ap₂ (λ t x. set t b.at x) q (e ∙ first_given h) ∙ set-get_or tape₀ b.at 0 in
        rw (ahead h, same, from_here f b.at here, from_here f (b.at + 1) there, e) (next_same next_here)

    past_on : (k : Bool) → keeps_by f b.at first c ≡ k → OnFloor (past_f f k)
    unfolding past_f
    past_on k q = by_cases (dec_lt b.at f.fixed)
        (λ h. by_cases (ℕ_discrete c first)
        (λ e. let m = keeps_so f b.at first c h e in
        subst (λ d. OnFloor (past_f f d)) (sym m ∙ q) (given_on h e (kept_tape m)))
        (λ e. let m = keeps_not f b.at first c (inr (omega (arith, e))) in
        subst (λ d. OnFloor (past_f f d)) (sym m ∙ q) (above_on h (omega (arith, e)))))
        (λ h. let m = keeps_not f b.at first c (inl (omega arith)) in
        subst (λ d. OnFloor (past_f f d)) (sym m ∙ q) (open_on (omega arith)))

  -- What a side tells

  module _ {tape nodes heads : List ℕ} (tk : Kept b.at tape₀ tape) (nk : Kept b.count nodes₀ nodes) (hk : Kept b.count heads₀ heads)
      (room : b.at < b.limit) (c : ℕ) (l : first ≤ c) (kept_tape : keeps_by f b.at first c ≡ true → tape ≡ tape₀) where
    abbrev es₀ : Scope
    es₀ = scope_in bs nodes₀ b.count

    abbrev same : Bool
    same = keeps_by f b.at first c

    abbrev g : Floor
    g = past_f f same

    abbrev place₀ : Place
    place₀ = place_at (rule_count bs) f b tape₀

    on_floor : Next (c ∷ []) (given_at f b.at tape₀) (from_at f b.at) (given_at g (b.at + 1) (set tape b.at c)) (from_at g (b.at + 1))
    unfolding OnFloor
    on_floor = past_on tape c l kept_tape same refl

    here_place : place_at (rule_count bs) g (chose_b b) (set tape b.at c)
        ≡ past_choice place₀ c (given_at g (b.at + 1) (set tape b.at c)) (from_at g (b.at + 1))
    here_place = chosen_place (rule_count bs) f g b tape₀ tape c tk (let r = room in let k = R.limit in let z = R.tape_room in omega arith)

    side_none : {G : Goal} {n : ℕ} {A : Agenda} {tape' nodes' heads' : List ℕ}
        → Searches bs (task G n ∷ A) g (chose_b b) (set tape b.at c) tape' nodes nodes' heads heads' Stuck
        → None (eligible bs) es₀ (task G n ∷ A) (past_choice place₀ c (given_at g (b.at + 1) (set tape b.at c)) (from_at g (b.at + 1)))
    unfolding Told
    side_none {G} {n} {A} S =
        subst (λ p. None (eligible bs) es₀ (task G n ∷ A) p) here_place
        (subst (λ es. None (eligible bs) es (task G n ∷ A) (place_at (rule_count bs) g (chose_b b) (set tape b.at c))) (kept_scope bs nk) S.told)

    module _ {G : Goal} {n : ℕ} {A : Agenda} {tape' nodes' heads' : List ℕ} {w : Way}
        (S : Searches bs (task G n ∷ A) g (chose_b b) (set tape b.at c) tape' nodes nodes' heads heads' (Solved w)) where
      way : Solves bs es₀ (task G n ∷ A) g (chose_b b) (set tape b.at c) tape' w
      unfolding Told
      way = subst (λ es. Solves bs es (task G n ∷ A) g (chose_b b) (set tape b.at c) tape' w) (kept_scope bs nk) S.told

      side_least : Least (eligible bs) es₀ (task G n ∷ A)
          (past_choice place₀ c (given_at g (b.at + 1) (set tape b.at c)) (from_at g (b.at + 1))) (slice (b.at + 1) w.at tape')
          way.items_used way.slack_left
      side_least = subst (λ p. Least (eligible bs) es₀ (task G n ∷ A) p (slice (b.at + 1) w.at tape') way.items_used way.slack_left)
          here_place way.least

      chosen_tape : Kept b.at tape₀ tape'
      chosen_tape = kept_again b.at tk (kept_trans (let h : b.at ≤ b.at + 1 = omega arith in h)
          (kept_set b.at b.at tape c (let h : b.at ≤ b.at = omega arith in h)) S.tape_kept)

      run : slice b.at w.at tape' ≡ c ∷ slice (b.at + 1) w.at tape'
      run =
          let o = way.onward in
          run_cons b.at w.at tape' (omega arith)
          (let h = way.bounded in let k = R.limit in let z = chosen_tape.size ∙ R.tape_room in omega arith)
          ∙ ap (λ x. x ∷ slice (b.at + 1) w.at tape')
          (written b.at c tape tape' (let r = room in let k = R.limit in let z = tk.size ∙ R.tape_room in omega arith) S.tape_kept)

      past_floor : (k : Bool) → same ≡ k
          → (given_at (past_f g w.kept) w.at tape' ≡ given_at (past_f f (w.kept && k)) w.at tape')
          × (from_at (past_f g w.kept) w.at ≡ from_at (past_f f (w.kept && k)) w.at)
      unfolding past_f
      past_floor true q = rw q (at w.kept)
        where
          at : (d : Bool) → (given_at (cond d f no_f) w.at tape' ≡ given_at (cond (d && true) f no_f) w.at tape')
              × (from_at (cond d f no_f) w.at ≡ from_at (cond (d && true) f no_f) w.at)
          at true = (refl, refl)
          at false = (refl, refl)
      past_floor false q = rw q (at w.kept)
        where
          at : (d : Bool) → (given_at (cond d no_f no_f) w.at tape' ≡ given_at (cond (d && false) f no_f) w.at tape')
              × (from_at (cond d no_f no_f) w.at ≡ from_at (cond (d && false) f no_f) w.at)
          at true = (refl, refl)
          at false = (refl, refl)

      -- the way past the choice is the way from it
      side_found : {B : Agenda} → Least (eligible bs) es₀ B place₀ (c ∷ slice (b.at + 1) w.at tape') way.items_used way.slack_left
          → Searches bs B f b tape₀ tape' nodes₀ nodes' heads₀ heads' (Solved (following_w w same))
      unfolding Told
      side_found {B} x = record {
        told = record {
          onward = let o = way.onward in omega arith;
          bounded = way.bounded;
          items_used = way.items_used;
          slack_left = way.slack_left;
          least = subst (λ k. Least (eligible bs) es₀ B place₀ k way.items_used way.slack_left) (sym run) x;
          used = way.used;
          slack = way.slack;
          seen = way.seen;
          past = subst (λ k. Next k (given_at f b.at tape₀) (from_at f b.at) (given_at (past_f f (w.kept && same)) w.at tape')
              (from_at (past_f f (w.kept && same)) w.at)) (sym run)
              (next_two on_floor (next_past (past_floor same refl) way.past));
        };
        tape_kept = chosen_tape;
        node_kept = kept_again b.count nk S.node_kept;
        head_kept = kept_again b.count hk S.head_kept;
      }

    -- the answer of the side, as that of the whole: the whole is stuck if the side is, and its least list is the side's past the choice
    side_told : {G : Goal} {n : ℕ} {A : Agenda} {tape' nodes' heads' : List ℕ} (r s : Answer) → r ≡ followed same s
        → Searches bs (task G n ∷ A) g (chose_b b) (set tape b.at c) tape' nodes nodes' heads heads' s
        → {B : Agenda} → (s ≡ Stuck → None (eligible bs) es₀ B place₀)
        → ((m : List ℕ) (U : Items) (v : Bool) → Least (eligible bs) es₀ (task G n ∷ A)
        (past_choice place₀ c (given_at g (b.at + 1) (set tape b.at c)) (from_at g (b.at + 1))) m U v
        → Least (eligible bs) es₀ B place₀ (c ∷ m) U v)
        → Kept b.at tape₀ tape' → Kept b.count nodes₀ nodes' → Kept b.count heads₀ heads'
        → Searches bs B f b tape₀ tape' nodes₀ nodes' heads₀ heads' r
    unfolding followed Told
    side_told r (Solved w) e S stuck least t m h = rw e (side_found S (least _ _ _ (side_least S)))
    side_told r Stuck e S stuck least t m h = rw e (record { told = stuck refl; tape_kept = t; node_kept = m; head_kept = h })
    side_told r Tired e S stuck least t m h = rw e (record { told = tt; tape_kept = t; node_kept = m; head_kept = h })

-- ⊕ or a menu

module _ {bs waits codes tape₀ nodes₀ heads₀ : List ℕ} {f : Floor} {b : Branch} (R : Ready bs waits tape₀ nodes₀ heads₀ f b)
    {meets : Bool} {node name n : ℕ} (C : ChoiceReady bs codes meets node name n b) where
  abbrev rest : Agenda
  rest = agenda_of bs codes b.len

  abbrev whole : Agenda
  whole = task (oplus (part_goal bs meets name (left_at bs node)) (part_goal bs meets name (right_at bs node))) n ∷ rest

  abbrev es₁ : Scope
  es₁ = scope_in bs nodes₀ b.count

  abbrev place₁ : Place
  place₁ = place_at (rule_count bs) f b tape₀

  -- what is told of ⊕ of its sides is told of it
  whole_told : {tape' nodes' heads' : List ℕ} {r : Answer} → Searches bs whole f b tape₀ tape' nodes₀ nodes' heads₀ heads' r
      → Entering bs codes meets node name n f b tape₀ tape' nodes₀ nodes' heads₀ heads' r
  whole_told {tape'} {nodes'} {heads'} {r} S =
      subst (λ G. Searches bs (task G n ∷ rest) f b tape₀ tape' nodes₀ nodes' heads₀ heads' r) (sym (choice_goal R.sound C)) S

  pub choice_room : b.limit ≤ b.at → Entering bs codes meets node name n f b tape₀ tape₀ nodes₀ nodes₀ heads₀ heads₀ Stuck
  unfolding Told place_at
  choice_room h = whole_told (record {
    told = choice_roomless (eligible bs) (let z : b.limit - b.at ≡ 0 = omega arith in z);
    tape_kept = kept_self b.at tape₀;
    node_kept = kept_self b.count nodes₀;
    head_kept = kept_self b.count heads₀;
  })

  module _ (room : b.at < b.limit) {first : ℕ} (F : FirstEntry f b.at tape₀ first) where
    chosen_room : 1 ≤ place₁.room
    unfolding place_at
    chosen_room = omega arith

    always : (c : ℕ) → (c ≡ left_choice) ⊎ (c ≡ right_choice) → eligible bs place₁.done c ≡ true
    always c o = eligible_lent bs place₁.done c (choice_past R.sound c o)

    -- the left side

    module _ {tape₁ nodes₁ heads₁ : List ℕ} {r : Answer}
        (S : Siding bs codes meets node name n left_choice first f b tape₀ tape₁ nodes₀ nodes₁ heads₀ heads₁ r) where
      left_shut : r ≡ Stuck → Shut (eligible bs) es₁ whole place₁ left_choice
      unfolding followed place_at
      left_shut e = by_cases (dec_lt left_choice first)
          (λ h. shut_below R F es₁ whole left_choice h)
          (λ h.
          let l : first ≤ left_choice = omega arith in
          let x = S.past l in
          shut_left (eligible bs) (on_floor R F (kept_self b.at tape₀) (kept_self b.count nodes₀) (kept_self b.count heads₀) room
          left_choice l (λ _. refl))
          (side_none R F (kept_self b.at tape₀) (kept_self b.count nodes₀) (kept_self b.count heads₀) room left_choice l (λ _. refl)
          (stuck_side x.0 (sym x.1 ∙ e) (rw (left_side bs node left_choice refl) at x.2))))
        where
          stuck_side : (s : Answer) → followed (keeps_by f b.at first left_choice) s ≡ Stuck
              → {G : Goal} → Searches bs (task G n ∷ rest) (past_f f (keeps_by f b.at first left_choice)) (chose_b b) (set tape₀ b.at left_choice)
              tape₁ nodes₀ nodes₁ heads₀ heads₁ s
              → Searches bs (task G n ∷ rest) (past_f f (keeps_by f b.at first left_choice)) (chose_b b) (set tape₀ b.at left_choice)
              tape₁ nodes₀ nodes₁ heads₀ heads₁ Stuck
          stuck_side (Solved w) q T = absurd (let z : ◌≡◌ {A = ℕ} 0 1 = cc in omega arith)
          stuck_side Stuck q T = T
          stuck_side Tired q T = absurd (let z : ◌≡◌ {A = ℕ} 0 1 = cc in omega arith)

      -- it is solved, or the search gives up
      pub left_told : (r ≡ Stuck → ⊥) → Entering bs codes meets node name n f b tape₀ tape₁ nodes₀ nodes₁ heads₀ heads₁ r
      unfolding followed place_at
      left_told u = by_cases (dec_lt left_choice first)
          (λ h. absurd (u (S.below h).0))
          (λ h.
          let l : first ≤ left_choice = omega arith in
          let x = S.past l in
          whole_told (side_told R F (kept_self b.at tape₀) (kept_self b.count nodes₀) (kept_self b.count heads₀) room left_choice l
          (λ _. refl) r x.0 x.1 (rw (left_side bs node left_choice refl) at x.2)
          (λ q. absurd (u (x.1 ∙ ap (followed (keeps_by f b.at first left_choice)) q)))
          (λ m U v z. choice_left (eligible bs) (always left_choice (inl refl)) chosen_room
          (on_floor R F (kept_self b.at tape₀) (kept_self b.count nodes₀) (kept_self b.count heads₀) room left_choice l (λ _. refl)) z)
          S.tape_kept S.node_kept S.head_kept))

      -- the right side, where the left one is stuck

      module _ (stuck : r ≡ Stuck) {tape₂ nodes₂ heads₂ : List ℕ} {r₂ : Answer}
          (S₂ : Siding bs codes meets node name n right_choice first f b tape₁ tape₂ nodes₁ nodes₂ heads₁ heads₂ r₂) where
        tape_on : Kept b.at tape₀ tape₂
        tape_on = kept_again b.at S.tape_kept S₂.tape_kept

        node_on : Kept b.count nodes₀ nodes₂
        node_on = kept_again b.count S.node_kept S₂.node_kept

        head_on : Kept b.count heads₀ heads₂
        head_on = kept_again b.count S.head_kept S₂.head_kept

        -- a given right choice is met with the tape as it was
        kept_tape : keeps_by f b.at first right_choice ≡ true → tape₁ ≡ tape₀
        kept_tape k = by_cases (dec_lt left_choice first) (λ h. (S.below h).1)
            (λ h. absurd (true≢false (sym k ∙ keeps_not f b.at first right_choice (inr (omega arith)))))

        right_stuck : None (eligible bs) es₁ whole place₁ → r₂ ≡ Stuck → Searches bs whole f b tape₀ tape₂ nodes₀ nodes₂ heads₀ heads₂ r₂
        unfolding Told
        right_stuck x e = rw e (record { told = x; tape_kept = tape_on; node_kept = node_on; head_kept = head_on })

        pub right_told : Entering bs codes meets node name n f b tape₀ tape₂ nodes₀ nodes₂ heads₀ heads₂ r₂
        unfolding place_at
        right_told = by_cases (dec_lt right_choice first)
            (λ h. whole_told (right_stuck (choice_none (eligible bs) (left_shut stuck) (shut_below R F es₁ whole right_choice h)) (S₂.below h).0))
            (λ h.
            let l : first ≤ right_choice = omega arith in
            let x = S₂.past l in
            let T = rw (right_side bs node right_choice refl) at x.2 in
            let on = on_floor R F S.tape_kept S.node_kept S.head_kept room right_choice l kept_tape in
            whole_told (side_told R F S.tape_kept S.node_kept S.head_kept room right_choice l kept_tape r₂ x.0 x.1 T
            (λ q. choice_none (eligible bs) (left_shut stuck) (shut_right (eligible bs) on
            (side_none R F S.tape_kept S.node_kept S.head_kept room right_choice l kept_tape (rw q at T))))
            (λ m U v z. choice_right (eligible bs) (left_shut stuck) (always right_choice (inr refl)) chosen_room on z)
            tape_on node_on head_on))

-- What a side tells

module _ {bs waits codes tape nodes heads : List ℕ} {f : Floor} {b : Branch} (R : Ready bs waits tape nodes heads f b) {meets : Bool}
    {node name n : ℕ} (C : ChoiceReady bs codes meets node name n b) {c : ℕ} (ch : ChoiceStep c b) where
  pub choice_byte : c < 256
  choice_byte = ⊎_elim (λ e. omega (arith, e)) (λ e. omega (arith, e)) ch.choice

  pub choice_tape : b.at < 255
  choice_tape = let r = ch.room in let l = R.limit in omega arith

  -- it is below the least step to be taken
  pub side_under : {first : ℕ} → c < first → Siding bs codes meets node name n c first f b tape tape nodes nodes heads heads Stuck
  side_under h = record {
    tape_kept = kept_self b.at tape;
    node_kept = kept_self b.count nodes;
    head_kept = kept_self b.count heads;
    below = λ k. (refl, refl);
    past = λ k. absurd (omega arith);
  }

  written_kept : Kept b.at tape (set tape b.at c)
  written_kept = kept_set b.at b.at tape c (let h : b.at ≤ b.at = omega arith in h)

  module _ {first : ℕ} (l : first ≤ c) {part : ℕ} (e : part ≡ side_at bs node c) where
    abbrev same₁ : Bool
    same₁ = keeps_by f b.at first c

    abbrev g₁ : Floor
    g₁ = past_f f same₁

    -- what is told past the choice
    side_of : {tape' nodes' heads' : List ℕ} {r s : Answer} → r ≡ followed same₁ s → Kept b.at tape tape'
        → Searches bs (task (part_goal bs meets name part) n ∷ agenda_of bs codes b.len) g₁ (chose_b b) (set tape b.at c) tape'
        nodes nodes' heads heads' s
        → Siding bs codes meets node name n c first f b tape tape' nodes nodes' heads heads' r
    side_of {s = s} q t S = record {
      tape_kept = t;
      node_kept = S.node_kept;
      head_kept = S.head_kept;
      below = λ k. absurd (omega arith);
      past = λ k. (s, q, rw (← e) S);
    }

    -- the side is shut
    pub side_shut : shut_by bs meets name part ≡ true
        → Siding bs codes meets node name n c first f b tape (set tape b.at c) nodes nodes heads heads Stuck
    unfolding followed
    side_shut h =
        side_of refl written_kept
        (shut_told bs meets name part n (agenda_of bs codes b.len) g₁ (chose_b b) (set tape b.at c) nodes heads h)

    module _ (g : Floor) (same : Bool) (es : same ≡ same₁) (eg : g ≡ past_f f same) (b₂ : Branch) (eb : b₂ ≡ chose_b b) where
      floor_low : (k : Bool) → ((past_f f k).fixed ≤ 255) × ((past_f f k).from ≤ 256)
      unfolding past_f
      floor_low true = (R.fixed, R.from)
      floor_low false = (omega arith, omega arith)

      pub side_call : shut_by bs meets name part ≡ false → (t : ℕ) → 8 * fewest b + 4 ≡ t
          → (8 * most b₂ + 3 < t) × (Ready bs waits (set tape b.at c) nodes heads g b₂ × PartReady bs codes meets part name n b₂)
      side_call h t q = (
        let m = step_fewest b (chose_b b) refl refl ch.room in rw eb (omega arith),
        (
          chosen_ready R c ch g (rw eg (floor_low same).0) (rw eg (floor_low same).1) b₂ eb,
          side_ready R.sound C c part ch.choice e h b₂ eb,
        ),
      )

      module _ {tape' nodes' heads' : List ℕ} {r : Answer}
          (S : Entering bs codes meets part name n g b₂ (set tape b.at c) tape' nodes nodes' heads heads' r) where
        entered : Searches bs (task (part_goal bs meets name part) n ∷ agenda_of bs codes b.len) g₁ (chose_b b) (set tape b.at c) tape'
            nodes nodes' heads heads' r
        entered =
            subst (λ k. Searches bs (task (part_goal bs meets name part) n ∷ agenda_of bs codes b.len) k (chose_b b) (set tape b.at c) tape'
            nodes nodes' heads heads' r) (eg ∙ ap (past_f f) es)
            (subst (λ d. Searches bs (task (part_goal bs meets name part) n ∷ agenda_of bs codes d.len) g d (set tape b.at c) tape'
            nodes nodes' heads heads' r) eb S)

        entered_tape : Kept b.at tape tape'
        entered_tape = kept_trans (let h : b.at ≤ b.at + 1 = omega arith in h) written_kept entered.tape_kept

        -- it finds no way
        pub side_unsolved : (r ≡ Stuck) ⊎ (r ≡ Tired) → Siding bs codes meets node name n c first f b tape tape' nodes nodes' heads heads' r
        unfolding followed
        side_unsolved (inl q) = side_of (q ∙ ap (followed same₁) (sym q)) entered_tape entered
        side_unsolved (inr q) = side_of (q ∙ ap (followed same₁) (sym q)) entered_tape entered

        -- it finds one
        pub side_solved : (w u : Way) → r ≡ Solved w → u ≡ following_w w same
            → Siding bs codes meets node name n c first f b tape tape' nodes nodes' heads heads' (Solved u)
        unfolding followed
        side_solved w u q eu = side_of (ap Solved (eu ∙ ap (following_w w) es) ∙ ap (followed same₁) (sym q)) entered_tape entered
