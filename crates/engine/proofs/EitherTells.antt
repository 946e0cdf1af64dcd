-- The right part of a & behind the left one: each call is ready, and each answer tells of both.
use Prim.Native.Nat.{ℕ, ◌+◌, ◌*◌, ◌≤◌, ◌<◌}
use native.Mathlib.Omega.{arith}
use mathlib.Core.Logic.{◌⊎◌, inl, inr}
use mathlib.Core.Path.{◌≡◌, refl, sym, ◌∙◌, ap, subst}
use mathlib.Core.Bool.{Bool, false, not, ◌&&◌, ◌||◌}
use mathlib.Core.List.{List, [], ◌∷◌, ◌++◌}
use lib.ListN.{length, drop, set}
use lib.Seq.{slice, slice_empty}
use Rattle.calculus.specs.Formula.{Goal, with}
use Rattle.calculus.specs.Items.{Items, ∅, ◌∪◌}
use Rattle.calculus.specs.Derivation.{Scope}
use Rattle.calculus.specs.Inner.Summary.{spare}
use Rattle.calculus.specs.Inner.Window.{with_strict, with_lax}
use Rattle.calculus.proofs.WindowExact.{with_bound}
use Rattle.card.specs.Format.{rule_count, byte_at, kind_at, right_at}
use Rattle.scope.specs.Inner.Sets.{items}
use Rattle.scope.specs.Inner.Tables.{Kept}
use Rattle.scope.proofs.SetsAreItems.{items_empty, items_join}
use Rattle.scope.proofs.TablesAreScopes.{kept_trans, kept_again}
use Rattle.entries.specs.Inner.Entries.{scope_in}
use Rattle.entries.specs.Inner.Twins.{eligible}
use Rattle.entries.proofs.TablesAreScopes.{scope_kept}
use Rattle.agenda.specs.Inner.Agenda.{Agenda, task}
use Rattle.agenda.specs.Inner.Order.{Next}
use Rattle.agenda.specs.Inner.Order.{Floor as FloorOf}
use Rattle.agenda.specs.Inner.Sought.{Place, floored, past_with, None, Least}
use Rattle.agenda.proofs.WindowsDivide.{Divides, either_divides}
use Rattle.branch.specs.declared.Branch.{Branch}
use Rattle.branch.specs.declared.Way.{Way}
use Rattle.branch.specs.declared.Floor.{Floor}
use Rattle.branch.specs.Inner.Values.{Answer, Solved, Stuck, Tired}
use Rattle.branch.specs.Inner.Values.{past_with_b, past_f, beside_w, following_w}
use Rattle.branch.proofs.CountsKept.{counted_with}
use Rattle.segment.specs.Inner.Tasks.{Laid}
use Rattle.engine.specs.Inner.Engine.{GoalReady}
use Rattle.engine.proofs.NumbersFall.{number, alone}
use Rattle.engine.proofs.PartsTell.{right_asks}
use Rattle.choice.specs.Inner.Choice.{given_at, from_at}
use Rattle.moves.specs.Inner.Moves.{raised_f}
use Rattle.engine.specs.Inner.Engine.{place_at, Ready, Fresh, Solves}
use Rattle.engine.specs.Inner.Engine.{Told, Searches}
use Rattle.engine.proofs.PlacesMove.{slices}
use Rattle.engine.proofs.PlacesMove.{past_with_place}
use Rattle.engine.proofs.RaisesEnd.{left_over, run_last}
use Rattle.engine.proofs.TurnsRaise.{∅_∪, past_whole, ready_past, Turns, turn_none, turn_least, turn_nosteps}
use Rattle.engine.proofs.TurnsRaise.{turn_raise, turn_clear, here, scope_now, next_turn, turn_falls, turn_stuck, turn_tired}

-- The right part of a & behind the left one

pub with_len : {c : Branch} (b : Branch) (w : Way) → c ≡ past_with_b b w → c.len ≡ 1
unfolding past_with_b
with_len b w e = ap (λ (x : Branch). x.len) e

abbrev pub Either : List ℕ → List ℕ → Goal → Goal → ℕ → Floor → Floor → Branch
    → List ℕ → List ℕ → List ℕ → List ℕ → List ℕ → List ℕ → Bool → Type 0
Either bs waits G H n f g b tape₀ tape nodes₀ nodes heads₀ heads fresh =
    Turns bs waits (task G n ∷ []) (place_at (rule_count bs) f b tape₀) (task (with G H) n ∷ []) f g b
    tape₀ tape nodes₀ nodes heads₀ heads fresh

module _ {bs waits tape₀ tape nodes₀ nodes heads₀ heads : List ℕ} (G H : Goal) (n : ℕ) {f g : Floor} {b : Branch} {fresh : Bool}
    (fb : Fresh b) (I : Either bs waits G H n f g b tape₀ tape nodes₀ nodes heads₀ heads fresh) where
  abbrev p : Place
  p = place_at (rule_count bs) f b tape₀

  abbrev es : Scope
  es = scope_in bs nodes₀ b.count

  abbrev F : List ℕ
  F = given_at g b.at tape

  abbrev from : ℕ
  from = from_at g b.at

  abbrev B : Agenda
  B = task G n ∷ []

  abbrev C : Agenda
  C = task H n ∷ []

  abbrev A : Agenda
  A = task (with G H) n ∷ []

  divides : Divides es B C A p.strict p.lax p.strict p.lax
      (λ U v. with_strict (spare es v) p.strict U) (λ U v. with_lax (spare es v) p.lax U) ◌&&◌
  divides = either_divides es n G H p.strict p.lax

  none_used : items (rule_count bs) b.used ≡ ∅
  none_used = ap (items (rule_count bs)) fb.used ∙ items_empty (rule_count bs)

  module _ {tape' nodes' heads' : List ℕ} (r : Answer) (R : Searches bs B g b tape tape' nodes nodes' heads heads' r) where
    -- the left part is stuck
    either_stuck : r ≡ Stuck → Searches bs A f b tape₀ tape' nodes₀ nodes' heads₀ heads' r
    unfolding Told
    either_stuck e =
        let n : None (eligible bs) (scope_in bs nodes b.count) B (place_at (rule_count bs) g b tape) = rw e at R.told in
        let n₁ = subst (λ (s : Scope). None (eligible bs) s B (place_at (rule_count bs) g b tape)) (scope_now I) n in
        let n₂ = subst (λ (q : Place). None (eligible bs) es B q) (here I) n₁ in
        rw e (turn_stuck I R.tape_kept R.node_kept R.head_kept (turn_none (eligible bs) p divides I.raised n₂))

    pub either_unsolved : (r ≡ Stuck) ⊎ (r ≡ Tired) → Searches bs A f b tape₀ tape' nodes₀ nodes' heads₀ heads' r
    either_unsolved (inl e) = either_stuck e
    either_unsolved (inr e) = rw e (turn_tired I R.tape_kept R.node_kept R.head_kept)

    pub either_nodes_kept : Kept b.count nodes nodes'
    either_nodes_kept = R.node_kept

    module _ (w : Way) (er : r ≡ Solved w) where
      s : Solves bs (scope_in bs nodes b.count) B g b tape tape' w
      unfolding Told
      s = rw er at R.told

      abbrev h : Floor
      h = past_f g w.kept

      abbrev l : List ℕ
      l = slice b.at w.at tape'

      abbrev U : Items
      U = items (rule_count bs) w.used

      own_items : s.items_used ≡ U
      own_items = sym (s.used ∙ ap (λ (J : Items). J ∪ s.items_used) none_used ∙ ∅_∪ s.items_used)

      own_slack : s.slack_left ≡ w.slack
      own_slack = sym (s.slack ∙ ap (λ v. v || s.slack_left) fb.slack)

      led : Least (eligible bs) es B (floored p F from) l U w.slack
      led =
          subst (λ v. Least (eligible bs) es B (floored p F from) l U v) own_slack
          (subst (λ (J : Items). Least (eligible bs) es B (floored p F from) l J s.slack_left) own_items
          (subst (λ (q : Place). Least (eligible bs) es B q l s.items_used s.slack_left) (here I)
          (subst (λ (e : Scope). Least (eligible bs) e B (place_at (rule_count bs) g b tape) l s.items_used s.slack_left)
          (scope_now I) s.least)))

      rest_here : place_at (rule_count bs) h (past_with_b b w) tape'
          ≡ past_with es (floored p F from) l (given_at h w.at tape') (from_at h w.at) U w.slack
      rest_here =
          past_with_place es (rule_count bs) g h b w tape tape' R.tape_kept s.onward
          (let z = I.ready.tape_room in let k = I.ready.limit in let j = s.bounded in omega arith)
          ∙ ap (λ (q : Place). past_with es q l (given_at h w.at tape') (from_at h w.at) U w.slack) (here I)

      -- what the right part asks
      either_rest : Ready bs waits tape' nodes' heads' h (past_with_b b w)
      unfolding past_with_b place_at
      either_rest =
          ready_past g (past_with_b b w) w.kept I.ready R.tape_kept R.node_kept R.head_kept refl refl s.bounded s.seen
          (rw (ap (λ (q : Place). q.strict) rest_here, ap (λ (q : Place). q.lax) rest_here)
          (with_bound (spare es w.slack) (items (rule_count bs) b.strict) (items (rule_count bs) b.lax)
          led.sought.window.within))
          (counted_with b w)

      -- as the code names it
      pub either_rest_asks : {k : Floor} {c : Branch} → k ≡ h → c ≡ past_with_b b w → {goal : ℕ} → GoalReady bs goal n b → kind_at bs goal ≡ 5
          → (codes : List ℕ) → length codes ≡ 104 → {m : ℕ} {agenda : List ℕ} → m ≡ right_at bs goal → agenda ≡ set codes 0 (m * 32 + n)
          → (number bs agenda c < alone bs goal n b) × (Ready bs waits tape' nodes' heads' k c × Laid bs agenda c.len c.count)
      unfolding past_with_b
      either_rest_asks ek ec gr kd codes room em ea =
          let asks = right_asks I.ready.sound gr codes room kd (past_with_b b w) em ea refl s.onward refl refl in
          rw (ek, ec) (asks.0, (either_rest, asks.1))

      module _ {tape'' nodes'' heads'' : List ℕ} (a : Answer)
          (Q : Searches bs C h (past_with_b b w) tape' tape'' nodes' nodes'' heads' heads'' a) where
        tape_on : Kept b.at tape tape''
        unfolding past_with_b
        tape_on = kept_trans s.onward R.tape_kept Q.tape_kept

        pub nodes_on : Kept b.count nodes nodes''
        unfolding past_with_b
        nodes_on = kept_again b.count R.node_kept Q.node_kept

        heads_on : Kept b.count heads heads''
        unfolding past_with_b
        heads_on = kept_again b.count R.head_kept Q.head_kept

        scope_on : scope_in bs nodes' b.count ≡ es
        scope_on = scope_kept bs nodes' nodes b.count R.node_kept.same ∙ scope_now I

        way_low : w.at ≤ 255
        way_low = let k = I.ready.limit in let j = s.bounded in omega arith

        tape'_room : length tape' ≡ 255
        tape'_room = R.tape_kept.size ∙ I.ready.tape_room

        tape''_room : length tape'' ≡ 255
        tape''_room = Q.tape_kept.size ∙ tape'_room

        abbrev rest_place : Place
        rest_place = past_with es (floored p F from) l (given_at h w.at tape') (from_at h w.at) U w.slack

        -- the right part is solved
        pub either_solved : (v : Way) → a ≡ Solved v
            → Searches bs A f b tape₀ tape'' nodes₀ nodes'' heads₀ heads'' (Solved (following_w (beside_w w v) (w.kept && fresh)))
        unfolding Told past_with_b place_at
        either_solved v ea =
            let z : Solves bs (scope_in bs nodes' b.count) C h (past_with_b b w) tape' tape'' v = rw ea at Q.told in
            let m : List ℕ = slice w.at v.at tape'' in
            let W : Items = items (rule_count bs) v.used in
            let mine : z.items_used ≡ W =
            sym (z.used ∙ ap (λ (J : Items). J ∪ z.items_used) (items_empty (rule_count bs)) ∙ ∅_∪ z.items_used) in
            let rest : Least (eligible bs) es C rest_place m W v.slack =
            subst (λ x. Least (eligible bs) es C rest_place m W x) (sym z.slack)
            (subst (λ (J : Items). Least (eligible bs) es C rest_place m J z.slack_left) mine
            (subst (λ (x : Place). Least (eligible bs) es C x m z.items_used z.slack_left) rest_here
            (subst (λ (e : Scope). Least (eligible bs) e C (place_at (rule_count bs) h (past_with_b b w) tape') m z.items_used
            z.slack_left) scope_on z.least))) in
            let list : l ++ m ≡ slice b.at v.at tape'' =
            slices b.at w.at v.at tape' tape'' Q.tape_kept s.onward z.onward (omega (arith, tape'_room, way_low)) in
            record {
              told = record {
                onward = omega (arith, s.onward, z.onward);
                bounded = z.bounded;
                items_used = U ∪ W;
                slack_left = w.slack && v.slack;
                least = subst (λ (j : List ℕ). Least (eligible bs) es A p j (U ∪ W) (w.slack && v.slack)) list
                    (turn_least (eligible bs) p divides I.raised led s.past rest);
                used = items_join (rule_count bs) w.used v.used ∙ sym (∅_∪ (U ∪ W)) ∙ ap (λ (J : Items). J ∪ (U ∪ W)) (sym none_used);
                slack = ap (λ x. x || (w.slack && v.slack)) (sym fb.slack);
                seen = z.seen;
                past = subst
                    (λ (j : List ℕ). Next j (given_at f b.at tape₀) (from_at f b.at)
                    (given_at (past_f f (v.kept && (w.kept && fresh))) v.at tape'')
                    (from_at (past_f f (v.kept && (w.kept && fresh))) v.at)) list
                    (past_whole f g fresh w.kept v.kept w.at v.at tape' tape'' I.same_floor
                    (λ e. I.raised.fresh (ap not e)) (λ e. turn_clear (eligible bs) p divides I.raised led s.past (ap not e))
                    s.past z.past);
              };
              tape_kept = kept_again b.at I.tape_kept tape_on;
              node_kept = kept_again b.count I.node_kept nodes_on;
              head_kept = kept_again b.count I.head_kept heads_on;
            }

        -- it is given up
        pub either_tired : Searches bs A f b tape₀ tape'' nodes₀ nodes'' heads₀ heads'' Tired
        either_tired = turn_tired I tape_on nodes_on heads_on

        module _ (ea : a ≡ Stuck) where
          rest_none : None (eligible bs) es C rest_place
          unfolding Told past_with_b
          rest_none =
              let n : None (eligible bs) (scope_in bs nodes' b.count) C (place_at (rule_count bs) h (past_with_b b w) tape')
              = rw ea at Q.told in
              subst (λ (x : Place). None (eligible bs) es C x) rest_here
              (subst (λ (e : Scope). None (eligible bs) e C (place_at (rule_count bs) h (past_with_b b w) tape')) scope_on n)

          -- the right part is stuck, and the left took no steps
          pub either_nosteps : w.at ≡ b.at → Searches bs A f b tape₀ tape'' nodes₀ nodes'' heads₀ heads'' Stuck
          either_nosteps e =
              turn_stuck I tape_on nodes_on heads_on
              (turn_nosteps (eligible bs) p divides I.raised led s.past
              (ap (λ n. slice b.at n tape') e ∙ slice_empty b.at tape') rest_none)

          -- the right part is stuck: the left goes on with its list raised
          module _ (ne : w.at ≡ b.at → ⊥) where
            either_on : b.at < w.at
            either_on = omega (arith, s.onward, ne)

            pub either_raise_asks : (1 ≤ w.at) × ((w.at ≤ 255) × (length tape'' ≡ 255))
            either_raise_asks = (omega (arith, either_on), (way_low, tape''_room))

            module _ (g' : Floor) (eg : g' ≡ raised_f tape'' w.at) (bytes : (i : ℕ) → byte_at tape'' i < 256) where
              same_run : l ≡ slice b.at w.at tape''
              unfolding past_with_b
              same_run = ap (drop b.at) (sym Q.tape_kept.same)

              pub either_again : Either bs waits G H n f g' b tape₀ tape'' nodes₀ nodes'' heads₀ heads'' false
              either_again = next_turn I w g' either_on way_low eg bytes tape_on nodes_on heads_on
                  (turn_raise (eligible bs) p divides I.raised led s.past
                  (same_run ∙ run_last b.at w.at tape'' either_on (omega (arith, way_low, tape''_room))) rest_none)

              pub either_falls : left_over false (given_at g' b.at tape'') (from_at g' b.at)
                  < left_over fresh (given_at g b.at tape) (from_at g b.at)
              either_falls = turn_falls I w tape'' g' either_on way_low eg bytes tape''_room
                  (subst (λ (j : List ℕ). FloorOf j F from) same_run led.sought.floor)
