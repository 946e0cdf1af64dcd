-- The rest of a segment behind & or ⊸: each call is ready, and each answer tells of both.
use Prim.Native.Nat.{ℕ, ◌-◌, ◌≤◌, ◌<◌}
use native.Mathlib.Omega.{arith}
use mathlib.Core.Logic.{◌⊎◌, inl, inr}
use mathlib.Core.Path.{◌≡◌, refl, sym, ◌∙◌, ap, subst}
use mathlib.Core.Bool.{Bool, false, not, ◌&&◌, ◌||◌}
use mathlib.Core.List.{List, [], ◌∷◌, ◌++◌}
use lib.ListN.{length, drop}
use lib.Seq.{slice, slice_empty}
use Rattle.calculus.specs.Items.{Items, ∅, ◌∪◌}
use Rattle.calculus.specs.Derivation.{Scope}
use Rattle.calculus.specs.Inner.Summary.{spare}
use Rattle.calculus.specs.Inner.Window.{tensor_strict, tensor_lax}
use Rattle.calculus.proofs.WindowExact.{tensor_bound}
use Rattle.card.specs.Format.{rule_count, byte_at}
use Rattle.scope.specs.Inner.Sets.{items}
use Rattle.scope.specs.Inner.Tables.{Kept}
use Rattle.scope.proofs.SetsAreItems.{items_empty, items_join}
use Rattle.scope.proofs.TablesAreScopes.{kept_trans, kept_again}
use Rattle.entries.specs.Inner.Entries.{scope_in}
use Rattle.entries.specs.Inner.Twins.{eligible}
use Rattle.entries.proofs.TablesAreScopes.{scope_kept}
use Rattle.agenda.specs.Inner.Agenda.{Agenda, Task}
use Rattle.agenda.specs.Inner.Order.{Next}
use Rattle.agenda.specs.Inner.Order.{Floor as FloorOf}
use Rattle.agenda.specs.Inner.Sought.{Place, floored, lead, past_lead, None, Least}
use Rattle.agenda.proofs.WindowsDivide.{Divides, behind_divides}
use Rattle.branch.specs.declared.Branch.{Branch}
use Rattle.branch.specs.declared.Way.{Way}
use Rattle.branch.specs.declared.Floor.{Floor}
use Rattle.branch.specs.Inner.Values.{Answer, Solved, Stuck, Tired}
use Rattle.branch.specs.Inner.Values.{lead_b, past_tensor_b, past_f, following_w}
use Rattle.branch.proofs.CountsKept.{counted_tensor}
use Rattle.segment.specs.Inner.Tasks.{agenda_of, Laid}
use Rattle.segment.proofs.TasksAreAgendas.{laid_less}
use Rattle.engine.specs.Inner.Engine.{PartNext}
use Rattle.engine.proofs.NumbersFall.{number}
use Rattle.engine.proofs.PartsTell.{rest_number}
use Rattle.choice.specs.Inner.Choice.{given_at, from_at}
use Rattle.moves.specs.Inner.Moves.{raised_f}
use Rattle.engine.specs.Inner.Engine.{place_at, Ready, Solves}
use Rattle.engine.specs.Inner.Engine.{Told, Searches}
use Rattle.engine.proofs.PlacesMove.{slices, lead_place}
use Rattle.engine.proofs.PlacesMove.{past_tensor_place}
use Rattle.engine.proofs.RaisesEnd.{left_over, run_last}
use Rattle.engine.proofs.TurnsRaise.{or_assoc, ∪_assoc, ∅_∪, past_whole, ready_past, Turns, turn_none, turn_least}
use Rattle.engine.proofs.TurnsRaise.{turn_nosteps, turn_raise, turn_clear, here, scope_now, next_turn, turn_falls, turn_stuck, turn_tired}

-- The rest behind & or ⊸

abbrev pub Behind : List ℕ → List ℕ → Task → Agenda → Floor → Floor → Branch
    → List ℕ → List ℕ → List ℕ → List ℕ → List ℕ → List ℕ → Bool → Type 0
Behind bs waits t A f g b tape₀ tape nodes₀ nodes heads₀ heads fresh =
    Turns bs waits (t ∷ []) (lead (place_at (rule_count bs) f b tape₀) (place_at (rule_count bs) f b tape₀).room) (t ∷ A) f g b
    tape₀ tape nodes₀ nodes heads₀ heads fresh

module _ {bs waits tape₀ tape nodes₀ nodes heads₀ heads : List ℕ} (t : Task) (A : Agenda) {f g : Floor} {b : Branch} {fresh : Bool}
    (I : Behind bs waits t A f g b tape₀ tape nodes₀ nodes heads₀ heads fresh) where
  abbrev p : Place
  p = place_at (rule_count bs) f b tape₀

  abbrev es : Scope
  es = scope_in bs nodes₀ b.count

  abbrev F : List ℕ
  F = given_at g b.at tape

  abbrev from : ℕ
  from = from_at g b.at

  divides : Divides es (t ∷ []) A (t ∷ A) p.strict p.lax ∅ (p.strict ∪ p.lax)
      (λ U v. tensor_strict (spare es v) p.strict U) (λ U v. tensor_lax (spare es v) p.strict p.lax U) ◌||◌
  divides = behind_divides es t A p.strict p.lax

  lead_here : place_at (rule_count bs) g (lead_b b) tape ≡ lead (floored p F from) p.room
  unfolding place_at
  lead_here = lead_place (rule_count bs) g b tape ∙ ap (λ (q : Place). lead q (b.limit - b.at)) (here I)

  module _ {tape' nodes' heads' : List ℕ} (r : Answer) (R : Searches bs (t ∷ []) g (lead_b b) tape tape' nodes nodes' heads heads' r) where
    -- the part is stuck
    behind_stuck : r ≡ Stuck → Searches bs (t ∷ A) f b tape₀ tape' nodes₀ nodes' heads₀ heads' r
    unfolding Told
    behind_stuck e =
        let n : None (eligible bs) (scope_in bs nodes b.count) (t ∷ []) (place_at (rule_count bs) g (lead_b b) tape) = rw e at R.told in
        let n₁ = subst (λ (s : Scope). None (eligible bs) s (t ∷ []) (place_at (rule_count bs) g (lead_b b) tape)) (scope_now I) n in
        let n₂ = subst (λ (q : Place). None (eligible bs) es (t ∷ []) q) lead_here n₁ in
        rw e (turn_stuck I R.tape_kept R.node_kept R.head_kept (turn_none (eligible bs) p divides I.raised n₂))

    pub behind_unsolved : (r ≡ Stuck) ⊎ (r ≡ Tired) → Searches bs (t ∷ A) f b tape₀ tape' nodes₀ nodes' heads₀ heads' r
    behind_unsolved (inl e) = behind_stuck e
    behind_unsolved (inr e) = rw e (turn_tired I R.tape_kept R.node_kept R.head_kept)

    pub behind_nodes_kept : Kept b.count nodes nodes'
    behind_nodes_kept = R.node_kept

    module _ (w : Way) (er : r ≡ Solved w) where
      s : Solves bs (scope_in bs nodes b.count) (t ∷ []) g (lead_b b) tape tape' w
      unfolding Told
      s = rw er at R.told

      abbrev h : Floor
      h = past_f g w.kept

      abbrev l : List ℕ
      l = slice b.at w.at tape'

      abbrev U : Items
      U = items (rule_count bs) w.used

      own_items : s.items_used ≡ U
      own_items = sym (s.used ∙ ap (λ (J : Items). J ∪ s.items_used) (items_empty (rule_count bs)) ∙ ∅_∪ s.items_used)

      own_slack : s.slack_left ≡ w.slack
      own_slack = sym s.slack

      led : Least (eligible bs) es (t ∷ []) (lead (floored p F from) p.room) l U w.slack
      led =
          subst (λ v. Least (eligible bs) es (t ∷ []) (lead (floored p F from) p.room) l U v) own_slack
          (subst (λ (J : Items). Least (eligible bs) es (t ∷ []) (lead (floored p F from) p.room) l J s.slack_left) own_items
          (subst (λ (q : Place). Least (eligible bs) es (t ∷ []) q l s.items_used s.slack_left) lead_here
          (subst (λ (e : Scope). Least (eligible bs) e (t ∷ []) (place_at (rule_count bs) g (lead_b b) tape) l s.items_used s.slack_left)
          (scope_now I) s.least)))

      rest_here : place_at (rule_count bs) h (past_tensor_b b w) tape'
          ≡ past_lead es (floored p F from) l (given_at h w.at tape') (from_at h w.at) U w.slack
      rest_here =
          past_tensor_place es (rule_count bs) g h b w tape tape' R.tape_kept s.onward
          (let z = I.ready.tape_room in let k = I.ready.limit in let j = s.bounded in omega arith)
          ∙ ap (λ (q : Place). past_lead es q l (given_at h w.at tape') (from_at h w.at) U w.slack) (here I)

      -- what the rest asks
      behind_rest : Ready bs waits tape' nodes' heads' h (past_tensor_b b w)
      unfolding past_tensor_b place_at
      behind_rest =
          ready_past g (past_tensor_b b w) w.kept I.ready R.tape_kept R.node_kept R.head_kept refl refl s.bounded s.seen
          (rw (ap (λ (q : Place). q.strict) rest_here, ap (λ (q : Place). q.lax) rest_here)
          (tensor_bound (spare es w.slack) (items (rule_count bs) b.strict) (items (rule_count bs) b.lax) U))
          (counted_tensor b w)

      -- as the code names it
      module _ (codes : List ℕ) (k : Floor) (c : Branch) (ek : k ≡ h) (ec : c ≡ past_tensor_b b w) where
        pub behind_rest_asks : PartNext bs codes b → (number bs codes c < number bs codes b)
            × (Ready bs waits tape' nodes' heads' k c × Laid bs codes c.len c.count)
        unfolding past_tensor_b
        behind_rest_asks q = rw (ek, ec)
            (rest_number q (past_tensor_b b w) refl s.onward refl, (behind_rest, laid_less q.laid))

        pub rest_told : {tape'' nodes'' heads'' : List ℕ} {a : Answer}
            → Searches bs (agenda_of bs codes c.len) k c tape' tape'' nodes' nodes'' heads' heads'' a
            → Searches bs (agenda_of bs codes (b.len - 1)) h (past_tensor_b b w) tape' tape'' nodes' nodes'' heads' heads'' a
        unfolding past_tensor_b
        rest_told Q = rw (ek, ec) at Q

      module _ {tape'' nodes'' heads'' : List ℕ} (a : Answer)
          (Q : Searches bs A h (past_tensor_b b w) tape' tape'' nodes' nodes'' heads' heads'' a) where
        tape_on : Kept b.at tape tape''
        unfolding past_tensor_b
        tape_on = kept_trans s.onward R.tape_kept Q.tape_kept

        pub nodes_on : Kept b.count nodes nodes''
        unfolding past_tensor_b
        nodes_on = kept_again b.count R.node_kept Q.node_kept

        heads_on : Kept b.count heads heads''
        unfolding past_tensor_b
        heads_on = kept_again b.count R.head_kept Q.head_kept

        scope_on : scope_in bs nodes' b.count ≡ es
        scope_on = scope_kept bs nodes' nodes b.count R.node_kept.same ∙ scope_now I

        way_low : w.at ≤ 255
        way_low = let k = I.ready.limit in let j = s.bounded in omega arith

        tape'_room : length tape' ≡ 255
        tape'_room = R.tape_kept.size ∙ I.ready.tape_room

        tape''_room : length tape'' ≡ 255
        tape''_room = Q.tape_kept.size ∙ tape'_room

        abbrev rest_place : Place
        rest_place = past_lead es (floored p F from) l (given_at h w.at tape') (from_at h w.at) U w.slack

        -- the rest is solved
        pub behind_solved : (v : Way) → a ≡ Solved v
            → Searches bs (t ∷ A) f b tape₀ tape'' nodes₀ nodes'' heads₀ heads'' (Solved (following_w v (w.kept && fresh)))
        unfolding Told past_tensor_b place_at
        behind_solved v ea =
            let z : Solves bs (scope_in bs nodes' b.count) A h (past_tensor_b b w) tape' tape'' v = rw ea at Q.told in
            let m : List ℕ = slice w.at v.at tape'' in
            let rest : Least (eligible bs) es A rest_place m z.items_used z.slack_left =
            subst (λ (x : Place). Least (eligible bs) es A x m z.items_used z.slack_left) rest_here
            (subst (λ (e : Scope). Least (eligible bs) e A (place_at (rule_count bs) h (past_tensor_b b w) tape') m z.items_used
            z.slack_left) scope_on z.least) in
            let list : l ++ m ≡ slice b.at v.at tape'' =
            slices b.at w.at v.at tape' tape'' Q.tape_kept s.onward z.onward (omega (arith, tape'_room, way_low)) in
            record {
              told = record {
                onward = omega (arith, s.onward, z.onward);
                bounded = z.bounded;
                items_used = U ∪ z.items_used;
                slack_left = w.slack || z.slack_left;
                least = subst (λ (j : List ℕ). Least (eligible bs) es (t ∷ A) p j (U ∪ z.items_used) (w.slack || z.slack_left)) list
                    (turn_least (eligible bs) p divides I.raised led s.past rest);
                used = z.used ∙ ap (λ (J : Items). J ∪ z.items_used) (items_join (rule_count bs) b.used w.used)
                    ∙ ∪_assoc (items (rule_count bs) b.used) U z.items_used;
                slack = z.slack ∙ or_assoc b.slack w.slack z.slack_left;
                seen = z.seen;
                past = subst
                    (λ (j : List ℕ). Next j (given_at f b.at tape₀) (from_at f b.at)
                    (given_at (past_f f (v.kept && (w.kept && fresh))) v.at tape'')
                    (from_at (past_f f (v.kept && (w.kept && fresh))) v.at)) list
                    (past_whole f g fresh w.kept v.kept w.at v.at tape' tape'' I.same_floor
                    (λ e. I.raised.fresh (ap not e)) (λ e. turn_clear (eligible bs) p divides I.raised led s.past (ap not e))
                    s.past z.past);
              };
              tape_kept = kept_again b.at I.tape_kept tape_on;
              node_kept = kept_again b.count I.node_kept nodes_on;
              head_kept = kept_again b.count I.head_kept heads_on;
            }

        -- it is given up
        pub behind_tired : Searches bs (t ∷ A) f b tape₀ tape'' nodes₀ nodes'' heads₀ heads'' Tired
        behind_tired = turn_tired I tape_on nodes_on heads_on

        module _ (ea : a ≡ Stuck) where
          rest_none : None (eligible bs) es A rest_place
          unfolding Told past_tensor_b
          rest_none =
              let n : None (eligible bs) (scope_in bs nodes' b.count) A (place_at (rule_count bs) h (past_tensor_b b w) tape')
              = rw ea at Q.told in
              subst (λ (x : Place). None (eligible bs) es A x) rest_here
              (subst (λ (e : Scope). None (eligible bs) e A (place_at (rule_count bs) h (past_tensor_b b w) tape')) scope_on n)

          -- the rest is stuck, and the part took no steps
          pub behind_nosteps : w.at ≡ b.at → Searches bs (t ∷ A) f b tape₀ tape'' nodes₀ nodes'' heads₀ heads'' Stuck
          behind_nosteps e =
              turn_stuck I tape_on nodes_on heads_on
              (turn_nosteps (eligible bs) p divides I.raised led s.past
              (ap (λ n. slice b.at n tape') e ∙ slice_empty b.at tape') rest_none)

          -- the rest is stuck: the part goes on with its list raised
          module _ (ne : w.at ≡ b.at → ⊥) where
            behind_on : b.at < w.at
            behind_on = omega (arith, s.onward, ne)

            pub behind_raise_asks : (1 ≤ w.at) × ((w.at ≤ 255) × (length tape'' ≡ 255))
            behind_raise_asks = (omega (arith, behind_on), (way_low, tape''_room))

            module _ (g' : Floor) (eg : g' ≡ raised_f tape'' w.at) (bytes : (i : ℕ) → byte_at tape'' i < 256) where
              same_run : l ≡ slice b.at w.at tape''
              unfolding past_tensor_b
              same_run = ap (drop b.at) (sym Q.tape_kept.same)

              pub behind_again : Behind bs waits t A f g' b tape₀ tape'' nodes₀ nodes'' heads₀ heads'' false
              behind_again = next_turn I w g' behind_on way_low eg bytes tape_on nodes_on heads_on
                  (turn_raise (eligible bs) p divides I.raised led s.past
                  (same_run ∙ run_last b.at w.at tape'' behind_on (omega (arith, way_low, tape''_room))) rest_none)

              pub behind_falls : left_over false (given_at g' b.at tape'') (from_at g' b.at)
                  < left_over fresh (given_at g b.at tape) (from_at g b.at)
              behind_falls = turn_falls I w tape'' g' behind_on way_low eg bytes tape''_room
                  (subst (λ (j : List ℕ). FloorOf j F from) same_run led.sought.floor)
