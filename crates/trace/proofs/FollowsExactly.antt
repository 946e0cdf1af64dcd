-- What the walk of a card's goal says of the given list.
use Prim.Native.Nat.{ℕ, ◌+◌, ◌≤◌, ◌<◌}
use native.Mathlib.Omega.{arith}
use mathlib.Core.Path.{◌≡◌, refl, sym, ◌∙◌, ap, subst}
use mathlib.Core.Logic.{◌⊎◌, inl, inr}
use mathlib.Core.Bool.{Bool, true, false, not, false≢true}
use mathlib.Core.List.{List, [], ◌∷◌, ◌++◌, append-nil}
use Rattle.std.proofs.Common.{Result, Ok, Err}
use Rattle.std.specs.Prelude.{⊤}
use lib.ListN.{length, get_or, take, drop_of_length-le}
use lib.Seq.{length-take-le}
use lib.Dec.{eqb}
use borrow.Author.Tests.{eqb-true, eqb-false, not-true, not-false}
use Rattle.calculus.specs.Items.{Items, ◌∪◌, Within}
use Rattle.calculus.specs.Walk.{goes, job_walk, ItemsDivide}
use Rattle.calculus.specs.Wanted.{goal}
use Rattle.calculus.specs.Inner.Trace.{part_walk, Says, Gathered, Trace, Agreed}
use Rattle.calculus.specs.Inner.Surely.{Traced}
use Rattle.calculus.proofs.SetLaws.{same_path, covers as cover-law}
use Rattle.calculus.proofs.TraceExact.{trace_unique, listed_accounts}
use Rattle.calculus.proofs.SurelyByList.{surely_walked}
use Rattle.calculus.proofs.WalkExact.{job_walk_lem, divides_accounts}
use Rattle.lines.specs.declared.LineSet.{LineSet}
use Rattle.lines.specs.declared.LineWord.{LineWord}
use Rattle.lines.specs.Set.{is_empty_s, full_s, cut_s, Words}
use Rattle.lines.specs.Count.{count_s}
use Rattle.card.specs.Format.{node_count, rule_count, line_count, goal_node, step_limit}
use Rattle.card.specs.declared.faults.Refusal.{Refusal}
use Rattle.card.specs.Verdict.{Verdict, sound, fault, step, refuse, number_of, where_of, told, steps as steps-place}
use Rattle.card.specs.Fault.{Sound}
use Rattle.card.specs.Decode.{goal_at, lines_with, job_of}
use Rattle.card.proofs.CardChecked.{sound_front}
use Rattle.card.proofs.NodesDecoded.{lines_bounded}
use Rattle.card.proofs.SoundNodes.{goal_lower, height_low, sound_root}
use Rattle.scope.specs.Inner.Sets.{items, strict_of, SureLines}
use Rattle.scope.specs.declared.Tables.{Tables}
use Rattle.scope.specs.Inner.Tables.{table_scope, TableEntered}
use Rattle.scope.proofs.SetsAreItems.{strict_items, all_items}
use Rattle.summary.specs.declared.Position.{Position}
use Rattle.summary.specs.declared.Summary.{Summary}
use Rattle.summary.specs.Inner.Values.{MetCounted, start_p, on_b}
use Rattle.summary.specs.Inner.Walks.{from, gathered, EndsWith, StopsWith, Tells, WalkReady, GoalWalkReady, GoalWalks}
use Rattle.trace.specs.Steps.{walk_fault, steps_fault}
use Rattle.trace.specs.Inner.Listing.{Covered, Ending, early, bare, whole, told_followed, HasLines, Following, SurelyFollows}
use Rattle.trace.specs.Inner.Listing.{strays, divides_not, follows}
use Rattle.summary.proofs.SummariesGather.{within_says}
use Rattle.summary.proofs.CountsKept.{all_met}
use Rattle.summary.proofs.WalksTell.{from_next, ends_walk}
use Rattle.summary.proofs.StepsTell.{test_refused, test_passed}

-- The test of the items

module _ {bs : List ℕ} (s : Sound bs) (w : Summary) where
  pub not_alive : w.alive ≡ false → Says false (Covered bs w)
  not_alive e = (λ h. absurd (false≢true h), λ c. absurd (false≢true (sym e ∙ c.alive)))

  in_lines : (I : Items) → Within I (items (rule_count bs) (full_s (line_count bs))) → Within I ((job_of bs).strict ∪ (job_of bs).lax)
  unfolding job_of
  in_lines I = subst (Within I) (all_items s)

  of_lines : (I : Items) → Within I ((job_of bs).strict ∪ (job_of bs).lax) → Within I (items (rule_count bs) (full_s (line_count bs)))
  unfolding job_of
  of_lines I = subst (Within I) (sym (all_items s))

  module _ (x : LineSet) (ex : x ≡ full_s (line_count bs)) (p : Words w.used) (q : Words x) (inside : Bool)
      (ei : inside ≡ is_empty_s (cut_s w.used x)) where
    lies_within : Says inside (Within (items (rule_count bs) w.used) (items (rule_count bs) (full_s (line_count bs))))
    lies_within = rw ei (subst (λ y. Says (is_empty_s (cut_s w.used x)) (Within (items (rule_count bs) w.used) (items (rule_count bs) y))) ex
        (within_says (rule_count bs) w.used x p q))

    pub not_inside : inside ≡ false → Says false (Covered bs w)
    not_inside e = (
      λ h. absurd (false≢true h),
      λ c. absurd (false≢true (sym e ∙ lies_within.1 (of_lines (items (rule_count bs) w.used) c.within))),
    )

    module _ (alive : w.alive ≡ true) (e : inside ≡ true) where
      lies : Within (items (rule_count bs) w.used) ((job_of bs).strict ∪ (job_of bs).lax)
      lies = in_lines (items (rule_count bs) w.used) (lies_within.0 e)

      pub slack_covers : w.slack ≡ true → Says true (Covered bs w)
      slack_covers v = (λ h. record { alive = alive; within = lies; all_strict = inl v }, λ c. refl)

      pub strict_covers : w.slack ≡ false → MetCounted (strict_of bs) 0 w → (all : ℕ) → all ≡ count_s (strict_of bs)
          → Says (eqb w.met all) (Covered bs w)
      unfolding job_of
      strict_covers v n all ea = (
        λ h. record { alive = alive; within = lies; all_strict = inr (every.0 h) },
        λ c. every.1 (must c.all_strict),
      )
        where
          every : Says (eqb w.met all) (Within (lines_with bs 1) (items (rule_count bs) w.used))
          every = rw ea (subst (λ I. Says (eqb w.met (count_s (strict_of bs))) (Within I (items (rule_count bs) w.used)))
              (strict_items s) (all_met (strict_of bs) w alive v n (rule_count bs)))

          must : (w.slack ≡ true) ⊎ Within (lines_with bs 1) (items (rule_count bs) w.used)
              → Within (lines_with bs 1) (items (rule_count bs) w.used)
          must (inl u) = absurd (false≢true (sym v ∙ u))
          must (inr u) = u

-- The tests at the end

module _ {bs : List ℕ} (w : Summary) (k : ℕ) where
  pub end_early : (f : Refusal) → told (Err f) ≡ refuse (not (eqb w.at k)) 18 (step w.at) → Ending bs w k (told_followed (Err f))
  unfolding told_followed
  end_early f e =
      let r = test_refused _ _ _ f e in
      rw (r.number, r.place) (early (eqb-false w.at k (not-true (eqb w.at k) r.applied)))

  module _ {u : ⊤} (on_time : told (Ok u) ≡ refuse (not (eqb w.at k)) 18 (step w.at)) (good : Bool) (c : Says good (Covered bs w)) where
    at_end : w.at ≡ k
    at_end = eqb-true w.at k (not-false (eqb w.at k) (test_passed _ _ _ on_time))

    pub end_bare : (f : Refusal) → told (Err f) ≡ refuse (not good) 19 steps-place → Ending bs w k (told_followed (Err f))
    unfolding told_followed
    end_bare f e =
        let r = test_refused _ _ _ f e in
        rw (r.number, r.place) (bare at_end (λ h. false≢true (sym (not-true good r.applied) ∙ c.1 h)))

    pub end_whole : {v : ⊤} → told (Ok v) ≡ refuse (not good) 19 steps-place → (s : LineWord) → Ending bs w k (told_followed (Ok s))
    unfolding told_followed
    end_whole e s = whole at_end (c.0 (not-false good (test_passed _ _ _ e)))

-- The call

module _ {bs steps : List ℕ} {ts : Tables} {k : ℕ} (s : Sound bs) (long : k ≤ length steps) (few : k ≤ step_limit bs)
    (short : k ≤ 255) (entered : TableEntered bs ts.nodes ts.linear (rule_count bs + line_count bs))
    (scope : table_scope bs ts.nodes ts.linear (rule_count bs + line_count bs) ≡ (job_of bs).scope) where
  pub start_call : (b : Position) → b ≡ start_p bs k → (node : ℕ) → node ≡ goal_node bs
      → WalkReady bs steps ts b × GoalWalkReady bs b node
  unfolding start_p
  start_call b eb node en = rw (eb, en) (
      let f = sound_front bs s in (
        record {
          sound = s;
          rules = refl;
          given = long;
          short = short;
          at = omega arith;
          entered = entered;
          scoped = omega arith;
          few = let l = f.lines in omega arith;
          met = omega arith;
        },
        record {
          is_goal_part = sound_root s;
          deep =
              let h = height_low s (goal_node bs) (goal_lower bs (node_count bs) (goal_node bs) (sound_root s)) in
              let l = f.lines in let d = f.depth in omega arith;
        },
      )
      )

  module _ (b : Position) (eb : b ≡ start_p bs k) (node : ℕ) (en : node ≡ goal_node bs) {ts' : Tables} {r : Result Summary Refusal}
      (W : GoalWalks bs steps ts ts' b node r) where
    -- what the walk tells, at the job's goal in its scope
    walk_told : Tells (strict_of bs) steps (start_p bs k) (job_of bs).scope (goal (job_of bs).goal) r
    unfolding job_of start_p
    walk_told =
        let F : GoalWalks bs steps ts ts' (start_p bs k) (goal_node bs) r = rw (eb, en) at W in
        subst (λ es. Tells (strict_of bs) steps (start_p bs k) es (goal (goal_at bs (goal_node bs))) r) scope F.tells

    -- where the walk of the given steps has come to
    walk_is : part_walk (job_of bs).depth (goal (job_of bs).goal) (job_of bs).scope 0 (take k steps) ≡ job_walk (job_of bs) (take k steps)
    walk_is = sym (job_walk_lem (job_of bs) (take k steps))

    strays_at : {f : Refusal} → r ≡ Err f → Following bs (take k steps) (fault (number_of f.fault) (where_of f.place))
    unfolding Tells start_p job_of from steps_fault walk_fault
    strays_at {f} e =
        let s : StopsWith steps (start_p bs k) (job_of bs).scope (goal (job_of bs).goal) f = rw e at walk_told in
        strays (ap walk_fault (sym walk_is ∙ s.walk) ∙ ap (fault (number_of f.fault)) (sym s.place))

    -- a walk that strays, told as what is found of the steps
    pub stray_found : {f : Refusal} → r ≡ Err f → Following bs (take k steps) (told_followed (Err f))
    unfolding told_followed
    stray_found e = strays_at e

    module _ (w : Summary) (e : r ≡ Ok w) where
      ended : EndsWith (strict_of bs) steps (start_p bs k) (job_of bs).scope (goal (job_of bs).goal) w
      unfolding Tells
      ended = rw e at walk_told

      -- the steps are walked up to where it ended
      walked : job_walk (job_of bs) (take k steps) ≡ goes w.at (from steps (start_p bs k) w.at)
      unfolding start_p job_of from
      walked = sym walk_is ∙ ends_walk long ended

      pub end_short : w.at ≤ 255
      unfolding start_p
      end_short = let u = ended.bounded in omega arith

      pub end_counted : MetCounted (strict_of bs) 0 w
      unfolding start_p
      end_counted = ended.counted

      -- some walk of the list, at whatever nesting, is this one
      same_walk : {n : ℕ} (g : Gathered) → Trace n (job_of bs).scope (goal (job_of bs).goal) g → g.list ≡ take k steps
          → Agreed g (gathered (rule_count bs) w ended.list) [] (from steps (start_p bs k) w.at)
      unfolding from start_p gathered
      same_walk g t q =
          trace_unique [] (from steps (start_p bs k) w.at) t ended.traced.trace (append-nil g.list ∙ q ∙ sym ended.along)

      early_found : (w.at ≡ k → ⊥) → Following bs (take k steps) (fault 18 (step w.at))
      unfolding start_p steps_fault walk_fault from
      early_found n = strays (ap walk_fault (walked ∙ ap (goes w.at) next))
        where
          under : w.at ≤ k → w.at < k
          under h = omega arith

          next : from steps (start_p bs k) w.at ≡ get_or steps w.at 0 ∷ from steps (start_p bs k) (w.at + 1)
          next = from_next steps (on_b (start_p bs k) w.at 0) (under ended.bounded) long

      module _ (at : w.at ≡ k) where
        none_left : from steps (start_p bs k) w.at ≡ []
        unfolding from start_p
        none_left = drop_of_length-le (take k steps) {i = w.at} (let l = length-take-le k steps long in omega arith)

        list_is : ended.list ≡ take k steps
        unfolding from start_p
        list_is = sym (append-nil ended.list) ∙ ap (λ t. ended.list ++ t) (sym none_left) ∙ ended.along

        covered_found : Covered bs w → Following bs (take k steps) sound
        unfolding start_p gathered job_of
        covered_found c = follows ((listed_accounts (job_of bs) (take k steps) (lines_bounded bs)).1 (record {
          gathered = gathered (rule_count bs) w ended.list;
          trace = depth_is;
          list = list_is;
          alive = c.alive;
          within = c.within;
          all_strict = (cover-law (job_of bs).scope).0 c.all_strict;
          counted = short_enough;
        }))
          where
            depth_is : Trace (job_of bs).depth (job_of bs).scope (goal (job_of bs).goal) (gathered (rule_count bs) w ended.list)
            depth_is = ended.traced.trace

            short_enough : length (take k steps) ≤ (job_of bs).length_limit
            short_enough = let l = length-take-le k steps long in omega arith

        -- the items of a derivation with this list are those of the walk
        divided_covers : ItemsDivide (job_of bs) (take k steps) → Covered bs w
        unfolding gathered
        divided_covers d =
            let a = divides_accounts (job_of bs) (take k steps) (lines_bounded bs) d in
            let q = same_walk a.gathered a.trace a.list in
            let used : a.gathered.used ≡ items (rule_count bs) w.used = same_path q.items in
            record {
              alive = sym q.alives ∙ a.alive;
              within = subst (λ I. Within I ((job_of bs).strict ∪ (job_of bs).lax)) used a.within;
              all_strict = covers (subst (λ I. (a.gathered.slack ≡ true) ⊎ Within (job_of bs).strict I) used
                  ((cover-law (job_of bs).scope).1 a.all_strict)) q.slacks;
            }
          where
            covers : {I J : Items} {v u : Bool} → (v ≡ true) ⊎ Within I J → v ≡ u → (u ≡ true) ⊎ Within I J
            covers (inl h) p = inl (sym p ∙ h)
            covers (inr h) p = inr h

        bare_found : (Covered bs w → ⊥) → Following bs (take k steps) (fault 19 steps-place)
        unfolding steps_fault walk_fault
        bare_found n = divides_not (ap walk_fault (walked ∙ ap (goes w.at) none_left)) (λ d. n (divided_covers d))

      -- what is found at the end is what is found of the list
      pub end_found : {v : Verdict} → Ending bs w k v → Following bs (take k steps) v
      end_found (early n) = early_found n
      end_found (bare at n) = bare_found at n
      end_found (whole at c) = covered_found at c

      -- a list's walk is this one, and surely uses what its derivations do
      sure_lines : w.at ≡ k → SureLines bs (take k steps) w.sure
      unfolding start_p gathered job_of
      sure_lines at = record {
        lines = λ x i h t.
            ended.sure.line i (let f = (sound_front bs s).lines in omega arith)
            ∙ ap (λ (U : Items). U (rule_count bs + i))
            (surely_walked here x.derivation.tree x.limited.nested (x.list ∙ sym (list_is at)));
      }
        where
          here : Traced (job_of bs).depth (job_of bs).scope (goal (job_of bs).goal) (gathered (rule_count bs) w ended.list) ended.surely
          here = ended.traced

      pub end_sure : (x : Result LineWord Refusal) → Ending bs w k (told_followed x) → HasLines w.sure x → SurelyFollows bs (take k steps) x
      unfolding HasLines SurelyFollows told_followed
      end_sure (Ok s) e h = rw h (sure_lines (at_end e refl))
        where
          at_end : {v : Verdict} → Ending bs w k v → v ≡ sound → w.at ≡ k
          at_end (early n) q = let z : ◌≡◌ {A = ℕ} 0 1 = cc in absurd (omega arith)
          at_end (bare at n) q = at
          at_end (whole at c) q = at
      end_sure (Err f) e h = tt
