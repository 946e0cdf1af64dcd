-- What an outcome says with a way, and what stays of what a run is stocked with.
use Prim.Native.Nat.{ℕ, ◌+◌, ◌≤◌, ◌<◌}
use native.Mathlib.Omega.{arith}
use mathlib.Core.Path.{◌≡◌, refl, sym, ◌∙◌, ap, subst}
use mathlib.Core.Logic.{◌⊎◌, inl, inr}
use mathlib.Core.Bool.{Bool, true, false, ◌&&◌}
use mathlib.Core.List.{List}
use lib.ListN.{length, set}
use Rattle.card.specs.Format.{rule_count, line_count, node_count, kind_at, left_at}
use Rattle.scope.specs.Inner.Tables.{Kept}
use Rattle.branch.specs.declared.Branch.{Branch}
use Rattle.branch.specs.declared.Way.{Way}
use Rattle.branch.specs.declared.Outcome.{Outcome}
use Rattle.branch.specs.declared.Outcome.TheVariants.{Solved as IsSolved, Stuck as IsStuck, Tired as IsTired}
use Rattle.branch.specs.Inner.Values.{Solved, Stuck, Tired, answer_in, Awake, using_b, past_tensor_b, past_with_b}
use Rattle.prune.proofs.RootsKept.{rooted_kept, rooted_lent}
use Rattle.choice.specs.Inner.Choice.{gives}
use Rattle.engine.specs.Inner.Engine.{Equipped, Stays, Weary}

pub solved_said : {r : Outcome} → r ≡ IsSolved → (w : Way) → answer_in r w ≡ Solved w
unfolding answer_in
solved_said e w = ap (λ o. answer_in o w) e

pub stuck_said : {r : Outcome} → r ≡ IsStuck → (w : Way) → answer_in r w ≡ Stuck
unfolding answer_in
stuck_said e w = ap (λ o. answer_in o w) e

pub tired_said : {r : Outcome} → r ≡ IsTired → (w : Way) → answer_in r w ≡ Tired
unfolding answer_in
tired_said e w = ap (λ o. answer_in o w) e

-- an outcome with no way
pub unsolved : (r : Outcome) → (r ≡ IsSolved → ⊥) → (w : Way) → (answer_in r w ≡ Stuck) ⊎ (answer_in r w ≡ Tired)
unfolding answer_in
unsolved IsSolved n w = absurd (n refl)
unsolved IsStuck n w = inl refl
unsolved IsTired n w = inr refl

-- an outcome that is not stuck
pub unstuck : (r : Outcome) → (r ≡ IsStuck → ⊥) → (w : Way) → answer_in r w ≡ Stuck → ⊥
unfolding answer_in
unstuck IsSolved n w e = let z : ◌≡◌ {A = ℕ} 0 1 = cc in omega arith
unstuck IsStuck n w e = n refl
unstuck IsTired n w e = let z : ◌≡◌ {A = ℕ} 0 1 = cc in omega arith

-- both kept to the given steps
pub and_then : {a v : Bool} (b : Bool) → a ≡ true → v ≡ b → v ≡ (a && b)
and_then b e q = rw e q

pub and_else : {a v : Bool} (b : Bool) → a ≡ false → v ≡ a → v ≡ (a && b)
and_else b e q = rw e (q ∙ e)

-- Stock

-- the calls after a call
pub equipped_on : {bs nodes nodes' : List ℕ} {n : ℕ} {A B may : Type 0} {r : Outcome} → Equipped bs nodes n A → Kept n nodes nodes'
    → rule_count bs + line_count bs ≤ n → Stays B may r → Equipped bs nodes' n B
equipped_on e k h s = record { rooted = rooted_kept e.rooted k h; stocked = s.stocked }

-- nothing was called
pub stays_stuck : {bs nodes : List ℕ} {n : ℕ} {A : Type 0} (may : Type 0) → Equipped bs nodes n A → Stays A may IsStuck
unfolding Weary
stays_stuck may e = record { stocked = e.stocked; weary = tt }

-- what a call leaves, with another way and outcome
pub stays_solved : {A may : Type 0} {r : Outcome} → Stays A may r → Stays A may IsSolved
unfolding Weary
stays_solved s = record { stocked = s.stocked; weary = tt }

pub stays_on : {A may : Type 0} {r : Outcome} → Stays A may r → Stays A may IsStuck
unfolding Weary
stays_on s = record { stocked = s.stocked; weary = tt }

-- The branches of the calls

pub equipped_at : {bs nodes : List ℕ} {n m : ℕ} {A : Type 0} → m ≡ n → Equipped bs nodes n A → Equipped bs nodes m A
equipped_at q e = record { rooted = rw q e.rooted; stocked = e.stocked }

-- one more clause is lent
pub equipped_lent : {bs nodes : List ℕ} {n j c : ℕ} {nodes' : List ℕ} {A : Type 0} → Equipped bs nodes n A → j < node_count bs
    → kind_at bs j ≡ 6 → n < 256 → length nodes ≡ 256 → rule_count bs + line_count bs ≤ n → c ≡ left_at bs j → nodes' ≡ set nodes n c
    → Equipped bs nodes' (n + 1) A
equipped_lent {j = j} q h k few room whole e d = record {
  rooted = rw (d, e) (rooted_lent j q.rooted h k few room whole);
  stocked = q.stocked;
}

pub using_count : (b c : Branch) (P T e len : ℕ) → c ≡ using_b b P T e len → c.count ≡ b.count
unfolding using_b
using_count b c P T e len q = ap (λ x. x.count) q

pub tensor_count : (b c : Branch) (w : Way) → c ≡ past_tensor_b b w → c.count ≡ b.count
unfolding past_tensor_b
tensor_count b c w q = ap (λ x. x.count) q

pub with_count : (b c : Branch) (w : Way) → c ≡ past_with_b b w → c.count ≡ b.count
unfolding past_with_b
with_count b c w q = ap (λ x. x.count) q

-- a dead end, told to the pruning
pub stays_dead : {A may : Type 0} (tired : Bool) → A → (tired ≡ true → may) → Stays A may (gives tired)
unfolding Weary gives
stays_dead {may = may} tired s t = record { stocked = s; weary = at tired t }
  where
    at : (d : Bool) → (d ≡ true → may) → Weary (gives d) may
    at true k = k refl
    at false k = tt

pub stays_tired : {A may : Type 0} {r : Outcome} → r ≡ IsTired → Stays A may r → Stays A may IsTired
stays_tired {A} {may} q s = subst (λ (o : Outcome). Stays A may o) q s

-- nothing was called but for the way
pub awake_stays : {bs nodes : List ℕ} {n : ℕ} {A : Type 0} (may : Type 0) {r : Outcome} → Equipped bs nodes n A → Awake r → Stays A may r
unfolding Awake Weary
awake_stays may {r = r} q a = record { stocked = q.stocked; weary = at r a }
  where
    at : (o : Outcome) → Awake o → Weary o may
    at IsSolved b = tt
    at IsStuck b = tt
    at IsTired b = absurd b
