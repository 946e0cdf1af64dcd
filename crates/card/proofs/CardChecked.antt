-- Laws of checks taken apart one after the other, of the whole check, and of a sound card.
use Prim.Native.Nat.{ℕ, ◌+◌, ◌<◌, ◌≤◌}
use native.Mathlib.Omega.{arith}
use native.Mathlib.Numerals.{add-one}
use mathlib.Core.Path.{◌≡◌, sym, ◌∙◌, ap, subst}
use mathlib.Core.List.{List}
use lib.ListN.{length}
use Rattle.std.proofs.Common.{Result, Ok, Err}
use Rattle.std.specs.Prelude.{⊤}
use Rattle.card.specs.declared.faults.Refusal.{Refusal}
use Rattle.card.specs.Format.{node_count, rule_count, line_count}
use Rattle.card.specs.Verdict.{Verdict, Where, sound, fault, ◌▹◌, first_of, told, number_of, where_of}
use Rattle.card.specs.Fault.{front_fault, node_fault, goal_fault, rule_fault, line_fault, first_fault, Sound}
use Rattle.card.specs.Inner.Checks.{answer_of, Framed}
use Rattle.card.proofs.FaultsInOrder.{after_sound, at_fault, sound_left, sound_right, first_stops, first_goes, first_each}
use Rattle.card.proofs.FrontChecked.{framed}

-- a check that refuses ends the call
pub refused : {u : Verdict} (v : Verdict) {a : Result ⊤ Refusal} {r : Refusal} → a ≡ Err r → told a ≡ u → told a ≡ u ▹ v
unfolding told
refused {u} v e t = t ∙ sym (at_fault u v (sym t ∙ ap told e))

-- a check whose answer is sound finds nothing
pub passed : (u : Verdict) (a : Result ⊤ Refusal) {t : ⊤} → a ≡ Ok t → told a ≡ u → u ≡ sound
unfolding told
passed u a e t = sym t ∙ ap told e

pub found_sound : (bs : List ℕ) (a : Result ⊤ Refusal) {t : ⊤} → a ≡ Ok t → told a ≡ first_fault bs → Sound bs
found_sound bs a e t = record { faultless = passed (first_fault bs) a e t }

-- a call that answers with a check's refusal: what holds of the refusal holds of the answer
pub stopped : {A : Type 0} (P : A → Type 0) (fine : ℕ → A) (refusal : ℕ → Where → A) (v : Verdict) (a : Result ⊤ Refusal) (r : Refusal) (k : ℕ)
    {x : A} → a ≡ Err r → told a ≡ v → x ≡ answer_of fine refusal (told a) k
    → (v ≡ fault (number_of r.fault) (where_of r.place) → P (refusal (number_of r.fault) (where_of r.place))) → P x
unfolding told answer_of
stopped P fine refusal v a r k e t q h =
    subst P (sym (q ∙ ap (λ (y : Result ⊤ Refusal). answer_of fine refusal (told y) k) e)) (h (sym t ∙ ap told e))

-- a check that has passed leaves those after it: what they find, all find
pub onward : {u v w : Verdict} → u ≡ sound → w ≡ v → w ≡ u ▹ v
onward {u} {v} e q = q ∙ sym (after_sound u v e)

-- the same of a run of checks by rising index, at index i
module _ (i : ℕ) (f : ℕ → Verdict) (p : first_of i f ≡ sound) {a : Result ⊤ Refusal} where
  pub refused_at : (n : ℕ) → i < n → {r : Refusal} → a ≡ Err r → told a ≡ f i → told a ≡ first_of n f
  unfolding told
  refused_at n h e t = let q = sym t ∙ ap told e in t ∙ q ∙ sym (first_stops i n f p q h)

  pub passed_at : {t : ⊤} → a ≡ Ok t → told a ≡ f i → first_of (i + 1) f ≡ sound
  passed_at e t = rw add-one (first_goes i f p (passed (f i) a e t))

module _ (bs : List ℕ) where
  -- the checks that are left: 9, from 8 on, from 7 on and from 6 on
  abbrev pub lines_left : Verdict
  lines_left = first_of (line_count bs) (line_fault bs)

  abbrev pub rules_left : Verdict
  rules_left = first_of (rule_count bs) (rule_fault bs) ▹ lines_left

  abbrev pub goal_left : Verdict
  goal_left = goal_fault bs ▹ rules_left

  abbrev pub nodes_left : Verdict
  nodes_left = first_of (node_count bs) (node_fault bs) ▹ goal_left

  -- what soundness says of each part of the card
  module _ (s : Sound bs) where
    from_1 : front_fault bs ▹ nodes_left ≡ sound
    unfolding first_fault
    from_1 = s.faultless

    pub sound_front : Framed bs
    sound_front = framed bs (sound_left (front_fault bs) nodes_left from_1)

    from_2 : nodes_left ≡ sound
    from_2 = sound_right (front_fault bs) nodes_left from_1

    pub sound_node : (i : ℕ) → i < node_count bs → node_fault bs i ≡ sound
    sound_node = first_each (node_count bs) (node_fault bs) (sound_left _ goal_left from_2)

    from_3 : goal_left ≡ sound
    from_3 = sound_right (first_of (node_count bs) (node_fault bs)) goal_left from_2

    pub sound_goal : goal_fault bs ≡ sound
    sound_goal = sound_left (goal_fault bs) rules_left from_3

    from_4 : rules_left ≡ sound
    from_4 = sound_right (goal_fault bs) rules_left from_3

    pub sound_rule : (i : ℕ) → i < rule_count bs → rule_fault bs i ≡ sound
    sound_rule = first_each (rule_count bs) (rule_fault bs) (sound_left _ lines_left from_4)

    pub sound_line : (i : ℕ) → i < line_count bs → line_fault bs i ≡ sound
    sound_line = first_each (line_count bs) (line_fault bs) (sound_right (first_of (rule_count bs) (rule_fault bs)) lines_left from_4)

-- the front of a sound card stands on it
pub front_here : {bs : List ℕ} → Sound bs → 11 ≤ length bs
front_here {bs} s = omega (arith, (sound_front bs s).whole)
