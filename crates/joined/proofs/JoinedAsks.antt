-- What the joined card asks: its rules, lines, must and may lines are the first card's, each followed by the second's, and its goal both of the two.
use Prim.Native.Nat.{ℕ, zero, suc, ◌+◌, ◌<◌, ◌≤◌}
use native.Mathlib.Omega.{arith}
use native.Mathlib.Nat.{add-suc, add-zero, zero-add}
use mathlib.Core.Path.{◌≡◌, refl, sym, ◌∙◌, ap, ap₂}
use mathlib.Core.Logic.{⊎_elim}
use mathlib.Core.Bool.{true, false, ◌&&◌}
use mathlib.Core.List.{List, [], ◌∷◌, ◌++◌, append_assoc, append-nil}
use lib.Dec.{eqb}
use borrow.Author.Tests.{le-leb, lt-ltb}
use Rattle.calculus.specs.Formula.{tensor}
use Rattle.calculus.specs.Items.{◌∪◌}
use Rattle.calculus.proofs.SetLaws.{∪_cases}
use Rattle.card.specs.Format.{rule_count, line_count, node_count, goal_node, line_byte, listing}
use Rattle.card.specs.Fault.{Sound}
use Rattle.card.specs.Decode.{goal_at, rule_entry, line_entry, lines_with, scope_of, job_of}
use Rattle.card.proofs.NodesDecoded.{line_within}
use Rattle.card.proofs.SoundNodes.{goal_lower, sound_root, sound_both}
use Rattle.joined.specs.Joined.{joined_card, overfull}
use Rattle.joined.specs.JoinedJob.{lines_in, JobJoined}
use Rattle.joined.specs.Inner.Copied.{Copied}
use Rattle.joined.proofs.JoinedBytes.{joined_rule_count, joined_line_count, joined_node_count, joined_goal_node, joined_depth_lem, joined_steps_lem}
use Rattle.joined.proofs.JoinedBytes.{first_copied, second_copied, last_kind, last_right}
use Rattle.joined.proofs.CopiedNodes.{goal_same, rule_same, line_same}
use Rattle.joined.proofs.JoinedSound.{joined_sound, first_goal}

-- a listing in two parts
module _ {A : Type 0} where
  listing_two : (f : ℕ → A) (m k : ℕ) → listing (m + k) f ≡ listing m f ++ listing k (λ i. f (m + i))
  unfolding listing
  listing_two f m zero = ap (λ n. listing n f) (add-zero m) ∙ sym (append-nil (listing m f))
  listing_two f m (suc k) =
      ap (λ n. listing n f) (add-suc m k)
      ∙ ap (λ l. l ++ (f (m + k) ∷ [])) (listing_two f m k)
      ∙ append_assoc (listing m f) (listing k (λ i. f (m + i))) (f (m + k) ∷ [])

  listing_same : (f g : ℕ → A) (n : ℕ) → ((i : ℕ) → i < n → f i ≡ g i) → listing n f ≡ listing n g
  unfolding listing
  listing_same f g zero h = refl
  listing_same f g (suc n) h = ap₂ (λ l x. l ++ (x ∷ [])) (listing_same f g n (λ i l. h i (omega arith))) (h n (omega arith))

  listing_joined : (f g h : ℕ → A) (n m k : ℕ) → n ≡ m + k → ((i : ℕ) → i < m → f i ≡ g i) → ((i : ℕ) → i < k → f (m + i) ≡ h i)
      → listing n f ≡ listing m g ++ listing k h
  listing_joined f g h n m k e here there =
      ap (λ x. listing x f) e
      ∙ listing_two f m k
      ∙ ap₂ ◌++◌ (listing_same f g m here) (listing_same (λ i. f (m + i)) h k there)

-- whether a line is one of those with this must/may byte
pub line_flag : (bs : List ℕ) (v i : ℕ) → i < line_count bs → lines_with bs v (rule_count bs + i) ≡ eqb (line_byte bs i) v
unfolding lines_with
line_flag bs v i h =
    ap₂ ◌&&◌ (le-leb (rule_count bs) (rule_count bs + i) (omega arith))
    (ap₂ ◌&&◌ (lt-ltb (rule_count bs + i) (rule_count bs + line_count bs) (omega arith))
    (ap (λ k. eqb (line_byte bs k) v) (omega arith)))

-- must and may lines are lines
pub line_only : (bs : List ℕ) (e : ℕ) → ((job_of bs).strict ∪ (job_of bs).lax) e ≡ true → (rule_count bs ≤ e) × (e < rule_count bs + line_count bs)
unfolding job_of
line_only bs e h = ⊎_elim (line_within bs 1 e) (line_within bs 0 e) (∪_cases (lines_with bs 1) (lines_with bs 0) e h)

-- a line that is copied is a must or a may line as before
copied_flag : {c bs : List ℕ} {n p t : ℕ} (x : Copied c bs n p t) → t + line_count bs ≤ line_count c → (v i : ℕ) → i < line_count bs
    → lines_with c v (rule_count c + (t + i)) ≡ lines_with bs v (rule_count bs + i)
copied_flag {c} {bs} {t} x all v i h =
    line_flag c v (t + i) (omega arith) ∙ ap (λ (k : ℕ). eqb k v) (x.byte i h) ∙ sym (line_flag bs v i h)

module _ (a b : List ℕ) where
  abbrev J : List ℕ
  J = joined_card a b

  pub first_flag : (v i : ℕ) → i < line_count a → lines_with J v (rule_count J + i) ≡ lines_with a v (rule_count a + i)
  first_flag v i h =
      ap (λ (k : ℕ). lines_with J v (rule_count J + k)) (sym (zero-add i))
      ∙ copied_flag (first_copied a b) (omega (arith, joined_line_count a b)) v i h

  pub second_flag : (v i : ℕ) → i < line_count b → lines_with J v (rule_count J + (line_count a + i)) ≡ lines_with b v (rule_count b + i)
  second_flag = copied_flag (second_copied a b) (omega (arith, joined_line_count a b))

  flags_joined : (v : ℕ) → lines_in J (lines_with J v) ≡ lines_in a (lines_with a v) ++ lines_in b (lines_with b v)
  flags_joined v =
      listing_joined (λ i. lines_with J v (rule_count J + i)) (λ i. lines_with a v (rule_count a + i)) (λ i. lines_with b v (rule_count b + i))
      (line_count J) (line_count a) (line_count b) (joined_line_count a b) (first_flag v) (second_flag v)

  module _ (s : Sound a) (r : Sound b) where
    pub first_rule_same : (i : ℕ) → i < rule_count a → rule_entry J i ≡ rule_entry a i
    first_rule_same i h = ap (rule_entry J) (sym (zero-add i)) ∙ rule_same (first_copied a b) s i h

    pub second_rule_same : (i : ℕ) → i < rule_count b → rule_entry J (rule_count a + i) ≡ rule_entry b i
    second_rule_same = rule_same (second_copied a b) r

    pub first_line_same : (i : ℕ) → i < line_count a → line_entry J i ≡ line_entry a i
    first_line_same i h = ap (line_entry J) (sym (zero-add i)) ∙ line_same (first_copied a b) s i h

    pub second_line_same : (i : ℕ) → i < line_count b → line_entry J (line_count a + i) ≡ line_entry b i
    second_line_same = line_same (second_copied a b) r

    module _ (fits : overfull a b ≡ false) where
      pub both_goals_lem : goal_at J (goal_node J) ≡ tensor (goal_at a (goal_node a)) (goal_at b (goal_node b))
      both_goals_lem =
          ap (goal_at J) (joined_goal_node a b)
          ∙ sound_both (joined_sound a b s r fits) (node_count a + node_count b) (omega (arith, joined_node_count a b)) (last_kind a b)
          ∙ ap₂ tensor
          (ap (goal_at J) (first_goal a b s r fits)
          ∙ goal_same (first_copied a b) s (goal_node a) (goal_lower a (node_count a) (goal_node a) (sound_root s)))
          (ap (goal_at J) (last_right a b)
          ∙ goal_same (second_copied a b) r (goal_node b) (goal_lower b (node_count b) (goal_node b) (sound_root r)))

      -- THEOREM. What the joined card asks.
      pub joined_asks : JobJoined a b J
      unfolding job_of scope_of
      joined_asks =
          record {
            entries =
                ap₂ ◌++◌
                (listing_joined (rule_entry J) (rule_entry a) (rule_entry b) (rule_count J) (rule_count a) (rule_count b)
                (joined_rule_count a b) first_rule_same second_rule_same)
                (listing_joined (line_entry J) (line_entry a) (line_entry b) (line_count J) (line_count a) (line_count b)
                (joined_line_count a b) first_line_same second_line_same);
            fits = refl;
            strict = flags_joined 1;
            lax = flags_joined 0;
            lines_only = line_only J;
            goal = both_goals_lem;
            depth = joined_depth_lem a b;
            length_limit = joined_steps_lem a b;
          }
