-- Laws of the joined card: where the two cards' fronts stand, and what a buffer holds after each group of writes.
use Prim.Native.Nat.{ℕ, ◌+◌, ◌*◌, ◌≤◌}
use native.Mathlib.Omega.{arith}
use mathlib.Core.Path.{◌≡◌, refl}
use mathlib.Core.List.{List, ◌++◌}
use lib.ListN.{length, drop}
use Rattle.card.specs.Format.{node_count}
use Rattle.card.specs.Sheet.{word}
use Rattle.joined.specs.Joined.{joined_rules, joined_nodes, joined_length, joined_counts, joined_limits, joined_front, all_nodes, all_rules}
use Rattle.joined.specs.Joined.{all_lines, joined_card}
use Rattle.joined.specs.Inner.Written.{Written}
use Rattle.joined.proofs.WrittenInTurn.{written_behind, written_front}
use Rattle.joined.proofs.JoinedBytes.{length_front, to_nodes, to_rules, joined_long}

module _ (first second : List ℕ) where
  -- the length, the counts, N, the goal and the limits are the front
  pub front_written : {s s₁ s₂ s₃ s₄ s₅ : List ℕ} → 11 ≤ length s
      → Written s s₁ 0 (word (joined_length first second))
      → Written s₁ s₂ 2 (joined_counts first second)
      → Written s₂ s₃ 5 (word (joined_nodes first second))
      → Written s₃ s₄ 7 (word (node_count first + node_count second))
      → Written s₄ s₅ 9 (joined_limits first second)
      → Written s s₅ 0 (joined_front first second)
  unfolding joined_front word
  front_written h w₁ w₂ w₃ w₄ w₅ =
      let v₂ = written_behind w₁ 2 refl (omega (arith, h)) w₂ in
      let v₃ = written_behind v₂ 5 refl (omega (arith, h)) w₃ in
      let v₄ = written_behind v₃ 7 refl (omega (arith, h)) w₄ in
      written_behind v₄ 9 refl (omega (arith, h)) w₅

  -- the front, the nodes, the rules and the lines are the card
  pub card_written : {s s₁ s₂ s₃ s₄ : List ℕ} → joined_length first second ≤ length s
      → Written s s₁ 0 (joined_front first second)
      → Written s₁ s₂ 11 (all_nodes first second)
      → Written s₂ s₃ (11 + 5 * joined_nodes first second) (all_rules first second)
      → Written s₃ s₄ (11 + 5 * joined_nodes first second + 2 * joined_rules first second) (all_lines first second)
      → s₄ ≡ joined_card first second ++ drop (joined_length first second) s
  unfolding joined_card
  card_written {s} h w₁ w₂ w₃ w₄ =
      let v₂ = written_behind w₁ 11 (omega (arith, length_front first second)) (omega (arith, h)) w₂ in
      let v₃ = written_behind v₂ _ (omega (arith, to_nodes first second)) (omega (arith, h)) w₃ in
      let v₄ = written_behind v₃ _ (omega (arith, to_rules first second)) (omega (arith, h)) w₄ in
      rw (joined_long first second) at (written_front v₄)
