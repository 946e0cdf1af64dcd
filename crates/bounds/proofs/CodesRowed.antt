-- Tasks and entries of a sound card stand in the table.
use Prim.Native.Nat.{ℕ, ◌/◌, ◌<◌}
use native.Mathlib.Omega.{arith}
use mathlib.Core.Path.{◌≡◌}
use mathlib.Core.Bool.{true}
use mathlib.Core.List.{List}
use lib.ListN.{get_or}
use Rattle.card.specs.Format.{node_count}
use Rattle.card.specs.Fault.{Sound, clause_part}
use Rattle.card.proofs.CardChecked.{sound_front}
use Rattle.card.proofs.SoundNodes.{goal_lower, clause_lower}
use Rattle.bounds.specs.Inner.Doom.{Coded, Rowed, Filed}

pub rowed : {bs codes : List ℕ} {n : ℕ} → Sound bs → Coded bs codes n → Rowed codes n
rowed {bs} {codes} s g = record {
  rows = λ k h. let f = sound_front bs s in omega (arith, goal_lower bs (node_count bs) (get_or codes k 0 / 32) (g.goals k h));
  small = λ k h. let f = sound_front bs s in omega (arith, goal_lower bs (node_count bs) (get_or codes k 0 / 32) (g.goals k h));
}

pub filed : {bs : List ℕ} (nodes : List ℕ) (n : ℕ) → Sound bs → ((e : ℕ) → e < n → clause_part bs (node_count bs) (get_or nodes e 0) ≡ true)
    → Filed nodes n
filed {bs} nodes n s p = record {
  cells = λ e h. let f = sound_front bs s in omega (arith, clause_lower bs (node_count bs) (get_or nodes e 0) (p e h));
}
