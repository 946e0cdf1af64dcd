-- The parts of a node of a sound card fit a place of the agenda: their numbers are below 512.
use Prim.Native.Nat.{ℕ, ◌<◌}
use mathlib.Core.List.{List}
use native.Mathlib.Omega.{arith}
use Rattle.card.specs.Format.{node_count, kind_at, left_at, right_at}
use Rattle.card.specs.Fault.{Sound}
use Rattle.card.proofs.CardChecked.{sound_front}
use Rattle.card.proofs.SoundNodes.{parts_below}

pub parts_fit : {bs : List ℕ} → Sound bs → (goal : ℕ) → goal < node_count bs → 3 < kind_at bs goal → kind_at bs goal < 9
    → (left_at bs goal < 512) × (right_at bs goal < 512)
parts_fit {bs} s goal h k l =
    let q = parts_below s goal h k (λ e. omega (arith, e, l)) in
    let f = (sound_front bs s).few in
    (omega (arith, q.0, h), omega (arith, q.1, h))
