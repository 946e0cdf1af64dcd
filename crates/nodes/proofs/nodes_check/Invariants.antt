use Rattle.std.proofs.Common.{◌≡◌, length, take}
use Rattle.card.specs.Format.{grow}
use Rattle.card.specs.Verdict.{first_of, sound}
use Rattle.card.specs.Fault.{node_fault, height_step}
use Rattle.nodes.proofs.nodes_check.Given as goal

abbrev pub invariant-loop-i : goal.invariant-loop-i
invariant-loop-i l = (first_of l.i (node_fault l.card) ≡ sound) × (length l.heights ≡ 512) × (take l.i l.heights ≡ grow (height_step l.card) l.i)
