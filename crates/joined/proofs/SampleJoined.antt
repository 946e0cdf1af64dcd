-- Two small cards, joined.
use mathlib.Core.Path.{◌≡◌, refl}
use Rattle.card.specs.Kinds.{kinds, kind_of}
use Rattle.card.specs.Sheet.{word}
use Rattle.joined.specs.Joined.{shifted, node_bytes, moved_node, moved_rule, moved_line, in_turn, joined_front, both_goals, joined_card}
use Rattle.joined.specs.Sample.{first_sample, second_sample, joined_sample}

pub sample_joined : joined_card first_sample second_sample ≡ joined_sample
unfolding joined_card joined_front both_goals in_turn moved_node moved_rule moved_line node_bytes shifted word kind_of kinds
sample_joined = refl
