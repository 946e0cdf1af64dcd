-- What the checks ask and answer on the way.
use Rattle.std.specs.Prelude.{ℕ, ◌≤◌, ◌<◌, ◌≡◌, List, length}
use Rattle.card.specs.Format.{rule_count, line_count, node_count, kind_at, depth_limit, card_length}
use Rattle.card.specs.declared.kinds.Field.{Field}
use Rattle.card.specs.declared.kinds.Field.TheVariants.{Unused, Name, GoalPart, ClausePart, Unknown}
use Rattle.card.specs.Verdict.{Verdict, Where, sound, fault}

-- What a check finds, as the answer of a call over it: its refusal, or the call's own word with k where it found nothing.
unfoldable pub answer_of : {A : Type 0} → (ℕ → A) → (ℕ → Where → A) → Verdict → ℕ → A
answer_of fine refused sound k = fine k
answer_of fine refused (fault n w) k = refused n w

-- What later checks ask of the card, once the front has passed.
pub record Framed (bs : List ℕ) : Type 0 where
  pub whole : card_length bs ≡ length bs
  pub few : node_count bs ≤ 512
  pub rules : rule_count bs ≤ 64
  pub lines : line_count bs ≤ 64
  pub depth : depth_limit bs ≤ 16

-- The part in a field, where it holds one, is below n.
unfoldable pub PartBelow : ℕ → Field → ℕ → Type 0
PartBelow n Unused v = Unit {0}
PartBelow n Name v = Unit {0}
PartBelow n GoalPart v = v < n
PartBelow n ClausePart v = v < n
PartBelow n Unknown v = Unit {0}

-- no node of the card is of kind k
pub record NoKind (bs : List ℕ) (k : ℕ) : Type 0 where
  pub none : (i : ℕ) → i < node_count bs → kind_at bs i ≡ k → ⊥
