-- The words of a state's row.
use Rattle.std.specs.Prelude.{ℕ, ◌-◌, List, [], ◌∷◌}
use Rattle.branch.specs.declared.Branch.{Branch}

-- the words of a branch's row: its key and, last, its room
abbrev pub key_words : Branch → List ℕ
key_words b =
    b.strict.low ∷ b.strict.mid ∷ b.strict.high ∷ b.lax.low ∷ b.lax.mid ∷ b.lax.high ∷ b.seen.bits ∷ b.len
    ∷ (b.limit - b.at) ∷ []
