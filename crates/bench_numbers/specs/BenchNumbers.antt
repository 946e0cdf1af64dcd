-- How the numbers of kit_join and kit_source are read (include/kit_planner.h): bits 23 to 20 say which card.
use Rattle.std.specs.Prelude.{ℕ, ◌<◌, ◌≡◌, List, [], ◌∷◌, length, get_or}
use Rattle.numbers.specs.Numbers.{number_in, card_in, said_by}
use Rattle.benched.specs.Benched.{Owner, neither, first, second}
use Rattle.bench.specs.Bench.{JoinVerdict, joined, refused, SourceVerdict, held, unheld}

-- "1 first, 2 second; 0 where .. the refusal is neither's"
unfoldable pub owners : List Owner
owners = neither ∷ first ∷ second ∷ []

unfoldable pub owner_at : ℕ → Owner
owner_at n = get_or owners n neither

abbrev pub owner_in : ℕ → Owner
owner_in r = owner_at (card_in r)

-- joined with the length, beside which no card is told
unfoldable pub join_in : ℕ → JoinVerdict
join_in r = said_by joined (refused (owner_in r)) r

-- the card that holds the line, with the offset in it
unfoldable pub source_in : ℕ → SourceVerdict
source_in r = said_by (held (owner_in r)) (unheld (owner_in r)) r

-- The card that is told is one of the table; a join that is not refused tells none.
pub record Carded (r : ℕ) : Type 0 where
  pub known : card_in r < length owners

pub record Uncarded (r : ℕ) : Type 0 where
  pub none : number_in r ≡ 0 → card_in r ≡ 0
