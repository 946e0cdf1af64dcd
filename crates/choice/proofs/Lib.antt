-- Theorems about the choice of an entry.
mod EntriesPassed
mod LinesAtHand
