-- What a run from the start tells of the card.
pub mod StartFindsFirst
