-- Theorems about the engine.
pub mod PlacesMove
pub mod NumbersFall
pub mod AgendasUnwind
pub mod WaysSaid
pub mod NamesTell
pub mod EntersTell
pub mod ChoicesTell
pub mod UsesTell
pub mod RaisesEnd
pub mod TurnsRaise
pub mod PartsTell
pub mod BehindTells
pub mod EitherTells
pub mod CountIsScan
