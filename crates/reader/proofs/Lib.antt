-- Laws and theorems that belong to no one function.
pub mod ReaderExits
pub mod AcceptedExactly
pub mod StepsRefused
