-- What a reader must believe of the reader's answers.
pub mod Read
