-- What a check says.
pub mod Check
