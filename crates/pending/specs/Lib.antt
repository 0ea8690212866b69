-- What is outstanding of a fault at every time unit.
pub mod Pending
