-- Laws of the pairs taken.
pub mod Table
pub mod Extras
pub mod Tests
pub mod Taken
pub mod Step
