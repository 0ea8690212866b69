-- Laws of implication in lanes.
pub mod Implied
pub mod Pins
pub mod Gate
pub mod Steps
pub mod Picked
