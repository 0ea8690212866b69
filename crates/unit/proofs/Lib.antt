-- Laws of a unit in one lane.
pub mod Laws
pub mod Plain
pub mod Parity
pub mod Gates
