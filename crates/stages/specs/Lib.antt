-- What stages 2 to 6 of a fault ask for and give.
pub mod Stages
