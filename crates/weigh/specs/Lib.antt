-- What weighing the pairs asks for and gives.
pub mod Weigh
