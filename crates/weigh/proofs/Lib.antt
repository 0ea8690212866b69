-- Laws of weighing pairs.
pub mod Laws
