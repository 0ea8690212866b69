-- Laws of runs.
pub mod Laws
