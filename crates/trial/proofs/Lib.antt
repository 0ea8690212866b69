-- Laws of trials.
pub mod Laws
