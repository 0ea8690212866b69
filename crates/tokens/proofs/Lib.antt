-- Laws of the tokens that are kept.
pub mod Laws
