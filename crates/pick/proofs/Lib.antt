-- Laws of picking pairs.
pub mod Laws
