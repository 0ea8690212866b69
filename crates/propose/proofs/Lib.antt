-- Laws of what is proposed.
pub mod Laws
