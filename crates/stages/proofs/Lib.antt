-- Laws of stages 2 to 6.
pub mod Laws
