-- Laws of Choose.
pub mod Laws
