-- Laws of rows.
pub mod Laws
pub mod Turns
