-- Laws of a text line's check.
pub mod Laws
