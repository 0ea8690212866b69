-- Laws of numerals, and some numbers.
pub mod Laws
pub mod Vectors
