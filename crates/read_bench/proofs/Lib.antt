-- Laws of the walk that checks a text and writes its records.
pub mod Rows
pub mod Laws
pub mod Found
