-- Laws of decimal numbers, of lines of them, and of what is appended to a print.
pub mod Laws
