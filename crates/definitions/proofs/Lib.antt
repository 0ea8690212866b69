-- Laws of a walk over the text lines.
pub mod Laws
