-- Why the functions do what they say.
pub mod Last
pub mod Laws
pub mod Chain
