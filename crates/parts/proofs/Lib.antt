-- Why the functions do what they say.
pub mod Laws
