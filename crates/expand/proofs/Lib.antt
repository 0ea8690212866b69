-- Laws of the walk.
pub mod Place
pub mod Word
pub mod Steps
pub mod Write
pub mod Turn
pub mod Begin
pub mod Tries
pub mod Result
