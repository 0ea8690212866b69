-- What a verdict of the code stands for.
pub mod Record
