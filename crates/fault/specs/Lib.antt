-- What one fault's stages ask for and give.
pub mod Fault
