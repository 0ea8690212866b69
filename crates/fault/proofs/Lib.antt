-- Laws of one fault's stages.
pub mod Tables
pub mod First
pub mod Last
