-- What a run asks for and leaves.
pub mod Run
