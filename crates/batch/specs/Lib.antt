-- What a batch of faults asks for and gives.
pub mod Batch
