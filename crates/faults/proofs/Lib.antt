-- Laws of the lanes' faults.
pub mod Laws
pub mod Batch
