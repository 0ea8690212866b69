-- Laws of a batch.
pub mod Laws
