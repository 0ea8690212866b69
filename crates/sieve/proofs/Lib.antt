-- Laws of the sieve.
pub mod Laws
