-- Laws of stage 1's places.
pub mod Laws
