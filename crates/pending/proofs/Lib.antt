-- Laws of open places.
pub mod Laws
