-- Laws of Grade.
pub mod Laws
