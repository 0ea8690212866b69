-- Laws of the places.
pub mod Noted
pub mod Left
pub mod Scanned
