-- Laws of numbered lanes and of words of lanes.
pub mod Words
pub mod Laws
