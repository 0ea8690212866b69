-- Laws of Group.
pub mod Laws
