-- Laws of tables.
pub mod Laws
