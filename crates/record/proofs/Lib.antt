-- What one record more makes of an area, and which verdict carries counts.
pub mod Laws
