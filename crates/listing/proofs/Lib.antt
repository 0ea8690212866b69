-- Laws of the print.
pub mod Laws
pub mod Groups
pub mod Totals
pub mod Job
pub mod Read
