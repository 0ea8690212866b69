pub mod Only
pub mod Prefix
pub mod Read
