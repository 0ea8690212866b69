-- What the contracts say.
pub mod Reached
pub mod Tables
