-- What the contracts say.
pub mod Lookup
