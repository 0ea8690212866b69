-- What the contracts say.
pub mod Kept
