-- What the contracts say.
pub mod Pins
