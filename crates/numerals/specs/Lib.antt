-- What the contracts say.
pub mod Numeral
