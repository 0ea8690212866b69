-- What the contracts say.
pub mod Line
