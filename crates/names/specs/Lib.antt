-- What the contracts say.
pub mod Named
