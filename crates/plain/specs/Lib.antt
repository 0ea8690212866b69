-- The places that stage 1 finds.
pub mod Places
