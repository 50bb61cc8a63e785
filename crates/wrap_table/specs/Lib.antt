-- The definitions that the contracts cite, in reading order.
pub mod Stretches
pub mod Runs
pub mod Places
pub mod Pass
