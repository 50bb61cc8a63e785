-- The definitions that the tests' functions cite.
pub mod Grown
pub mod Histories
pub mod Lone
pub mod BothBuilds
pub mod Framing
