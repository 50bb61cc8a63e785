-- The definitions that the contracts cite, in reading order.
pub mod Standing
pub mod Offsets
pub mod Projected
