-- The definitions that the contracts cite, in reading order.
pub mod Holders
pub mod Claims
pub mod Named
