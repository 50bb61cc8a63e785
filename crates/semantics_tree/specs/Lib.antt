-- The definitions that the contracts cite, in reading order.
pub mod SemCode
pub mod View
pub mod Lighter
pub mod Forming
