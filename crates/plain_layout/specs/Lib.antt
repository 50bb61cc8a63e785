-- The definitions that the contracts cite, in reading order.
pub mod Computed
pub mod Slivers
pub mod LiveView
