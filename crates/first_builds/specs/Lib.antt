-- The definitions that the contracts cite, in reading order.
pub mod Listless
pub mod Scattered
pub mod Mounted
pub mod Inflated
pub mod SpotView
pub mod Mounts
pub mod WorkedMounts
