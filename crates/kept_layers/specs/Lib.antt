-- The definitions that the contracts cite, in reading order.
pub mod GroupPart
pub mod Group
pub mod KeptLayers
pub mod Steps
pub mod Done
pub mod Top
pub mod Unmarked
pub mod Repainted
pub mod Committed
pub mod Worked
