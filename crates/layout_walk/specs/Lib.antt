-- The definitions that the contracts cite, in reading order.
pub mod Node
pub mod Rule
pub mod Full
pub mod Here
pub mod Walk
pub mod Asking
pub mod Rules
pub mod Flush
pub mod Items
pub mod Work
pub mod Measure
pub mod Offsets
pub mod WorkedFlushes
