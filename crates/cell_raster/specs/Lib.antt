-- The definitions that the contracts cite, in reading order.
pub mod Cell
pub mod Area
pub mod Drawing
pub mod Shown
pub mod CellGrid
pub mod Damage
pub mod Printed
pub mod Laws
pub mod Worked
pub mod Seen
pub mod Stretch
pub mod Painted
pub mod View
