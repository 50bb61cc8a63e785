-- The definitions that the contracts cite, in reading order.
pub mod Frame
pub mod Standing
pub mod Framed
pub mod Working
pub mod Rooms
pub mod InPlace
pub mod Building
pub mod Nodes
pub mod Redrawing
