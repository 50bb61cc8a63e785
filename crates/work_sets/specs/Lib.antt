-- The definitions, in reading order.
pub mod Same
pub mod Members
pub mod Region
pub mod InTree
pub mod Before
pub mod Layout
pub mod Paint
pub mod Entered
pub mod Due
pub mod Work
pub mod Flags
pub mod Laws
pub mod Scripts
