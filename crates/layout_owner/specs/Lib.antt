-- The definitions that the contracts cite, in reading order.
pub mod Roots
pub mod Asked
pub mod Calm
pub mod Left
pub mod Stays
pub mod Ranges
pub mod Outer
pub mod Undue
pub mod Views
