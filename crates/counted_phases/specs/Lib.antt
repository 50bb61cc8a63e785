-- The definitions that the contracts cite, in reading order.
pub mod Outer
pub mod Framed
pub mod Left
pub mod Unreached
pub mod Lists
pub mod Phased
pub mod OuterLaid
pub mod Worked
pub mod Climbing
pub mod Seen
pub mod Paints
