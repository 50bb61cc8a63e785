-- The definitions that the contracts cite, in reading order.
pub mod Inside
pub mod Windows
pub mod Caused
pub mod Touches
pub mod Painted
pub mod Shows
pub mod Drawn
pub mod Known
pub mod Worked
