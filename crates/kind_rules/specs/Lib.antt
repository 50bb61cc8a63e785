-- The definitions that the contracts cite, in reading order.
pub mod Few
pub mod Asks
pub mod Reading
pub mod Ruling
pub mod Walks
pub mod Asked
pub mod Cursor
pub mod Below
pub mod Lone
pub mod Single
