-- The definitions that the contracts cite, in reading order.
pub mod Numbering
pub mod Renders
pub mod Synced
