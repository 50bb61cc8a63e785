-- The definitions that the contracts cite, in reading order.
pub mod Reading
pub mod Past
pub mod Fresh
pub mod Keeping
pub mod Counting
pub mod WorkedRebuilds
pub mod Renewing
pub mod Serving
pub mod Merging
pub mod Changing
pub mod Telling
pub mod FreshState
pub mod Walked
pub mod Entered
pub mod Kept
pub mod Standing
