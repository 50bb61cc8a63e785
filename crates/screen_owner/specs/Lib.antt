-- The definitions that the contracts cite, in reading order.
pub mod Screen
pub mod Standing
pub mod Last
pub mod Changes
pub mod Steps
