-- The definitions that the contracts cite, in reading order.
pub mod Places
-- what is below a node stands at the places below it
pub mod Below
pub mod Shown
