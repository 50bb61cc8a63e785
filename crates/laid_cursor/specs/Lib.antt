-- The definitions that the contracts cite, in reading order.
pub mod Opened
-- what stands at the places of laid children
pub mod Places
