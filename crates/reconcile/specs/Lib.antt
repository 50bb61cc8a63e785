-- The definitions that the contracts cite, in reading order.
pub mod Keys
pub mod Matching
pub mod Laws
pub mod Middle
pub mod Places
