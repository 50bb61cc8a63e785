-- The definitions that the contracts cite, in reading order.
pub mod Renewing
pub mod Taking
pub mod Stale
pub mod Several
pub mod Going
pub mod Regiving
