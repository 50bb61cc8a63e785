-- The definitions that the contracts cite, in reading order.
pub mod Here
pub mod Apart
pub mod Items
