-- The definitions that the contracts cite, in reading order.
pub mod Layers
pub mod Redraws
pub mod Parts
pub mod Lists
