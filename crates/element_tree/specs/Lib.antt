-- The definitions that the contracts cite, in reading order.
pub mod Element
pub mod Fields
pub mod Nodes
pub mod Edits
pub mod Items
pub mod Renewal
pub mod Index
