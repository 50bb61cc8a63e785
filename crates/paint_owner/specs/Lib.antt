-- The definitions that the contracts cite, in reading order.
pub mod PartCode
pub mod View
pub mod Lighter
pub mod KeptParts
pub mod PaintOwner
pub mod Listed
pub mod Settled
pub mod Due
pub mod Relaid
pub mod Changes
pub mod Whole
pub mod Worked
pub mod Grouping
pub mod Finding
