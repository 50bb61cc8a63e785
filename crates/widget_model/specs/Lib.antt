-- The definitions that the contracts cite, in reading order.
pub mod Look
pub mod Family
pub mod Plain
pub mod WidgetType
pub mod Update
pub mod Size
pub mod View
pub mod Parts
pub mod Sized
pub mod LookCode
pub mod PlainCode
pub mod Lighter
pub mod Typed
-- Laws of them, with their proofs, for the proofs of this crate and of those above it.
pub mod PlainLaws
pub mod UpdateLaws
