-- The definitions that the contracts cite, in reading order.
pub mod Limit
pub mod Number
pub mod Value
pub mod Exp
pub mod Scope
pub mod ValueOf
pub mod Typed
pub mod SomeForm
pub mod Places
pub mod Closed
pub mod Sets
pub mod View
pub mod ExpCode
pub mod ScopeView
pub mod Forms
pub mod Opened
pub mod Level
pub mod LevelView
-- Laws of them, with their proofs, for the proofs of this crate and of those above it.
pub mod ValueLaws
pub mod TypeLaws
pub mod ClosingLaws
pub mod PlaceLaws
