mod BoundaryKind
pub mod Filling
pub mod Hiding
pub mod Agreeing
pub mod Redoing
pub mod Calming
pub mod Counting
pub mod Unmarking
pub mod Repainting
pub mod Sweeping
pub mod RootTrees
pub mod Committing
pub mod Changing
pub mod Naming
pub mod Listing
mod Small
