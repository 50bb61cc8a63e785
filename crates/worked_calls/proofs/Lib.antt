pub mod Plans
pub mod Following
pub mod Leaves
pub mod Growing
pub mod Histories
pub mod Lone
pub mod BothBuilds
pub mod Framing
