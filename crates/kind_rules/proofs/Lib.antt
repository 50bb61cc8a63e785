mod Loops
mod Lists
mod Alike
mod Shares
mod FlexPlaces
mod Positions
mod Views
mod OneChild
mod Trees
mod Extents
pub mod Chains
pub mod LoneBoxes
pub mod SingleBoxes
