pub mod Floors
pub mod Shares
pub mod Within
