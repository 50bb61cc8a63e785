pub mod Updates
pub mod Counting
pub mod Dropping
pub mod Fields
pub mod Telling
pub mod Worked
