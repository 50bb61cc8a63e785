pub mod Recorded
pub mod Naming
pub mod Worked
