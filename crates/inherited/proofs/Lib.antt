pub mod Flagging
pub mod Provided
pub mod Reading
pub mod Worked
