-- The definitions that the contracts cite, in reading order.
pub mod Marking
pub mod Marks
pub mod Closed
pub mod Commit
pub mod Ways
pub mod Sweep
pub mod Worked
