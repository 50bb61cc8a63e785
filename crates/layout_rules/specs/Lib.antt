-- The definitions that the contracts cite, in reading order.
pub mod Nodes
pub mod Places
pub mod Turns
pub mod Duties
pub mod Courses
pub mod Ending
pub mod Reads
pub mod Heard
pub mod Only
pub mod Lawful
pub mod Marks
pub mod Serving
pub mod Flags
pub mod Plugs
pub mod Scrolls
pub mod Painting
pub mod Listing
