-- The definitions that the laws cite, in reading order.
pub mod Templates
pub mod Widgets
pub mod Versions
pub mod Lists
pub mod Worked
