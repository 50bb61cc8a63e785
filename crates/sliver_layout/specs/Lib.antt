pub mod Lists
pub mod Slivers
