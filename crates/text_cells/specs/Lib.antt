pub mod Cluster
pub mod Line
pub mod Wrapping
pub mod Wrapped
pub mod LineText
pub mod Pass
pub mod Plain
