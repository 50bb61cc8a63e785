pub mod Along
pub mod Bounds
pub mod Insets
pub mod Len
pub mod Offset
pub mod Placed
pub mod Scale
pub mod Size
