pub mod LayerItem
pub mod LayerItemCode
pub mod View
pub mod Lighter
pub mod Printed
