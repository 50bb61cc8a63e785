-- The definitions that the contracts cite, in reading order.
pub mod ForLayout
pub mod WorkRole
pub mod Place
