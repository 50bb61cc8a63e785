-- The definitions that the contracts cite, in reading order.
pub mod Check
pub mod Names
pub mod Wants
pub mod Sight
pub mod Built
pub mod Exprs
pub mod Handlers
pub mod NamesView
pub mod ScopeView
pub mod ExprsView
