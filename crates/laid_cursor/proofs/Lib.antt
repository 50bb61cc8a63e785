-- The children of an owned laid node, each at a place of its own.
mod Children
-- What is left of the places below a node.
pub mod Walking
