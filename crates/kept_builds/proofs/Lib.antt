-- The node with an element's number.
pub mod Places
-- One element is changed, but for its number, widget, place and render node.
pub mod Rewriting
-- A tree whose offsets are other ones.
pub mod Rescrolling
-- Render nodes that are a projection are drawn as the elements say.
pub mod Drawn
-- What stands goes on standing.
pub mod Leaving
