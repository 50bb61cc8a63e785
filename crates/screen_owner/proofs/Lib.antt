-- What a frame shows, and what changes nothing of it.
pub mod Showing
-- The numbers of the nodes.
pub mod Indexing
-- What is kept of a screen where nodes are marked.
pub mod Owning
-- The users of a delegate.
pub mod Using
-- A tree that was brought to the render nodes of a build.
pub mod Bringing
-- A tree whose frame was painted.
pub mod Settling
-- The layouts that are kept.
mod Laying
-- Where a flush leaves Viewports.
mod Scrolling
-- The render nodes by their numbers, and a build that goes on from them.
mod Naming
-- The render nodes where a Viewport is scrolled.
pub mod Rescrolling
-- A tree that was laid out, and the nodes that were marked.
mod Repainting
-- A tree that was laid out and painted.
mod Drawing
-- A frame, from what was brought to what is shown.
mod Framing
-- A tree that is brought to the render nodes that it has.
mod Unchanged
-- A frame after which nothing has to be laid out, and one in which nothing changed.
mod Calm
