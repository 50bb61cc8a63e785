-- How children answer by full layout.
pub mod Answering
-- What is stored is what full layout gives, for whole subtrees.
pub mod Fresh
-- The laid trees that are stored are those of full layout.
pub mod Seen
-- Full layout sees members alone.
pub mod Same
-- Viewports that stand where full layout corrects them.
pub mod Correcting
-- Children put at their places.
pub mod Standing
-- When two asks are the same.
pub mod Asks
-- A node whose rule is run.
pub mod Running
-- Two rounds of asking are one.
pub mod Rounds
-- A node whose rule isn't run, with what is laid out below it.
pub mod Keeping
-- The worked flushes.
mod Worked
-- The rules of layout are lawful.
pub mod Alike
pub mod Lawfully
-- How many rules a flush runs.
pub mod Counting
-- A rule makes a place for each child that has answered.
mod Places
-- Full layout by the rules is that of layout_form.
mod Whole
-- Children that have to be laid out, read off what is stored or off their members.
pub mod Closing
-- Slivers that are measured are, to full layout, as before.
pub mod Measuring
-- How far slivers that were measured can be scrolled through.
pub mod Extents
-- Children that stand laid out answer as by full layout; the views of a Viewport's slivers.
pub mod Viewing
-- What was laid out runs no rule again.
pub mod Free
-- The items of lazy lists have no part in what is stored of other nodes.
pub mod Listing
-- The lists that are laid out have the frames of full layout.
pub mod Ranging
-- After a flush Viewports stand where their layouts left them.
pub mod Offsets
-- After a flush what is shown is full layout.
mod Flushing
