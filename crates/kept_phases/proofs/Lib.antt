-- A tree is one forest.
mod Roots
-- Marks on all tops of a tree.
mod Tops
-- Layers that are kept of a whole tree.
mod Whole
-- The plan of a step.
mod Planned
-- What a step of a build changes for painting.
mod Carrying
-- The layouts that are kept.
mod Layouts
-- Changes of which painting reads nothing.
mod Unread
-- A plan for a part as one for all.
mod Idle
-- What an outer layout leaves.
mod Beside
-- Viewports that are put back.
mod Offsets
-- Viewports that are put back, with their marks.
mod Puts
-- Below lazy lists an outer flush scrolls no node otherwise.
mod Still
-- A tree whose lazy lists were laid out.
mod AfterLists
