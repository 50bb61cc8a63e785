-- How many rules an outer flush runs.
pub mod Counting
-- Outer nodes in the region of the whole build's tree.
pub mod Inside
-- Marks on all nodes.
pub mod Whole
-- What an outer flush leaves.
pub mod Undue
-- The nodes of the whole build.
pub mod Keeping
-- What is known of flags in both phases.
pub mod Layouts
-- Both layouts of a frame.
pub mod Phased
-- What was in the region of the last frame's tree is in that of the whole build's.
pub mod Twins
-- The items of lazy lists between the phases.
pub mod Left
-- Small trees.
pub mod Worked
-- Flags of items between the phases.
pub mod Items
-- Flags of the items of all lists.
pub mod Lists
-- What isn't reached.
pub mod Unreached
-- What is in the window.
pub mod Shown
-- A frame in two phases.
pub mod Frame
-- A plan's nodes.
pub mod Redrawn
-- What is shown after an outer flush.
pub mod OuterShown
-- Layout without items.
pub mod WithoutItems
-- What an outer flush leaves of frames.
pub mod LeftOuter
-- A root's tree after an outer flush.
pub mod FrameShown
-- Frames by number.
pub mod OuterFound
-- Frames from tree to tree.
pub mod Between
-- Frames from phase to phase.
pub mod Passed
-- A tree with other values.
pub mod Mapped
-- Marks for painting that climb in an arena.
pub mod Climbing
-- Flags for painting through both phases.
pub mod Stages
-- Flags for painting at the end of a frame in two phases.
pub mod Flags
-- A tree as if it was brought in one step.
pub mod AsOne
-- What looks as before at both ends.
pub mod Middle
-- What plans mark asks for painting.
pub mod Asked
-- Boundaries that are flagged at the end, and their groups.
pub mod Ending
-- What a frame in two phases paints.
pub mod Counts
-- What an outer flush leaves of what painting reads.
pub mod SeenLeft
-- That is what was, or what the frame ends with.
pub mod SeenEnds
-- By handle.
pub mod SeenBetween
-- So it is of each node that is kept.
pub mod SeenStill
-- What holds of a root's tree.
pub mod SeenFrame
-- Live ranges, and Viewports that are put back.
pub mod SeenPut
