-- Flags in a region, and the marks that keep them there.
pub mod Inside
-- What was in the region of the last frame's tree is in that of the new one.
pub mod Twins
-- What a plan changes is reached.
pub mod Changed
-- Marks for painting change nothing for layout.
pub mod Painted
-- Flags once a tree is brought to a build.
pub mod Synced
-- Flags between two frames, once a line has touched something more.
pub mod Touching
-- How many rules a flush runs.
pub mod Counting
-- Painted nodes in groups that ask.
pub mod Asking
-- Paint flags between two frames.
pub mod Groups
-- A root that needn't be laid out was asked in the view.
pub mod Asked
-- Trees after a flush.
pub mod Flushed
-- What is found by its number.
pub mod Searching
-- The frames that layouts left.
pub mod Framed
-- What a whole frame leaves.
pub mod Settled
-- Small trees.
pub mod Worked
-- Where nodes stand, and what is painted, by numbers.
pub mod PaintSearch
-- What is marked for painting is in groups that ask.
pub mod Repaint
-- Boundaries that are flagged, and their groups.
pub mod Regroup
-- A plan's forest with its marks, and as a layout leaves it.
pub mod Relaid
-- What a plan marks for painting.
pub mod Flagging
-- A whole frame, for painting.
pub mod Drawn
-- A frame that was brought and laid out.
pub mod Frames
-- What is painted is in the paint region.
pub mod Region
-- Nodes in the window after a layout.
pub mod Put
-- The numbers of nodes, one after another.
pub mod Differing
-- What is shown of nodes.
pub mod Shown
-- A line between two frames.
pub mod Lines
-- A frame of a screen.
pub mod ScreenFrames
-- What is known between two lines of a session, and stays known.
pub mod Known
-- Lines that leave the render nodes.
pub mod Quiet
-- Lines that touch something.
pub mod Touched
-- The view of a laid root, and numbers that a layout has none of.
pub mod Sizes
-- A frame of a session.
pub mod Going
-- A session before its first line.
pub mod Beginning
