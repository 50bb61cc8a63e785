-- What a plan with the items of lazy lists is, node by node.
pub mod Planned
-- A part of a tree that was redrawn.
pub mod Part
-- Outer nodes, and which numbers aren't theirs.
pub mod Outer
-- What stood in the last frame's tree.
pub mod Was
-- What a layout reads as before.
pub mod Kept
-- What is marked differs.
pub mod Differs
-- The nodes of a first phase.
pub mod First
-- What an outer flush leaves.
pub mod Laid
-- The items of lazy lists.
pub mod LeftItems
-- Nodes that aren't claimed, in the first phase.
pub mod Moved
-- And before the second one.
pub mod Ranged
-- The second phase, node by node.
pub mod Again
-- What is known before the second phase.
pub mod Second
-- The whole build's nodes.
pub mod Whole
-- A frame in two phases.
pub mod Phased
-- How often it lays out.
pub mod Twice
-- A fault of the second phase.
pub mod Faulty
-- What a session knows.
pub mod Going
-- Frames that pass between the phases.
pub mod Passing
-- What painting asks of a frame in two phases.
pub mod PaintsBuilt
-- What it paints.
pub mod PaintsCount
