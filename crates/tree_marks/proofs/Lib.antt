-- One way through the forest sets the marks of a whole list.
pub mod Sweeps
-- What the marks of a list leave told to the nodes above.
pub mod Closing
-- What a commit and the marks of the changed nodes leave of the others.
pub mod Settling
-- What holds once they are marked: laws of nodes without a flag survive.
pub mod Surviving
-- Small trees.
pub mod Worked
-- Going up the way from a node sets its marks.
pub mod Climbing
-- What is counted on the way up.
pub mod ClimbSteps
-- Setting marks on the way up, node by node.
pub mod MarkSteps
-- Setting the marks of a list.
pub mod MarkEach
-- What one way through a forest, and through a tree, sets at each handle.
pub mod SweepForests
pub mod SweepTrees
-- Marks of slots, and the handles that they name.
pub mod SweepSlots
-- What holds of a forest holds of the store in which it stands.
pub mod Stores
-- Where each node has both marks nothing changes.
pub mod MarkedNodes
