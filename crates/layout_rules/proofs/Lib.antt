-- Forests as a layout sees them.
mod Seeing
-- Places in a tree.
pub mod Placing
-- Forests with one of their trees replaced.
pub mod Putting
-- Subtrees of an arena where a node is written, or a child's subtree becomes another.
pub mod Turning
-- Duties done at the trees of a forest.
pub mod Served
-- What a course leaves is what its duty is.
pub mod Doing
-- What children may be asked.
pub mod Allowed
-- A rule can be run over the frames of its children.
pub mod Making
-- Each course ends well.
pub mod Stepped
-- What is read by handles is what is seen.
mod Readings
-- Parts of what a layout left, read one by one.
mod Stored
-- Lists that a loop fills.
mod Filling
-- Lists whose children are all there.
mod FixedLists
-- Children put at their places.
mod Standings
-- The loops of the walk.
pub mod Walking
-- Each node is listed once at most.
pub mod Listed
-- The walk at one node.
pub mod Walked
-- What is listed of what children were told.
mod Heard
-- The walk at a node that nobody is below.
mod Alone
-- What a rule leaves of a node that nobody is below.
mod Bare
-- What a rule leaves of a box with one child.
mod OneBelow
-- The walk at a box with one child.
mod OneWalk
-- What is below a node whose course ends.
pub mod Below
-- A lazy list that gets a flag is listed.
mod Flagged
-- Whether delegates are plugged, as a walk leaves it.
pub mod Plugged
-- How far slivers can be scrolled through, as it is read.
pub mod Scrolling
-- A rule run over what is read.
pub mod Running
-- What children may be asked, and where a walk stands between its rounds.
pub mod Between
-- The size of a box that was laid out.
mod Sizing
-- What a layout leaves for painting.
pub mod Repainting
-- Marks for painting after a layout.
mod Repainted
-- What stands apart from a tree that is laid out.
mod Apart
