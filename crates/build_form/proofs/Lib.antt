-- Lemmas on the definitions, for their laws and for the programs that build.
-- What is below a node, and what comes of a step
pub mod Below
pub mod Outcomes
pub mod Eaching
pub mod Walked
-- Arrivals, fields and widgets are typed, and each node is well built
pub mod Arriving
pub mod Typing
pub mod Entered
pub mod Provided
-- The second phase, and the beginning
pub mod Filled
pub mod Started
-- Numbers are old or new, and few; trees are small
pub mod OldOrNew
pub mod Counted
pub mod Stepping
pub mod FewGiven
-- Trees can be laid out
pub mod Layable
-- Handlers belong to nodes above
pub mod Owning
pub mod OwnerLemmas
-- Each tree is well built
pub mod WellMade
-- No number stands twice
pub mod Times
pub mod Regions
pub mod Apart
pub mod Matched
pub mod Placed
pub mod Differ
pub mod Alike
-- States survive
pub mod KeptStates
-- The worked builds
mod Worked
