-- Lemmas on what a session keeps.
-- What holds after a line that goes on
pub mod EndingLemmas
pub mod FaultLemmas
-- What stands for a state, and events
pub mod StandsLemmas
pub mod EventLemmas
-- What stays as it was, frames, a node that is gone
pub mod LikeLemmas
pub mod FrameLemmas
pub mod GoneLemmas
-- The text of what was shown
mod LastLemmas
-- An owner that stands for another tree
pub mod OwnerLemmas
-- Lines: of nodes, roots, delegates, and each command
pub mod LineLemmas
pub mod StatesLemmas
pub mod RootLemmas
pub mod PlugLemmas
pub mod StepLemmas
-- What is found of a number in the render nodes of the last frame
pub mod GoingLemmas
-- Where want of memory may be answered
pub mod MemoryLemmas
-- A frame is never refused
pub mod UnrefusedLemmas
-- What frames and lines count
pub mod SourceLemmas
pub mod WindowLemmas
pub mod CountLemmas
pub mod WorkLemmas
-- What a frame counts.
mod FrameCounts
