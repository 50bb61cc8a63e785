-- Each line is made of few changes
mod Closed
mod RunClosed
mod OwnStates
-- Numbers and what goes with them
mod Lists
mod Sound
mod NumberLemmas
-- Marks
mod MarkLemmas
mod LineMarks
-- The focus
mod WayLemmas
mod FocusLemmas
mod FocusRuns
-- Fields after a frame
mod FrameFields
-- Tweens
mod TweenLines
mod TweenFrames
mod TweenTypes
mod TweenRuns
-- The worked values
mod WorkedLemmas
