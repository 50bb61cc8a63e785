-- Regions and groups are whole, and no more than the tree
pub mod Wholes
-- Tests of sameness, and nodes by their numbers
pub mod Sameness
mod Exact
pub mod Found
-- Where nothing happened
mod Quiet
mod QuietBuild
-- Before the first frame
mod FirstFrame
-- Where more is changed
mod More
-- What a layout reads
pub mod ForLayout
-- What a build enters
mod SeenLemmas
mod MadeBuilt
-- The worked scripts
mod Scripts
