-- The definitions that the contracts cite, in reading order.
pub mod Hidden
-- what a frame shows
pub mod OwnRecords
pub mod PaintRole
pub mod Painted
pub mod Remarks
pub mod WorkedPaints
-- what a point meets
pub mod HitRole
pub mod Hits
pub mod Members
pub mod WorkedHits
-- what it means
pub mod Sem
pub mod SemanticsRole
pub mod Fragment
pub mod Semantics
pub mod Acts
pub mod SemanticsText
pub mod SemanticsLaws
pub mod WorkedSemantics
-- in which order detectors take the focus
pub mod Spot
pub mod FocusRole
pub mod FocusOrder
pub mod FocusSteps
