-- The users of delegates after an edit.
pub mod Used
-- The users that go with a node, and with all that is below it.
pub mod Dropped
-- Trees of which live ranges alone are taken away.
pub mod Ranged
-- The users of delegates after removals, and after a plan.
pub mod Planned
-- What marking nodes changes.
pub mod Marking
-- Of which trees nothing is remarked after an edit.
pub mod Quiet
-- What a layout reads of two kinds.
pub mod SameReads
pub mod Keeping
pub mod Updating
pub mod Noting
-- What a plan changes covers it.
pub mod Covering
-- After a commit and the marks of what it changed for layout.
pub mod LayoutParts
