-- What boxes would like.
pub mod Extents
-- What a rule reads of a kind and of a setting.
pub mod Reading
-- What a node reads of its children, before a change and after it.
pub mod Seen
-- Children with a flag that have the frame which their bounds give.
pub mod Firm
-- What a delegate of one name means is read where it is named.
pub mod Naming
-- After a commit and its marks each node agrees with its children.
pub mod Kept
-- Closedness by the members of nodes, against that by what is stored.
pub mod Apart
-- Trees without the items of lazy lists.
pub mod Items
-- The changes of a tree, each with its marks.
pub mod Changes
