-- What is stored at a node, and what stands below it.
mod Reading
-- The notes of places that are left.
mod Noting
-- Where nothing is remarked of any node.
mod Quiet
