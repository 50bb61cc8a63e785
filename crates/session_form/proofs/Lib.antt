-- Lemmas on the definitions, for their laws and for the programs of a session.
-- Lists of values, notes, and where a text stands
pub mod ItemsLemmas
pub mod NoteLemmas
pub mod PlaceLemmas
-- A node of the tree and its fields; what `set` comes to
pub mod TreeLemmas
pub mod SetLemmas
-- A refused line, and how many frames a command adds
pub mod QuietLemmas
pub mod CountLemmas
-- A frame shows the tree that there is after it
mod AgainLemmas
