-- Trees in which nothing differs.
pub mod Staying
-- A node that gets the widget that it has.
mod Renewing
-- The root, before it is laid out and afterwards.
pub mod Rooting
-- The nodes out of the window after a flush.
pub mod Leaving
-- What a flush leaves.
pub mod Flushing
-- In which bounds it leaves them.
mod Asking
-- Live ranges, stored one after another.
mod Ranging
-- The lists in the window, found one after another.
mod Listing
-- What an outer flush leaves.
mod Outing
-- What an outer flush leaves alone.
mod Sparing
-- The views of lazy lists by number.
mod Viewing
-- Live ranges by trees without the items of lazy lists.
mod Bare
-- A tree in which nothing has to be laid out.
mod Calming
