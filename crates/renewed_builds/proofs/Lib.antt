-- What is gathered of widgets one after another: what holds of each part, and what a part alone brings.
pub mod Gathered
-- Forests in which elements are written anew, and children come into another order, by handles.
pub mod Written
-- What is gathered of a forest's elements is of its handles alone, and what is of a tree's handles comes from that tree alone.
pub mod Seen
-- What is gathered of elements that take widgets makes of their forest, once it is written, what they become.
pub mod Rows
-- Elements that are written anew one after another.
pub mod Writing
-- What elements change that take widgets, as it is gathered one element after another.
pub mod Changing
-- Which widgets can follow others, as it is tested.
pub mod Followed
-- Widgets with keys that go on from others, each from one with its key.
pub mod GoingOn
-- A list of one widget, or of none, that follows another as long.
pub mod Alone
-- Children that come into another order: no element changes twice, and each has its children once in its order.
pub mod Ordering
-- So it is written, one change after another.
pub mod Reordered
-- What is below one element of a whole forest takes a widget.
pub mod Whole
-- Once the changes, the places and the orders are written, the forest is what it becomes.
pub mod Took
-- The nodes for which elements stand once they took widgets in their places, what they store, and which are flagged.
pub mod Retaking
-- Elements that took widgets stand for the tree in which their nodes did.
pub mod Retaken
-- Elements that stand for a settled tree have the children that their widgets have, each at its place.
pub mod InTurn
-- The values of inherited names at an element are those at the spot of its node.
pub mod Spotted
-- What the body of a component gives, by what its element tells.
pub mod Anew
-- A component stores what its body gave, and isn't to be built anew any more.
pub mod Stored
-- What is below a component took what its body gave.
pub mod Renewed
-- Forests of which each element is changed: what they show, and what would change of them.
pub mod Mapped
-- The flagged elements of a forest, in preorder, are those of the marked numbers.
pub mod Flagged
-- What is so at a spot of one tree is so at the like spot of another one, to which some steps lead.
pub mod Alongside
-- Elements that take widgets, once these are written: what they store stays right, none is written twice, and each keeps its type.
pub mod Becoming
-- The same components are built of a tree whose elements take widgets in their places.
pub mod Counting
-- How far several components have been built anew, before any element takes a widget; and the next one.
pub mod Gone
-- What is below the next component can take what its body gave: then one step more leads on.
pub mod Goes
-- All components were built, and what is below them takes what they gave.
pub mod Ended
-- The one element right below another one takes a widget.
pub mod Below
-- The components that read a name are flagged.
pub mod Marking
-- A tree in which an Inherit takes another one's widget is well built, and each component of it stores what is below it.
pub mod Fitting
-- What an Inherit is that can take another value.
pub mod Regiven
-- What stays of each element then.
pub mod Keeping
-- Then the elements stand for the tree in which it has it.
pub mod Given
-- All that is said of it, from what the edits say.
pub mod Regave
-- Elements that take widgets, worked by hand.
pub mod WorkedTaking
-- Inherits that take another value, worked by hand.
pub mod WorkedRegiving
