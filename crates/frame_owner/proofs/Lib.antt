-- Render nodes that change nothing of which a tree speaks.
mod Named
-- A tree that was built, on its render nodes.
mod Shown
-- The element with a number.
mod Found
-- Nodes of a tree, and its render nodes, by number and kind.
mod Looks
-- Where nodes with one number go on from one another.
mod Alike
-- The first phase's nodes are in the whole tree.
mod Filled
-- Each number that the first phase gives is in its tree.
mod Covered
-- The numbers of render nodes, which differ.
mod Numbered
-- No render node becomes a RepaintBoundary, or stops being one.
mod Kept
-- No two render nodes have one number, while a build goes on.
mod Numbers
-- Both steps of a build, as steps of render nodes.
mod Steps
-- Below an Inherit stands what its widget has.
mod Inherits
-- No lazy list is asked how much it would like.
mod Unasked
-- What is left of render nodes.
mod Left
-- Below lazy lists stands what is left of their old items.
mod Items
-- The render nodes of a first phase can be laid out.
mod LaysOut
-- The live ranges of lazy lists.
mod Ranged
-- Without items the whole tree has the render nodes of the first phase's tree.
mod Unfilled
-- A build whose second phase comes to a fault has the tree of the first one.
mod Stopping
-- Render nodes are brought to those that they are.
mod Itself
-- A build brings render nodes in one step.
mod Brought
-- A build's RepaintBoundaries stand where those with their numbers stood.
mod Fences
-- There is room for the nodes of a frame.
mod Roomy
-- Between the phases of a build.
mod Waiting
-- What a build leaves.
mod Built
-- What a frame does.
mod Working
-- The render nodes of a tree by the numbers of its nodes.
pub mod Finding
-- The render node of a Viewport.
mod Windows
-- A tree of which one Viewport is scrolled.
mod Scrolled
-- The numbers of elements.
mod Numbering
-- The render nodes of a tree.
mod Drawn
-- A mark of a number that no element has.
mod Marking
-- Of what is built is no more than of what is due.
mod Due
-- Whether a lazy list is among elements.
mod Listed
mod Unlisted
-- Trees without global keys.
mod Keyless
-- What is kept of a tree that is settled.
mod Known
-- A tree that is settled for the root of which that is kept.
mod Settled
-- Widgets that render nodes take in their places: what a plan of all nodes says, how they are written, and what is brought so.
mod Taken
mod Written
-- Their children come into other orders.
mod Ordered
-- Such orders, worked by hand.
mod WorkedOrders
mod Taking
-- What changes of render nodes where elements take widgets.
mod Changing
-- How many children render nodes have, and the orders into which these come.
mod Counted
mod Arranging
-- What is told of such changes of elements.
mod Told
-- Where the component stands below which they do.
mod Component
-- Elements that took widgets have their render nodes as before.
mod Redrawn
-- What a frame shows stands still.
mod Still
-- A tree of which one component alone is marked.
mod Ready
-- A component is built in its place, and those that read what it gives.
mod InPlace
-- One component was built anew in its place.
mod Renewed
-- A build that went on alone.
mod Going
