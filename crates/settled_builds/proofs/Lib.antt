-- Nodes that arrive beside themselves.
mod Selves
-- Each node with a global key is the first that has it.
mod Holding
-- A build leaves a settled tree as it is.
mod Staying
-- It builds nothing.
mod Counting
-- The tree that a build gives is settled.
mod Settling
-- It stays so where its nodes are scrolled, and where other numbers are marked.
mod Editing
-- Where fields are set it is stale there alone.
mod Setting
-- Widgets that are matched one by one, and the node that is one's partner.
mod Updating
-- Of what is entered with the values of the last build the marked components are built.
mod Refreshing
-- Trees without global keys.
mod Keyless
-- Below a node, and beside it, a build enters nodes with other numbers.
mod Others
-- It enters the stale component once.
mod Once
-- The worked trees.
mod Worked
-- It stays stale where nodes are scrolled, and where its fields are set again.
mod Stale
-- What holds of the numbers of a tree.
mod Numbers
-- Where its number alone is marked, and what lines leave of that.
mod Marked
-- Where its body gives too much a build stops there.
mod Stopping
-- Kinds of one type: both are drawn alike.
mod Redrawing
-- A build goes on from a node that took another widget as it would from the old one.
mod Alike
-- Spots of nodes.
mod Spots
-- Up to the first node that is marked there is nothing to be built anew.
mod UpTo
-- So it does on the way to a component whose children took what its body gives.
mod Reaching
-- What it enters is the same.
mod Seeing
mod SeeingOn
-- And so it is in a whole build.
mod GoingOn
-- What stood at a spot is found among what was entered last time.
mod Was
-- A whole build enters once the node to which it comes as the tree stands.
mod OnceEntered
-- Lists that have the same items in another order.
mod Shuffles
-- The nodes that take widgets are the old ones in another order.
mod Picked
-- Marks without a number.
mod Without
-- A node that took another widget is settled and fresh as it was.
mod Retakes
-- The worked steps.
mod WorkedSteps
-- Kinds that have their own children.
mod Own
-- What stays of a tree in which those below the node with a number took widgets.
mod Changed
-- That tree is as ready as the old one, without the mark.
mod Readied
-- What was entered of a tree is found among what is entered of the new one.
mod Entries
-- A build counts one component less.
mod Less
-- Each step leads to what the tree before it does.
mod Leading
-- Where the body of the first marked component stops a build, that has built this component alone.
mod Stopped
-- What lines leave of a tree of which some components are to be built anew.
mod Lines
-- At the component itself whose children took what its body gives a build goes on alike, and enters the same.
mod Taken
mod TakenSeen
-- Values of inherited names that differ in one name at most.
mod Values
-- At a component below which the one Inherit gives another value a build goes on alike, and enters the same.
mod Regiving
-- The tree in which it does is ready, with the readers of the name marked.
mod Regived
mod RegivenReady
-- A build enters a reader with that value.
mod Valued
mod ValuedOn
-- Then it counts one component less.
mod RegivenLess
mod RegivenLeads
-- What is laid out is the same.
mod RegivenDrawn
-- And the first phase of a build comes to what it would have come to.
mod FirstPhase
-- Steps follow one another.
mod Following
-- The worked rearrangements.
mod WorkedRearranged
-- Of what is gathered where children take widgets, that of a number is that of the child that has it.
mod Telling
-- What is laid out of nodes that take widgets.
mod Drawing
-- And of the whole tree.
mod DrawingOn
-- The first number that is marked.
mod Firsts
-- Some node of a tree, and the one at a spot.
mod SomeSpot
-- Spots of other components stay.
mod SpotsStay
-- What has no render node has one child, as before.
mod Vanishing
-- Of a marked component nothing is told.
mod Untold
-- What is laid out after several steps.
mod Joining
