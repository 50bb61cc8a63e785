-- What stands at the handles of children is what their plain nodes say.
pub mod Children
-- An old element below one that is known.
pub mod Climbed
-- What the elements of a tree tell above all of them is told at each.
pub mod Told
-- What a component keeps of what its body gave.
pub mod KeptOutput
-- Which fields a typed widget declares, and which widgets may follow one another.
pub mod Follows
-- What a claim of a global key tells, and what the registry records after it.
pub mod Claims
-- The element of a widget: an old one, or a new one.
pub mod Elements
-- A widget is opened step by step.
pub mod Opens
-- What a walk asks holds on where elements are added and keys are met.
pub mod Onward
-- The render node of a widget: that of its old element, or a new one.
pub mod Drawn
-- What a widget owns, by where its element comes from.
pub mod Owns
-- Elements that were entered are recorded for their global keys.
pub mod Holding
-- Where no widget of a list has a key, none repeats.
pub mod Keyless
-- Where a widget gives no name a value, the names have the same values below it.
pub mod Providing
-- What is given to an element as its child widgets.
pub mod Gives
-- What an old element had below it.
pub mod Had
-- Elements that stand at the places of as many widgets are what these are matched to.
pub mod Paired
-- Where an element has nothing below it, its child widgets come with nothing beside them.
pub mod Fresh
-- What is asked of old elements stays so where elements are added.
pub mod Later
-- What the walk has come to, part by part.
pub mod Cycling
-- What is asked of old elements, and known of them, is so of those right below one.
pub mod Going
-- The node that had a global key is that of the element which the registry names.
pub mod Held
-- The last frame, as a walk takes it.
pub mod Framed
-- What is made in the tree of render nodes, step by step.
pub mod Makings
-- What the walk of the first phase comes to.
pub mod Begun
-- Which nodes lose a child to a plan.
pub mod Lost
-- How many nodes both trees have after a build.
pub mod Sizes
-- The plans of a walk become the trees.
pub mod Whole
-- What the walk of the first phase leaves can be committed.
pub mod Firstly
-- Which children of a lazy list are entered.
pub mod Itemized
-- The items of a lazy list as the definition says them.
pub mod ServedOne
-- Lazy lists that wait are served one after another.
pub mod ServedLemmas
-- How far the second phase has come: the lists that were served so far.
pub mod ServedAll
-- The lists of a plan, entry by entry.
pub mod Ranged
-- The render nodes of the lazy lists that wait.
pub mod Listed
-- What stays below lazy lists, as it is planned child by child.
pub mod Leaving
-- Items that stay, worked by hand.
pub mod WorkedItems
-- What stays stands nowhere else in the plan.
pub mod Apart
-- What stands between the two phases, where old items stay.
pub mod Stayed
-- Lazy lists that keep their items aren't among the nodes that a plan changes.
pub mod Unmoved
-- Lazy lists of a first phase none of whose items is claimed.
pub mod Unclaimed
-- The second phase of a build, from the first one's plans and what was planned for the items.
pub mod Completed
