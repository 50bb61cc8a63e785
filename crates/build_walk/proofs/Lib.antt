-- What expressions give depends on the inherited values that they read.
pub mod Reading
-- So does what templates give.
pub mod Outputs
-- What steps leave, and when two walks take the same steps.
pub mod Stepping
-- What is kept is what would be built.
pub mod Keeping
-- What widgets go on from is known where the old tree is.
pub mod Arriving
-- What is known of a widget that was entered before anything below it is.
pub mod Opened
-- A walk that keeps what is right comes to what the build comes to.
pub mod Reentering
-- In a tree that a build makes each component has below it what its body gives.
pub mod Made
-- What is known of a tree with these properties is right.
pub mod Knowing
-- A build that keeps what it may comes to what the full build comes to.
pub mod Rebuilding
-- What lines do to a tree leaves each component that isn't marked with what its body gives.
pub mod Editing
-- Which components such a build builds.
pub mod Counting
-- They are due.
pub mod Duly
-- The worked builds.
mod Worked
-- The render nodes that a plan leaves are those of the nodes that the elements are.
pub mod Drawing
-- Plans name no handle twice.
pub mod Handling
-- The second phase is one pass over the lazy lists.
pub mod Serving
-- Plans of items are merged into the plan of the first phase.
pub mod Merging
-- Nothing is below a lazy list of the first phase's tree.
pub mod Bare
-- What a plan leaves as it was.
pub mod Changing
-- What elements tell of the last frame is right.
pub mod Telling
-- What a forest says is said tree by tree.
pub mod Siblings
-- What a plan reports changes, and nothing else does.
pub mod Reporting
-- The states of a session stay such that a build may keep outputs.
pub mod States
-- A node that changes is changed by the words of the work sets.
pub mod Finding
-- Parts of a walk that follow one another are one.
pub mod Walking
-- Widgets that are entered one after another.
pub mod Entering
-- What is known of an element of the last frame is known of those below it.
pub mod Kept
-- A widget is entered once it was opened and what is below it was entered.
pub mod Opening
-- Widgets of one type are drawn alike.
pub mod Alike
-- How many components a walk builds is counted step by step.
pub mod Building
-- What is known of numbers by what elements tell.
pub mod Pasting
-- What elements that stand for a tree say of it.
pub mod Standing
-- What stands once the plans of a build are committed.
pub mod Settled
-- What a build comes to by its first phase, where that ends it.
pub mod Phases
-- What the second phase of a build comes to, and what the forest with items in place says.
pub mod Items
-- What is known of elements stays so where their render nodes keep their numbers and their offsets.
pub mod Redrawing
