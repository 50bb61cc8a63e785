-- lists that are left of others
-- paint
pub mod Unread
-- hits
mod HitOrders
-- semantics
mod Ids
mod Doers
-- semantics and focus of a tree without what is hidden
mod Unheard
-- focus
mod FocusSteps
mod Reading
mod WorkedOrders
