-- The definitions that the contracts cite, in reading order.
pub mod Places
pub mod Settled
pub mod Taken
pub mod Looks
pub mod Worked
pub mod Retaken
pub mod Rearranged
pub mod Steps
pub mod Regiven
pub mod WorkedSteps
pub mod WorkedRearranged
pub mod Moved
