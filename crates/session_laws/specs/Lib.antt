-- The definitions, in reading order.
pub mod Runs
pub mod Closed
pub mod Numbers
pub mod Sound
pub mod Marks
pub mod Focus
pub mod Tweens
pub mod Worked
