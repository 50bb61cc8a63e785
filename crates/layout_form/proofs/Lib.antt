pub mod Objects
mod Worked
pub mod Meets
pub mod Extents
mod Keeps
mod Blind
mod Scroll
mod Proxies
pub mod Rounds
pub mod Framed
mod Seen
mod Fixed
pub mod Starts
mod Members
mod Again
mod Numbered
mod Corrected
