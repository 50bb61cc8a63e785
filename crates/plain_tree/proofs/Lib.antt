pub mod Numbers
mod Giving
mod Numbered
mod Orders
mod Kept
mod Walking
mod Worked
