mod Weights
mod Finding
mod Labels
mod Hearing
mod Giving
