-- What a session keeps, and which state it stands for.
pub mod NodeState
pub mod StandsFor
pub mod Holds
pub mod Ending
pub mod Works
pub mod Memory
