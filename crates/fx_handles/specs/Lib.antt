pub mod Handle
pub mod Arena
pub mod HandleLaws
pub mod ArenaLaws
pub mod Lends
