pub mod ArenaLemmas
