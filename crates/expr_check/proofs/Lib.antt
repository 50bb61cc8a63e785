pub mod NamesLemmas
pub mod ExprsLemmas
pub mod Sound
pub mod Whole
pub mod Typing
pub mod Seeing
pub mod HandlerLemmas
