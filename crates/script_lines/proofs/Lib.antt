pub mod FormLemmas
pub mod NumbersLemmas
pub mod ReadingLemmas
pub mod TableLemmas
pub mod WordsLemmas
