pub mod FormLemmas
pub mod ItemsLemmas
pub mod ObjectLemmas
pub mod ProgramLemmas
pub mod TakeLemmas
pub mod TemplateLemmas
pub mod WalkLemmas
