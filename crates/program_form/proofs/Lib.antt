pub mod TemplateLemmas
