pub mod ExtentLemmas
pub mod CutLemmas
pub mod WrapLemmas
pub mod TableLemmas
pub mod RowLemmas
pub mod ApartLemmas
