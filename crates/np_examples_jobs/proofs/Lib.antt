pub mod ProgramLemmas
pub mod ShelfLemmas
