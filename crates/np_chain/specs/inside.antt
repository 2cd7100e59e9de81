pub mod BreakLists
pub mod BreakTests
pub mod KeptRows
