pub mod Lines
pub mod Answers
pub mod Pushed
pub mod Runs
pub mod Whole
pub mod Laws
pub mod inside
