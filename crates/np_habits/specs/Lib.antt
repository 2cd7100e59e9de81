pub mod Notices
pub mod FormWords
