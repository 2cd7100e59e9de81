pub mod OverFiles
pub mod Shelves
