pub mod KeyFaults
pub mod Reading
pub mod Removed
pub mod Shapes
pub mod Shown
pub mod Told
pub mod Writing
