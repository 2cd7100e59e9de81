pub mod LineReading
pub mod LineValues
pub mod Rust
pub mod ScheduleReading
