pub mod Program
pub mod Replays
pub mod Usage
pub mod inside
