pub mod Mirrors
pub mod Placing
pub mod Played
pub mod ReportWriting
pub mod Restarting
pub mod Views
pub mod Worlds
