pub mod HangulParts
pub mod LineCuts
pub mod WordValues
pub mod WordCuts
