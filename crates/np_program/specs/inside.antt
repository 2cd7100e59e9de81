pub mod ReplaySteps
