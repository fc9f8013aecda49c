pub mod Session
pub mod Requests
pub mod ReadingSteps
pub mod Service
pub mod TurnSteps
pub mod Reopened
