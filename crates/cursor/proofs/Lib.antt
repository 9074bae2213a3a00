pub mod DocumentEvents
pub mod EventSteps
pub mod Standing
