pub mod VisibleSteps
