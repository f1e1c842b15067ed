pub mod Bound
pub mod Criteria
pub mod Headline
pub mod Judged
pub mod Lines
pub mod Outputs
pub mod Rules
pub mod Verdict
