pub mod Common
pub mod PerformLemmas
pub mod WroteLemmas
