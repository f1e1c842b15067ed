pub mod Common
pub mod AnswerLemmas
pub mod QueryLemmas
pub mod JudgedLemmas
pub mod RoomLemmas
pub mod CursorLemmas
pub mod RecordLemmas
pub mod NarrowLemmas
