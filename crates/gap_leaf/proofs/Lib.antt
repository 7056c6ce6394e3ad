pub mod OrderLaws
pub mod EntryLaws
pub mod TryLaws
pub mod KindLaws
pub mod CandidateLaws
