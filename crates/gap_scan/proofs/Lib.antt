pub mod EntryLaws
pub mod ScanLaws
pub mod ScannedLaws
pub mod MoreLaws
pub mod FaultLaws
