pub mod Bound
pub mod KeyLaws
pub mod LimitLaws
pub mod ObjectiveLaws
pub mod OrderLaws
pub mod SpreadLaws
pub mod TableLaws
