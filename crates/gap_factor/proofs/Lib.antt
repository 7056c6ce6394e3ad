pub mod FactorLaws
pub mod RootLaws
pub mod ColumnLaws
pub mod LeastLaws
pub mod PlainLaws
pub mod ChoiceLaws
