pub mod JudgeLaws
pub mod PairLaws
pub mod BuiltLaws
pub mod WalkLaws
pub mod TreeWalks
