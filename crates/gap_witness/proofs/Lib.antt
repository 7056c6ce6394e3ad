pub mod PlaceLaws
pub mod CutLaws
pub mod GradientLaws
pub mod RoundLaws
pub mod DescentLaws
pub mod WalkLaws
pub mod BudgetLaws
pub mod VoidLaws
