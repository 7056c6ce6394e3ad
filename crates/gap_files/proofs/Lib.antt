pub mod FrontLaws
pub mod MarkLaws
pub mod StepLaws
pub mod DrainLaws
mod PutLaws
