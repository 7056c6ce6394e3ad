pub mod ItemLaws
pub mod BodyLaws
pub mod CopierLaws
pub mod CopyLaws
pub mod CloseLaws
pub mod UpgradeLaws
