pub mod ReadingLaws
pub mod RuleLaws
pub mod WorkLaws
pub mod PortLaws
pub mod JobLaws
pub mod CertLaws
pub mod ClaimLaws
pub mod DemoLaws
