pub mod ChangeLaws
pub mod CountLaws
pub mod HoldingLaws
pub mod RiskLaws
pub mod FallLaws
