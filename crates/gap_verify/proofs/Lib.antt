pub mod SaidSame
pub mod FirstLaws
pub mod SideLaws
