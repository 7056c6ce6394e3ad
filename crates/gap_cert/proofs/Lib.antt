pub mod Numbers
pub mod FormatLaws
pub mod GrammarLaws
pub mod RunLaws
pub mod WholeLaws
pub mod SameLaws
