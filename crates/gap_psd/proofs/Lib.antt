pub mod FormLaws
pub mod Semidefinite
pub mod ShiftLaws
