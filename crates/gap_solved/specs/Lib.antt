pub mod Solveds
