pub mod Places
pub mod Cutting
pub mod Points
pub mod Having
pub mod Frames
pub mod Descent
