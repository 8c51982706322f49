-- A stripe, its request, and what holds of them.
pub mod Group
pub mod Request
pub mod Blocks
pub mod Invariant
pub mod Run
