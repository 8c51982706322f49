-- What the calls refuse, answer and leave.
pub mod Lent
pub mod Refusals
pub mod Opening
pub mod Admission
pub mod Stepping
pub mod Collection
pub mod Rebuilding
pub mod Scan
pub mod Answers
pub mod Premises
pub mod Sums
pub mod Outcomes
