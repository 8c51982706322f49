-- Why a run of what the contracts allow is a history, and so keeps the promise.
pub mod Plays
pub mod Some
pub mod Runs
pub mod Kept
pub mod Cited
pub mod Idle
