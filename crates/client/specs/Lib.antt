-- What the contracts allow, and what comes of calls one after the other.
pub mod Lent
pub mod Packed
pub mod Run
