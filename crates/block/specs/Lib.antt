-- Blocks as lists of bytes.
pub mod Blocks
