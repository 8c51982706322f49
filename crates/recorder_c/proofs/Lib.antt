-- Why what the exported functions' contracts allow is what `client` allows.
pub mod Cited
