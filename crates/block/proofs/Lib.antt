-- The algebra of exclusive or: on numbers, on the sum of a function at the numbers below a bound, and on blocks; loops over bytes.
pub mod Xor
pub mod Sums
pub mod Blocks
pub mod Filled
pub mod Zeros
pub mod Carried
