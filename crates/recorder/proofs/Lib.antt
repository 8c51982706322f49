-- The laws of packing, that every answer has room, and that any two outcomes of a C function are equal.
pub mod Unpacking
pub mod Room
pub mod Outcomes
