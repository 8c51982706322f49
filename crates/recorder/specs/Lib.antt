-- How a C function's answer is packed, and what the engine's functions answer and leave.
pub mod Packing
pub mod Engine
