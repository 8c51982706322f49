-- The choice of a graph, its steps and their order.
pub mod Named
pub mod Choice
pub mod Steps
pub mod Order
pub mod Sums
pub mod Asked
