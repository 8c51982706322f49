-- Laws of the graphs, by subject.
pub mod Guard
pub mod Graphs
pub mod Numbers
pub mod Few
pub mod Laws
pub mod Shifts
pub mod Rules
pub mod Positions
pub mod BySets
pub mod Forerunners
pub mod InOrder
pub mod Sizes
pub mod Members
