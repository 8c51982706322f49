-- The laws of the calls' definitions.
-- What is lent is right, and the calls over a table: number, what an accepted one has passed and leaves, a refused one changes nothing
pub mod Lent
pub mod Replies
pub mod Openings
pub mod Admissions
pub mod Steppings
pub mod Collections
pub mod Scannings
pub mod Reports
pub mod Starts
pub mod Rebuildings
-- The refusals asked of the table itself
pub mod TableRows
-- What a step, an admission and a collect alter, block by block
pub mod Frames
pub mod Steps
pub mod Rank
pub mod Puts
pub mod Kept
-- Bytes stay bytes
pub mod Bytes
-- What the code's proofs rest on.
-- The tests: rows 1 to 4, and what an accepted call rests on
pub mod Choices
pub mod Within
pub mod LentRows
pub mod Accepted
-- The work: units that are moved, blocks that are added up, a step by its kind
pub mod Units
pub mod Adding
pub mod Performed
-- What the calls hand back
pub mod Outcomes
pub mod ScanBy
pub mod OpeningBy
pub mod StandingOf
