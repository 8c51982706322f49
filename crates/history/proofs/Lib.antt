-- Why the promise is kept, in the order of the argument. The theorems that others cite are in Demand3.
-- Placement, rows, tables, and what a stripe's theory looks at
pub mod Places
pub mod Positions
pub mod Rows
pub mod Gather
pub mod Facts
pub mod Parities
pub mod Near
pub mod Replies
-- The invariant, and what one record's turn leaves of it
pub mod Invariant
pub mod Turn
-- Each event keeps it
pub mod ReadOff
pub mod Opened
pub mod Records
pub mod Admit
pub mod View
pub mod Step
pub mod Done
pub mod Carried
pub mod Report
pub mod PutRight
pub mod Fills
pub mod Collect
pub mod Decay
pub mod Books
pub mod Cards
pub mod Events
-- The promise follows
pub mod Stripes
pub mod Promised
pub mod Refill
-- Nothing depends on the bytes of the card that is out
pub mod Unseen
pub mod Scans
pub mod Calls
pub mod FillsAlike
pub mod Alikes
pub mod Independent
-- The theorems
pub mod Demand3
pub mod Serial
pub mod Finish
-- Shown by computation
pub mod Compute
pub mod Starred
pub mod Runs
pub mod Served
pub mod Refilled
pub mod Needed
pub mod Impostors
pub mod Cheats
