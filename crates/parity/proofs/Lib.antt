-- Where a card's block lies in the image, the sum of a stripe's blocks, the stripes that a scan passes over, the stripe and byte that it finds, what it answers,
-- and a block that is restored.
pub mod Inside
pub mod Sums
pub mod Passing
pub mod Found
pub mod Replies
pub mod Small
pub mod Restored
