-- Request 12 of document 02: which pools put the sum of lows over a limit. What is claimed of them is in the crate `history`. Then the private
-- vocabulary.
pub mod WhichPools
pub mod Private
