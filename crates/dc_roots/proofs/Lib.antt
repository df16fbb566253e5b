-- lemmas by topic

-- which root is chosen, and what the next one changes
pub mod Choices
-- what is written for a root reads as that root
pub mod Spelled
-- what a write of one sector leaves
mod RootsWriting
