-- lemmas of this crate alone

-- a mask of the walk with one more digit
pub mod Branches
-- what visits find of the meters whose numbers lie in a range
pub mod Covers
-- how many selections a walk makes
pub mod Lengths
-- the meters that match a mask of first digits are those whose numbers lie in a range
pub mod Matching
-- masks that fix the first digits, one more digit at a time, and the numbers that they match
pub mod Prefixes
-- lists of numbers that ascend within a range, and lists that have an element
pub mod Ranges
-- a search on a bus makes the selections of the walk one after the other
pub mod Sweeps
-- a walk finds what its range has
pub mod Walks
-- a search ends
pub mod Rounds
-- a prefix of one piece of a text is one of the text
mod TextFronts
-- two pieces of what a search found
mod Founds
