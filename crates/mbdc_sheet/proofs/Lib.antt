-- lemmas by topic

-- the first part of a text
pub mod Marks
-- the end of a file's lines
pub mod Ends
