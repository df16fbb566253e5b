-- lemmas by topic

-- a page beside its file
mod Shown
-- what the commands that write an image have done, and what stops them before
mod Commands
-- whom a poll asks
mod Asked
