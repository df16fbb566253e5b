-- lemmas by topic

-- the records of several telegrams
pub mod Sents
-- what is told of a reading
mod Told
-- the days after 1 January 1970 are those of the calendar
pub mod Days
