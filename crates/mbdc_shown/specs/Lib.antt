-- the definitions that contracts cite

-- the headline of a reading, and its current records
pub mod Stand
-- what one telegram reports
pub mod Reported
-- how many more readings an image has room for
pub mod Room
-- the day and the minute of a time stamp
pub mod Utc
