-- lemmas by topic

-- fields that need no quotes
pub mod PlainFields
-- what a map has at a key, seen through a view
mod Viewed
-- the last reading of each meter, as it is found and as it is defined
mod LastReadings
